-- What callers of the rule need of its definition.
use Rattle.std.specs.Prelude.{None, Option, Some}
use Prim.Native.Nat.{ℕ}
use mathlib.Core.Path.{◌≡◌, refl}
use mathlib.Core.Bool.{false, not, and-false}
use mathlib.Core.List.{List}
use Rattle.pairs.specs.Pairs.{has}
use Rattle.book.specs.Names.{key_set}
use Rattle.book.specs.Maps.{lookup}
use Rattle.book.specs.Book.{bkey}
use Rattle.book.specs.declared.KeyHead.{KeyHead}
use Rattle.types.specs.CheckKeyType.{key_types_anywhere, key_types_allowed, outside, foreign_type, check_key_type}

-- the rule does not go by the value
pub type_any : (i : ℕ) (h : KeyHead) (v w : List ℕ) → check_key_type i (bkey h v) ≡ check_key_type i (bkey h w)
unfolding check_key_type
type_any i h v w = refl

-- a key of type set may stand in every btree
set_outside : (row : Option (List ℕ)) → outside row key_set ≡ false
unfolding outside has key_types_anywhere
set_outside None = refl
set_outside (Some row) = and-false (not (has key_set row))

pub set_anywhere : (btree : ℕ) → foreign_type btree key_set ≡ false
unfolding foreign_type
set_anywhere b = set_outside (lookup b key_types_allowed)
