-- Laws of verdicts.
use Prim.Native.Nat.{ℕ, ◌+◌, ◌≤◌}
use mathlib.Core.Path.{◌≡◌, refl}
use mathlib.Core.Bool.{Bool, true, false}
use mathlib.Core.List.{List}
use native.Mathlib.Omega.{arith}
use borrow.Author.Tests.{ltb-false}
use lib.ListN.{length}
use Rattle.book.specs.declared.Table.{Table}
use Rattle.std.specs.Prelude.{Result, Ok, Err}
use Rattle.book.specs.Book.{header_of, places_of, key_head, key_end, book_of}
use Rattle.book.specs.Refusals.{refuse, ◌then◌, entry_verdict, key_verdict, book_verdict, outcome_of, parse, Verdict, refusal}

-- two checks in turn are passed if each is
pub both_passed : (a b : Verdict) → (a then b) ≡ Ok tt → (a ≡ Ok tt) × (b ≡ Ok tt)
unfolding ◌then◌
both_passed (Ok u) b h = (refl, h)
both_passed (Err r) b h = let z : ◌≡◌ {A = ℕ} 0 1 = cc in absurd (omega arith)

-- a check is passed if its test fails
pub test_fails : (b : Bool) (n p : ℕ) → refuse b n p ≡ Ok tt → b ≡ false
unfolding refuse
test_fails true n p h = let z : ◌≡◌ {A = ℕ} 0 1 = cc in absurd (omega arith)
test_fails false n p h = refl

-- an entry that passes lies within the book
pub entry_fits : (t : Table) (s : List ℕ) (start p : ℕ) → entry_verdict t s start p ≡ Ok tt → p + t.size ≤ length s
unfolding entry_verdict
entry_fits t s start p h = ltb-false _ _ (test_fails _ _ _ (both_passed _ _ h).0)

-- a key that passes lies within the book, with its value
pub key_fits : (trees : Bool) (s : List ℕ) (p : ℕ) → key_verdict trees s p ≡ Ok tt → key_end s p ≤ length s
unfolding key_verdict
key_fits trees s p h = ltb-false _ _ (test_fails _ _ _ (both_passed _ _ h).0)

-- a key is its head of 28 bytes and its value
pub key_end_lem : (s : List ℕ) (p : ℕ) → key_end s p ≡ p + 28 + (key_head s p).len
unfolding key_end key_head
key_end_lem s p = refl
