-- What only contracts of private functions cite: types as the bits of a mask.
use Rattle.std.specs.Prelude.{ℕ, ◌+◌, ◌/◌, ◌%◌, ◌^◌, Bool, cond, List, [], ◌∷◌, eqb, None, Option, Some}
use Rattle.book.specs.Maps.{lookup}
use Rattle.types.specs.CheckKeyType.{key_types_allowed}

-- whether the bit of a type is set in a mask
unfoldable pub in_mask : ℕ → ℕ → Bool
in_mask mask key_type = eqb (mask / 2 ^ key_type % 2) 1

-- a mask with the bit of a type set
unfoldable pub with_bit : ℕ → ℕ → ℕ
with_bit key_type mask = cond (in_mask mask key_type) mask (2 ^ key_type + mask)

-- the mask of some types
unfoldable pub mask_of : List ℕ → ℕ
mask_of [] = 0
mask_of (t ∷ ts) = with_bit t (mask_of ts)

-- that of a row, if there is one
unfoldable pub row_mask : Option (List ℕ) → Option ℕ
row_mask None = None
row_mask (Some row) = Some (mask_of row)

-- that of a btree's row
unfoldable pub allowed_mask : ℕ → Option ℕ
allowed_mask btree = row_mask (lookup btree key_types_allowed)
