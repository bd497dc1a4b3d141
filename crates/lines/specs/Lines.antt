-- Lines of a text, and bytes in hexadecimal.
use Rattle.std.specs.Prelude.{ℕ, zero, suc, ◌+◌, ◌*◌, ◌-◌, cond, ◌&&◌, List, [], ◌∷◌, ◌++◌, get_or, eqb, leb}

-- the value of a hexadecimal digit, 0 to 9 and a to f, and 0 for any other byte
unfoldable pub digit_of : ℕ → ℕ
digit_of b = cond (leb 48 b && leb b 57) (b - 48) (cond (leb 97 b && leb b 102) (b - 87) 0)

-- the first n bytes that digits stand for, two digits to a byte
unfoldable pub decoded : List ℕ → ℕ → List ℕ
decoded ds zero = []
decoded ds (suc n) = decoded ds n ++ ((digit_of (get_or ds (2 * n) 0) * 16 + digit_of (get_or ds (2 * n + 1) 0)) ∷ [])

-- how long the first line of a text is
unfoldable pub line_length : List ℕ → ℕ
line_length [] = 0
line_length (b ∷ bs) = cond (eqb b 10) 0 (suc (line_length bs))

-- the first byte of a line, and 0 for an empty one
abbrev pub mark_of : List ℕ → ℕ
mark_of text = get_or text 0 0
