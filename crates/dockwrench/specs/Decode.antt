-- The findings that stand in a buffer: "A finding is 17 bytes, packed likewise: kind 8, subject 64, object 64".
use Rattle.std.specs.Prelude.{ℕ, zero, suc, List, [], ◌∷◌, get_or, drop}
use Rattle.bits.specs.Bits.{be_at}
use Rattle.findings.specs.Findings.{Finding, finding}

-- the first n of them
unfoldable pub decode : ℕ → List ℕ → List Finding
decode zero buffer = []
decode (suc n) buffer = finding (get_or buffer 0 0) (be_at buffer 1 8) (be_at buffer 9 8) ∷ decode n (drop 17 buffer)
