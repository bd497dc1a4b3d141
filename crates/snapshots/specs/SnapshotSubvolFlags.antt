-- The rule `snapshot_subvol_flags` (document 01, kind 36).
use Rattle.std.specs.Prelude.{◌/◌, ◌%◌, Bool, cond, not, List, eqb}
use Rattle.findings.specs.Findings.{Finding, finding, when, only, each}
use Rattle.book.specs.Book.{Bkey, Book}
use Rattle.book.specs.Words.{holds, flags_word, subvolume_word}

-- the subvolume flag, bit 1 of the flags
unfoldable pub flagged : Bkey → Bool
flagged k = eqb (flags_word k / 2 % 2) 1

-- the flag is set without a subvolume, or clear with one
unfoldable pub flag_is_wrong : Bkey → Bool
flag_is_wrong k = cond (flagged k) (eqb (subvolume_word k) 0) (not (eqb (subvolume_word k) 0))

-- 36 snapshot_subvol_flag_wrong (snapshot, subvolume), for snapshots (btree 9, type 22) of 20 value bytes or more
unfoldable pub flag_findings : Bkey → List Finding
flag_findings k = only (holds 9 22 20 k) (when (flag_is_wrong k) (finding 36 k.offset (subvolume_word k)))

-- each snapshot, in key order
unfoldable pub snapshot_subvol_flags : Book → List Finding
snapshot_subvol_flags b = each (λ _ k. flag_findings k) 0 b.keys
