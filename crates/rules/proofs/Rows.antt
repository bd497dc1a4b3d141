-- The rows of document 01 that are marked †.
use Rattle.std.specs.Prelude.{None, Some}
use Prim.Native.Nat.{ℕ, zero, suc, ◌+◌, ◌^◌, ◌≤◌, ◌<◌}
use mathlib.Core.Path.{◌≡◌, refl, sym, ap, ap₂, ◌∙◌}
use mathlib.Core.List.{List, [], ◌∷◌, ◌++◌, map}
use native.Mathlib.Omega.{arith}
use borrow.Author.Tests.{eq-eqb, ne_eqb}
use Rattle.bits.specs.Bits.{le_at}
use Rattle.findings.specs.Findings.{when, only, each, bytes_of}
use Rattle.pairs.specs.Pairs.{pair, insert, sort}
use Rattle.book.specs.Maps.{lookup}
use Rattle.book.specs.Book.{is}
use Rattle.fields.specs.CheckKeyFields.{has_row, size_zero, snapshot_zero, minimum_value, accounting_position_bytes, accounting_kind, replicas_end, accounting_fields, some_nonzero, some_not_rising, replicas_entry_refused, counters_bad, check_accounting_key, backpointers_start, alloc_v4_bytes, check_alloc_v4_value, accounting_junk, check_position, check_key_fields}
use Rattle.states.specs.StateDistance.{bits_apart, nearer, state_distance, subvol_states}
use Rattle.states.specs.CheckStateWords.{state_required, subvol_state_unset, subvolume_word, subvolume_state, check_state_words}
use Rattle.parents.specs.Roots.{one_more, root_via, root_within, root_of}
use Rattle.parents.proofs.Links.{link, link_to, root_more, root_full, root_here}
use Rattle.buckets.specs.FreeSpace.{no_run, is_free, alloc_range, used_buckets, first_or, set_findings, run_findings, held_run, held_runs, gaps, gap_findings, free_space}
use Rattle.rules.specs.Rows.{Row, kinds, numbers, word, subvolume, state_kinds, alloc_v4_kinds, one_pointer, replicas, line, line_root, hole, drawn_root, own_root, flat, marked, drawn_marked, rows}
use Rattle.rules.proofs.DrawnRows.{drawn_line, drawn_one}

-- CHAINS OF LINKS

line_at : (last n j i : ℕ) → j < n → i ≡ last + j → lookup (suc i) (line last n) ≡ Some i
unfolding line lookup
line_at last zero j i l e = absurd (omega arith)
line_at last (suc n) zero i l e = rw (eq-eqb (suc i) (suc last) (omega arith)) (ap Some (omega arith))
line_at last (suc n) (suc j) i l e = rw (ne_eqb (suc i) (suc last) (omega arith)) (line_at (suc last) n j i (omega arith) (omega arith))

-- from id k + 1 of a line k links lead to the root, and fewer don't
line_link : (n k : ℕ) → suc k < n → link (line 0 n) (suc (suc k)) ≡ Some (suc k)
line_link n k l = link_to (line 0 n) (suc (suc k)) (line_at 0 n (suc k) (suc k) l (omega arith)) (omega arith)

line_root_lem : (n k most : ℕ) → k < n → k ≤ most → root_within (line 0 n) most (suc k) ≡ Some (1, k)
unfolding one_more
line_root_lem n zero most l m = root_here (line 0 n) 1 most (line_at 0 n 0 0 l refl)
line_root_lem n (suc k) zero l m = absurd (omega arith)
line_root_lem n (suc k) (suc most) l m = rw (root_more (line 0 n) (suc (suc k)) most (line_link n k l), line_root_lem n k most (omega arith) (omega arith))

line_none : (n k most : ℕ) → k < n → most < k → root_within (line 0 n) most (suc k) ≡ None
unfolding one_more
line_none n zero most l m = absurd (omega arith)
line_none n (suc k) zero l m = root_full (line 0 n) (suc (suc k)) (line_link n k l)
line_none n (suc k) (suc most) l m = rw (root_more (line 0 n) (suc (suc k)) most (line_link n k l), line_none n k most (omega arith) (omega arith))

most_links : line_root 1025 ≡ 1 ∷ 1024 ∷ []
unfolding line_root numbers root_of
most_links = ap numbers (line_root_lem 1025 1024 1024 (omega arith) (omega arith))

one_link_more : line_root 1026 ≡ []
unfolding line_root numbers root_of
one_link_more = ap numbers (line_none 1026 1025 1024 (omega arith) (omega arith))

-- the same by drawn parents
drawn_root_lem : (n : ℕ) → n < 2 ^ 32 → drawn_root n ≡ line_root n
unfolding drawn_root line_root
drawn_root_lem n l = ap (λ (t : List (ℕ × ℕ)). numbers (root_of t n)) (drawn_line n l)

drawn_most : drawn_root 1025 ≡ 1 ∷ 1024 ∷ []
drawn_most = drawn_root_lem 1025 (omega arith) ∙ most_links

drawn_more : drawn_root 1026 ≡ []
drawn_more = drawn_root_lem 1026 (omega arith) ∙ one_link_more

own_none : numbers (root_of ((7, 7) ∷ []) 7) ≡ []
unfolding lookup one_more root_via root_within root_of numbers
own_none = refl

drawn_own : own_root ≡ []
unfolding own_root
drawn_own = ap (λ (t : List (ℕ × ℕ)). numbers (root_of t 7)) (drawn_one 7 7 (omega arith) (omega arith)) ∙ own_none

-- THE TABLE

-- what is read of two lists of rows
map_both : (f : Row → List ℕ) (a b : List Row) → map f (a ++ b) ≡ map f a ++ map f b
map_both f [] b = refl
map_both f (r ∷ a) b = ap (λ (l : List (List ℕ)). f r ∷ l) (map_both f a b)

marked_hold : map (λ (r : Row). r.given) marked ≡ map (λ (r : Row). r.said) marked
unfolding marked le_at when only each bytes_of pair insert sort lookup is has_row size_zero snapshot_zero minimum_value accounting_position_bytes accounting_kind replicas_end accounting_fields some_nonzero some_not_rising replicas_entry_refused counters_bad check_accounting_key backpointers_start alloc_v4_bytes check_alloc_v4_value accounting_junk check_position check_key_fields bits_apart nearer state_distance subvol_states state_required subvol_state_unset subvolume_word subvolume_state check_state_words one_more root_via root_within root_of no_run is_free alloc_range used_buckets first_or set_findings run_findings held_run held_runs gaps gap_findings free_space kinds numbers word subvolume state_kinds alloc_v4_kinds one_pointer replicas hole flat
marked_hold = rw (most_links, one_link_more)

drawn_hold : map (λ (r : Row). r.given) drawn_marked ≡ map (λ (r : Row). r.said) drawn_marked
unfolding drawn_marked
drawn_hold = rw (drawn_most, drawn_more, drawn_own)

-- THE THEOREM: every row gives what is said
pub rows_hold : map (λ (r : Row). r.given) rows ≡ map (λ (r : Row). r.said) rows
unfolding rows
rows_hold = map_both (λ (r : Row). r.given) marked drawn_marked ∙ ap₂ ◌++◌ marked_hold drawn_hold ∙ sym (map_both (λ (r : Row). r.said) marked drawn_marked)
