-- The gaps between the runs, one after the other.
use Rattle.std.specs.Prelude.{Option}
use Prim.Native.Nat.{ℕ, ◌+◌, ◌-◌, ◌*◌, ◌^◌, ◌≤◌, ◌<◌, max}
use mathlib.Core.Path.{◌≡◌, refl, sym, ap, ◌∙◌}
use mathlib.Core.Bool.{Bool, true, false, cond}
use mathlib.Core.List.{List, [], ◌∷◌, ◌++◌, append_assoc, append-nil}
use native.Mathlib.Numerals.{add-one}
use lib.ListN.{drop, get_or}
use lib.Dec.{ltb}
use Rattle.findings.specs.Findings.{Finding, finding, when, only, each}
use Rattle.findings.proofs.Walk.{each_any, drop_at, drop_past}
use Rattle.pairs.specs.Pairs.{pairs_of, sort}
use Rattle.pairs.proofs.Words as words
use Rattle.book.specs.declared.Header.{Header}
use Rattle.book.specs.declared.Places.{Places}
use Rattle.book.specs.declared.AllocEntry.{AllocEntry}
use Rattle.book.specs.declared.Entry.{Entry}
use Rattle.book.specs.Book.{data_type_of, alloc_table, alloc_from, entry_at, book_of}
use Rattle.book.specs.Walk.{Opened, alloc_entry_of}
use Rattle.book.proofs.Walk.{parts}
use Rattle.walk.specs.Keys.{gather}
use Rattle.book.proofs.Tables.{entries_step, entries_none}
use Rattle.buckets.specs.FreeSpace.{is_run, is_free, alloc_range, run_findings, gaps, gap_findings, free_space}
use Rattle.buckets.specs.Steps.{run_pair, entry_findings, gap_of, gaps_findings, Fair}
use Rattle.buckets.proofs.Runs.{free_is, held_all}

-- ---- one gap, entry after entry

entry_next : (at to : ℕ) (e : Entry) (xs : List (ℕ × Option ℕ)) → gap_findings at ((e.first, data_type_of e.rest) ∷ xs) to ≡ entry_findings at (alloc_entry_of e) ++ gap_findings (e.first + 1) xs to
unfolding gap_findings entry_findings
entry_next at to e xs =
    rw (free_is (data_type_of e.rest), add-one e.first)
    (sym (append_assoc (when (ltb at e.first) (finding 50 at e.first)) (when (is_free (data_type_of e.rest)) (finding 49 e.first 0)) _))

pub gap_next : (s : List ℕ) (at n p to : ℕ) → 0 < n → {e : AllocEntry} → e ≡ alloc_entry_of (entry_at alloc_table s p)
    → gap_findings at (alloc_from s n p) to ≡ entry_findings at e ++ gap_findings (e.bucket + 1) (alloc_from s (n - 1) (p + 10)) to
gap_next s at n p to some e =
    ap (λ (xs : List (ℕ × Option ℕ)). gap_findings at xs to) (entries_step data_type_of alloc_table s n p some)
    ∙ entry_next at to (entry_at alloc_table s p) (alloc_from s (n - 1) (p + 10))
    ∙ ap (λ (e : AllocEntry). entry_findings at e ++ gap_findings (e.bucket + 1) (alloc_from s (n - 1) (p + 10)) to) (sym e)

pub gap_end : (s : List ℕ) (at p to : ℕ) {n : ℕ} → n ≡ 0 → gap_findings at (alloc_from s n p) to ≡ when (ltb at to) (finding 50 at to) ++ []
unfolding gap_findings
gap_end s at p to e = rw (entries_none data_type_of alloc_table s p e, append-nil)

-- ---- gap after gap

module _ (alloc : List (ℕ × Option ℕ)) where
  gap_first : (b : Bool) (g : ℕ × ℕ) (gs : List (ℕ × ℕ)) → gaps_findings alloc (cond b (g ∷ gs) gs) ≡ only b (gap_findings g.0 (alloc_range g.0 g.1 alloc) g.1) ++ gaps_findings alloc gs
  unfolding gaps_findings each only
  gap_first true g gs =
      let at : ℕ → ℕ × ℕ → List Finding = λ _ g. gap_findings g.0 (alloc_range g.0 g.1 alloc) g.1 in
      ap (λ (l : List Finding). at 0 g ++ l) (each_any at (λ i g. refl) 1 gs)
  gap_first false g gs = refl

  gap_none : gaps_findings alloc [] ≡ []
  unfolding gaps_findings each
  gap_none = refl

  module _ (w : List ℕ) (m i from buckets : ℕ) where
    pub gaps_next : ((k : ℕ) → get_or w k 0 < 2 ^ 64) → i < m
        → gaps_findings alloc (gaps from (drop i (pairs_of w m)) buckets) ≡ gap_of alloc from (get_or w (2 * i) 0) ++ gaps_findings alloc (gaps (max from (get_or w (2 * i + 1) 0)) (drop (i + 1) (pairs_of w m)) buckets)
    unfolding gaps gap_of
    gaps_next small h =
        rw (drop_at (pairs_of w m) i 0 (rw words.length_pairs h), words.first w m small i h, words.second w m small i h)
        (gap_first (ltb from (get_or w (2 * i) 0)) (from, get_or w (2 * i) 0) (gaps (max from (get_or w (2 * i + 1) 0)) (drop (i + 1) (pairs_of w m)) buckets))

    pub gaps_last : m ≤ i → gaps_findings alloc (gaps from (drop i (pairs_of w m)) buckets) ≡ gap_of alloc from buckets ++ []
    unfolding gaps gap_of
    gaps_last h = rw (drop_past (pairs_of w m) i (rw words.length_pairs h)) (gap_first (ltb from buckets) (from, buckets) [] ∙ ap (λ (l : List Finding). gap_of alloc from buckets ++ l) gap_none)

-- the words of a pair that is fair
pub fair_at : (first : ℕ) (w : List ℕ) (m : ℕ) → Fair first (pairs_of w m) → ((k : ℕ) → get_or w k 0 < 2 ^ 64) → (i : ℕ) → i < m → get_or w (2 * i) 0 ≤ max first (get_or w (2 * i + 1) 0)
unfolding Fair
fair_at first w m f small i h = rw (words.first w m small i h, words.second w m small i h) at (f i (rw words.length_pairs h))

-- ---- the rule
pub free_all : {s : List ℕ} {h : Header} {at : Places} → Opened s h at → {xs : List ℕ} → xs ≡ sort (gather (run_pair (book_of s)) s h.keys at.keys)
    → each (λ _ k. only (is_run k) (run_findings (book_of s) k)) 0 (book_of s).keys ++ gaps_findings (book_of s).alloc (gaps h.first_bucket xs h.buckets) ≡ free_space (book_of s)
unfolding free_space gaps_findings
free_all {s} {h} {at} o sorted =
    let q = parts o in
    let held = sorted ∙ ap sort (held_all (book_of s) s h.keys at.keys) in
    rw (held, q.header, q.keys)
