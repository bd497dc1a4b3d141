-- The age of a bucket in the top byte of a run's offset changes no finding of the rule on free space.
use Prim.Native.Nat.{ℕ}
use mathlib.Core.Path.{◌≡◌, refl, ap₂, ◌∙◌}
use mathlib.Core.Bool.{true, cond}
use mathlib.Core.Logic.{⊎_elim}
use mathlib.Core.List.{List, [], ◌∷◌, ◌++◌, map}
use native.Mathlib.Omega.{arith}
use lib.Dec.{eqb}
use Rattle.findings.specs.Findings.{only, each}
use Rattle.findings.proofs.Walk.{each_same}
use Rattle.pairs.proofs.Order.{tested, both_true}
use Rattle.maps.proofs.Places.{each_mapped}
use Rattle.book.specs.Names.{freespace}
use Rattle.book.specs.Book.{Bkey, Book, is}
use Rattle.buckets.specs.FreeSpace.{is_run, run_end, no_run, run_findings, held_run, held_runs, free_space}
use Rattle.rules.specs.AgeBits.{ageless, ageless_book, AgeBits}

-- the number that is read, with the age and without it
same_end : (k : Bkey) → run_end (ageless k) ≡ run_end k
unfolding ageless
same_end k = ⊎_elim (λ e. rw e (omega arith)) (λ e. rw e refl) (tested (eqb k.btree freespace))

module _ (b : Book) where
  -- what a key gives
  run_same : (k : Bkey) → only (is_run (ageless k)) (run_findings (ageless_book b) (ageless k)) ≡ only (is_run k) (run_findings b k)
  unfolding ageless ageless_book is no_run run_findings
  run_same k = rw (same_end k) refl

  held_same : (k : Bkey) → cond (is_run (ageless k)) (held_run b.header (ageless k)) [] ≡ cond (is_run k) (held_run b.header k) []
  unfolding ageless is no_run held_run
  held_same k = rw (same_end k) refl

  -- and all of them
  runs_same : each (λ _ k. only (is_run k) (run_findings (ageless_book b) k)) 0 (map ageless b.keys) ≡ each (λ _ k. only (is_run k) (run_findings b k)) 0 b.keys
  runs_same =
      each_mapped (λ k. only (is_run k) (run_findings (ageless_book b) k)) ageless 0 b.keys
      ∙ each_same (λ k. only (is_run (ageless k)) (run_findings (ageless_book b) (ageless k))) (λ k. only (is_run k) (run_findings b k)) run_same 0 b.keys

  held_all_same : (ks : List Bkey) → held_runs (ageless_book b) (map ageless ks) ≡ held_runs b ks
  unfolding held_runs ageless_book
  held_all_same [] = refl
  held_all_same (k ∷ ks) = ap₂ (λ (x y : List ℕ). x ++ y) (held_same k) (held_all_same ks)

  cleared : free_space b ≡ free_space (ageless_book b)
  unfolding free_space ageless_book
  cleared = rw (runs_same, held_all_same b.keys) refl

plain : (k : Bkey) → is_run k ≡ true → run_end (ageless k) ≡ (ageless k).offset
unfolding ageless is
plain k e = rw (both_true (eqb k.btree freespace) _ e).0 (omega arith)

-- THE CLAIM
pub age_bits : (b : Book) → AgeBits b
age_bits b = record { whole = λ k small. omega arith; cleared = cleared b; plain = plain }
