-- The runs of a sorted list are the map of its counts, and a list sorted has the same counts.
use Prim.Native.Nat.{ℕ, zero, suc, ◌+◌, ◌*◌, ◌/◌, ◌^◌, ◌-◌, ◌≤◌, ◌<◌, zero-le, suc-le-suc}
use mathlib.Core.Path.{◌≡◌, refl, sym, ap, ◌∙◌}
use mathlib.Core.Logic.{⊎_elim}
use mathlib.Core.List.{List, [], ◌∷◌, ◌++◌, map}
use native.Mathlib.Nat.{le_refl}
use native.Mathlib.Omega.{arith}
use lib.ListN.{length, get_or, drop, length-drop, length-map, get_or-map}
use lib.Seq.{get_or-drop}
use lib.Pow.{shr_mono}
use lib.Dec.{leb, ltb, lit<}
use borrow.Author.Tests.{lt-ltb, le-ltb, eq-eqb, ne_eqb, le-leb, lt-leb, leb-true, leb-false}
use Rattle.findings.specs.Findings.{finding, when, each}
use Rattle.findings.proofs.Walk.{drop_at, drop_past, each_next}
use Rattle.pairs.specs.Pairs.{pair, pairs_of, insert, sort, Sorted}
use Rattle.pairs.proofs.Order.{tested, less_or_not, same_or_not}
use Rattle.pairs.proofs.Words.{pair_first, first, length_pairs}
use Rattle.claims.specs.SnapshotClaims.{count_one, counts, claim_findings}
use Rattle.claims.specs.Steps.{firsts, RunEnd}

-- ---- one more in a map of counts

-- the first number of a map is above x
Above : ℕ → List (ℕ × ℕ) → Type 0
Above x [] = Unit {0}
Above x (e ∷ m) = x < e.0

count_front : (x : ℕ) (m : List (ℕ × ℕ)) → Above x m → count_one x m ≡ (x, 1) ∷ m
unfolding count_one Above
count_front x [] h = refl
count_front x (e ∷ m) h = rw (lt-ltb x e.0 h)

count_same : (x : ℕ) (e : ℕ × ℕ) (m : List (ℕ × ℕ)) → x ≡ e.0 → count_one x (e ∷ m) ≡ (x, suc e.1) ∷ m
unfolding count_one
count_same x e m h = rw (le-ltb x e.0 (omega arith), eq-eqb x e.0 h)

count_past : (x : ℕ) (e : ℕ × ℕ) (m : List (ℕ × ℕ)) → e.0 < x → count_one x (e ∷ m) ≡ e ∷ count_one x m
unfolding count_one
count_past x e m h = rw (le-ltb x e.0 (omega arith), ne_eqb x e.0 (omega arith))

above_count : (x y : ℕ) (m : List (ℕ × ℕ)) → x < y → Above x m → Above x (count_one y m)
unfolding Above count_one
above_count x y [] h a = h
above_count x y (e ∷ m) h a =
    less_or_not y e.0
    (λ t. rw (lt-ltb y e.0 t) h)
    (λ t. same_or_not y e.0 (λ s. rw (le-ltb y e.0 t, eq-eqb y e.0 s) h) (λ d. rw (le-ltb y e.0 t, ne_eqb y e.0 d) a))

-- two numbers are counted in either order
swap_front : (x y : ℕ) (m : List (ℕ × ℕ)) → x < y → Above x m → count_one x (count_one y m) ≡ count_one y (count_one x m)
swap_front x y m h a =
    count_front x (count_one y m) (above_count x y m h a) ∙ sym (ap (count_one y) (count_front x m a) ∙ count_past y (x, 1) m h)

swap_less : (x y : ℕ) (m : List (ℕ × ℕ)) → x < y → count_one x (count_one y m) ≡ count_one y (count_one x m)
unfolding Above
swap_less x y [] h = swap_front x y [] h tt
swap_less x y (e ∷ m) h =
    less_or_not x e.0
    (λ t. swap_front x y (e ∷ m) h t)
    (λ t. same_or_not x e.0
    (λ s.
    ap (count_one x) (count_past y e m (omega arith)) ∙ count_same x e (count_one y m) s
    ∙ sym (ap (count_one y) (count_same x e m s) ∙ count_past y (x, suc e.1) m h))
    (λ d.
    ap (count_one x) (count_past y e m (omega arith)) ∙ count_past x e (count_one y m) (omega arith)
    ∙ ap (λ (l : List (ℕ × ℕ)). e ∷ l) (swap_less x y m h)
    ∙ sym (ap (count_one y) (count_past x e m (omega arith)) ∙ count_past y e (count_one x m) (omega arith))))

swap : (x y : ℕ) (m : List (ℕ × ℕ)) → count_one x (count_one y m) ≡ count_one y (count_one x m)
swap x y m =
    less_or_not x y (λ t. swap_less x y m t)
    (λ t. same_or_not x y (λ s. rw s) (λ d. sym (swap_less y x m (omega arith))))

counts_insert : (x : ℕ) (ys : List ℕ) → counts (insert x ys) ≡ count_one x (counts ys)
unfolding counts insert
counts_insert x [] = refl
counts_insert x (y ∷ ys) = ⊎_elim
    (λ t. rw t)
    (λ t. rw t (ap (count_one y) (counts_insert x ys) ∙ swap y x (counts ys)))
    (tested (leb x y))

-- a list sorted has the same counts
counts_sort : (xs : List ℕ) → counts (sort xs) ≡ counts xs
unfolding counts sort
counts_sort [] = refl
counts_sort (x ∷ xs) = counts_insert x (sort xs) ∙ ap (count_one x) (counts_sort xs)

-- ---- runs

above_counts : (x : ℕ) (xs : List ℕ) → ((k : ℕ) → k < length xs → x < get_or xs k 0) → Above x (counts xs)
unfolding Above counts
above_counts x [] h = tt
above_counts x (y ∷ ys) h = above_count x y (counts ys) (h zero (suc-le-suc zero-le)) (above_counts x ys (λ k l. h (suc k) (suc-le-suc l)))

-- from i on the sorted numbers xs have x, up to e
module _ (xs : List ℕ) (sorted : Sorted xs) (e x : ℕ) (inside : e ≤ length xs) (ends : e < length xs → get_or xs e 0 ≡ x → ⊥) where
  runs : (d i : ℕ) → i + suc d ≡ e → ((k : ℕ) → i ≤ k → k < e → get_or xs k 0 ≡ x) → counts (drop i xs) ≡ (x, suc d) ∷ counts (drop e xs)
  unfolding counts Sorted
  runs zero i h same =
      let at : i + 1 ≡ e = omega arith in
      let over : (k : ℕ) → k < length (drop e xs) → x < get_or (drop e xs) k 0 = λ k l.
      let more : e + k < length xs = omega (arith, length-drop e xs) in
      let up : get_or xs i 0 ≤ get_or xs e 0 = sorted i e (omega arith) (omega arith) in
      let on : get_or xs e 0 ≤ get_or xs (e + k) 0 = sorted e (e + k) (omega arith) more in
      let differ : get_or xs e 0 ≡ x → ⊥ = ends (omega arith) in
      rw (get_or-drop e xs k 0) (omega (arith, same i (le_refl i) (omega arith))) in
      rw (drop_at xs i 0 (omega arith), same i (le_refl i) (omega arith), at) (count_front x (counts (drop e xs)) (above_counts x (drop e xs) over))
  runs (suc d) i h same =
      let next = runs d (i + 1) (omega arith) (λ k a l. same k (omega arith) l) in
      rw (drop_at xs i 0 (omega arith), same i (le_refl i) (omega arith), next) (count_same x (x, suc d) (counts (drop e xs)) refl)

  run_counts : (i : ℕ) → i < e → ((k : ℕ) → i ≤ k → k < e → get_or xs k 0 ≡ x) → counts (drop i xs) ≡ (x, e - i) ∷ counts (drop e xs)
  run_counts i h same =
      let size : suc (e - i - 1) ≡ e - i = omega arith in
      rw (runs (e - i - 1) i (omega arith) same, size)

-- ---- first words of pairs

-- they are in order where the pairs are
firsts_sorted : (w : List ℕ) (n : ℕ) → Sorted (pairs_of w n) → Sorted (firsts w n)
unfolding Sorted
firsts_sorted w n s i j h l =
    let inside : j < length (pairs_of w n) = rw (length-map (pairs_of w n) (λ x. x / 2 ^ 64)) at l in
    rw (get_or-map (λ x. x / 2 ^ 64) (pairs_of w n) i 0, get_or-map (λ x. x / 2 ^ 64) (pairs_of w n) j 0) (shr_mono 64 (s i j h inside))

length_firsts : (w : List ℕ) (n : ℕ) → length (firsts w n) ≡ n
length_firsts w n = length-map (pairs_of w n) (λ x. x / 2 ^ 64) ∙ length_pairs w n

firsts_at : (w : List ℕ) (n : ℕ) → ((k : ℕ) → get_or w k 0 < 2 ^ 64) → (k : ℕ) → k < n → get_or (firsts w n) k 0 ≡ get_or w (2 * k) 0
firsts_at w n small k l = get_or-map (λ x. x / 2 ^ 64) (pairs_of w n) k 0 ∙ first w n small k l

-- numbers paired with 0 are sorted as the numbers are
insert_paired : (x : ℕ) (ys : List ℕ) → insert (pair x 0) (map (λ y. pair y 0) ys) ≡ map (λ y. pair y 0) (insert x ys)
unfolding insert pair
insert_paired x [] = refl
insert_paired x (y ∷ ys) = ⊎_elim
    (λ t. rw (t, le-leb (pair x 0) (pair y 0) (omega (arith, leb-true x y t))))
    (λ t. rw (t, lt-leb (pair x 0) (pair y 0) (omega (arith, leb-false x y t))) (ap (λ (l : List ℕ). pair y 0 ∷ l) (insert_paired x ys)))
    (tested (leb x y))

sort_paired : (xs : List ℕ) → sort (map (λ y. pair y 0) xs) ≡ map (λ y. pair y 0) (sort xs)
unfolding sort
sort_paired [] = refl
sort_paired (x ∷ xs) = ap (insert (pair x 0)) (sort_paired xs) ∙ insert_paired x (sort xs)

firsts_paired : (xs : List ℕ) → map (λ x. x / 2 ^ 64) (map (λ y. pair y 0) xs) ≡ xs
firsts_paired [] = refl
firsts_paired (x ∷ xs) = λ i. pair_first x 0 (lit< tt) i ∷ firsts_paired xs i

sorted_firsts : (xs : List ℕ) (w : List ℕ) (n : ℕ) → pairs_of w n ≡ sort (map (λ y. pair y 0) xs) → firsts w n ≡ sort xs
sorted_firsts xs w n e = ap (map (λ x. x / 2 ^ 64)) (e ∙ sort_paired xs) ∙ firsts_paired (sort xs)

-- ---- the findings of runs

-- of the pairs from i on: the run at i, and those past it
pub run_findings : (w : List ℕ) (n : ℕ) {i e : ℕ} → ((k : ℕ) → get_or w k 0 < 2 ^ 64) → Sorted (pairs_of w n) → RunEnd w n i e
    → claim_findings (drop i (firsts w n)) ≡ when (ltb 1 (e - i)) (finding 32 (get_or w (2 * i) 0) (e - i)) ++ claim_findings (drop e (firsts w n))
unfolding claim_findings
run_findings w n {i} {e} small sorted r =
    let long = length_firsts w n in
    each_next (λ _ e. when (ltb 1 e.1) (finding 32 e.0 e.1)) (λ i e. refl)
    (run_counts (firsts w n) (firsts_sorted w n sorted) e (get_or w (2 * i) 0) (omega (arith, r.inside))
    (λ l x. let m : e < n = omega arith in r.ends m (sym (firsts_at w n small e m) ∙ x))
    i r.past
    (λ k a l. firsts_at w n small k (omega (arith, r.inside)) ∙ r.same k a l))

pub no_findings : (w : List ℕ) (n i : ℕ) → n ≤ i → claim_findings (drop i (firsts w n)) ≡ []
unfolding claim_findings counts each
no_findings w n i h = rw (drop_past (firsts w n) i (omega (arith, length_firsts w n)))

-- the pairs of claims, sorted, give the findings of the claims
pub sorted_findings : (xs : List ℕ) (w : List ℕ) (n : ℕ) → pairs_of w n ≡ sort (map (λ y. pair y 0) xs) → claim_findings (firsts w n) ≡ claim_findings xs
unfolding claim_findings
sorted_findings xs w n e = rw (sorted_firsts xs w n e, counts_sort xs)
