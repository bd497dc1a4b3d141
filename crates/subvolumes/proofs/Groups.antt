-- The pairs of a group: where they start and end among sorted pairs, and a walk over them.
use Prim.Native.Nat.{ℕ, zero, suc, ◌+◌, ◌-◌, ◌*◌, ◌/◌, ◌%◌, ◌^◌, ◌≤◌, ◌<◌}
use mathlib.Core.Path.{subst, ◌≡◌, refl, sym, ap, ◌∙◌}
use mathlib.Core.List.{List, [], ◌∷◌, ◌++◌, append-nil}
use native.Mathlib.Nat.{add-zero, le_refl}
use native.Mathlib.Numerals.{add-one}
use native.Mathlib.Omega.{arith}
use lib.ListN.{length, get_or}
use lib.Dec.{eqb}
use borrow.Author.Tests.{eq-eqb, ne_eqb}
use Rattle.findings.specs.Findings.{Finding, finding, only, each, Added, bump, count_all, Sink, sink}
use Rattle.findings.proofs.Counts.{bumps, bumps_once}
use Rattle.findings.proofs.Laws.{added_nil, added_full, added_as, added_more, encodable_one}
use Rattle.findings.proofs.Walk.{each_any, each_append}
use Rattle.pairs.specs.Pairs.{pair, pair_at, pairs_of, Sorted, count_below}
use Rattle.pairs.proofs.Order.{same_or_not, less_or_not}
use Rattle.pairs.proofs.Bounds.{bound_before, bound_past}
use Rattle.pairs.proofs.Words.{pair_first, pair_second, length_pairs, pairs_at, pairs_bound, in_order}
use Rattle.walk.specs.Keys.{key_at}
use Rattle.walk.proofs.Keys.{offset_lt}
use Rattle.subvolumes.specs.Steps.{GroupFrom, group_findings}

-- words of 64 bits
abbrev pub Words : List ℕ → Type 0
Words w = (k : ℕ) → get_or w k 0 < 2 ^ 64

-- ---- a group, pair after pair

module _ (s : List ℕ) (kind group id : ℕ) where
  pub group_append : (xs ys : List ℕ)
      → group_findings s kind group id (xs ++ ys) ≡ group_findings s kind group id xs ++ group_findings s kind group id ys
  unfolding group_findings
  group_append xs ys =
      let at : ℕ → ℕ → List Finding = λ _ x. only (eqb (x / 2 ^ 64) group) (finding kind (key_at s (x % 2 ^ 64)).offset id ∷ []) in
      each_append at 0 xs ys ∙ ap (λ (l : List Finding). each at 0 xs ++ l) (each_any at (λ i x. refl) (0 + length xs) ys)

  pub group_nil : group_findings s kind group id [] ≡ []
  unfolding group_findings each
  group_nil = refl

  pub group_pair : (q p : ℕ) → p < 2 ^ 64
      → group_findings s kind group id (pair q p ∷ []) ≡ only (eqb q group) (finding kind (key_at s p).offset id ∷ [])
  unfolding group_findings each
  group_pair q p h = rw (pair_first q p h, pair_second q p h, append-nil)

  module _ (w : List ℕ) (fits : Words w) where
    group_next : (i : ℕ) → group_findings s kind group id (pairs_of w (i + 1))
        ≡ group_findings s kind group id (pairs_of w i)
        ++ only (eqb (get_or w (2 * i) 0) group) (finding kind (key_at s (get_or w (2 * i + 1) 0)).offset id ∷ [])
    unfolding pairs_of pair_at
    group_next i = rw (
      add-one i,
      group_append (pairs_of w i) (pair_at w i ∷ []),
      group_pair (get_or w (2 * i) 0) (get_or w (2 * i + 1) 0) (fits (2 * i + 1)),
    )

    -- pairs of other groups give nothing
    group_other : (i d : ℕ) → ((k : ℕ) → i ≤ k → k < i + d → get_or w (2 * k) 0 ≡ group → ⊥)
        → group_findings s kind group id (pairs_of w (i + d)) ≡ group_findings s kind group id (pairs_of w i)
    unfolding only
    group_other i zero h = ap (λ (k : ℕ). group_findings s kind group id (pairs_of w k)) (omega arith)
    group_other i (suc d) h =
        let more : i + suc d ≡ i + d + 1 = omega arith in
        rw (more, group_next (i + d), ne_eqb (get_or w (2 * (i + d)) 0) group (h (i + d) (omega arith) (omega arith)), append-nil)
        (group_other i d (λ k a l. h k a (omega arith)))

-- ---- where a group starts and ends

-- first words of sorted pairs
words_rise : (w : List ℕ) (n : ℕ) → Words w → Sorted (pairs_of w n) → (i k : ℕ) → i ≤ k → k < n → get_or w (2 * i) 0 ≤ get_or w (2 * k) 0
unfolding pair_at pair
words_rise w n fits s i k h l = omega (arith, in_order w n s i k h l, fits (2 * i + 1), fits (2 * k + 1))

module _ (w : List ℕ) (n group : ℕ) (fits : Words w) (s : Sorted (pairs_of w n)) where
  pub bound_from : {r : ℕ} → r ≡ count_below (pair group 0) (pairs_of w n) → GroupFrom w n group r
  unfolding pair_at pair
  bound_from {r} e =
      let inside : r ≤ n = omega (arith, pairs_bound (pair group 0) w n) in
      record {
        inside = inside;
        below = λ k l. omega (arith, bound_before (pair group 0) (pairs_of w n) s k (omega arith), pairs_at w n k (omega arith));
        above = λ k h l.
            omega (arith, bound_past (pair group 0) (pairs_of w n) s k (omega arith) (rw length_pairs l), pairs_at w n k l, fits (2 * k + 1));
      }

-- a pair of the group stands before its end
pub before_end : (w : List ℕ) (n group : ℕ) {i e : ℕ} → GroupFrom w n (group + 1) e → i < n → get_or w (2 * i) 0 ≡ group → i < e
before_end w n group {i} {e} next l g = less_or_not i e (λ a. a) (λ b. absurd (omega (arith, next.above i b l)))

-- ---- a walk over a group

-- the pairs of a group, from `from` on, gave their findings up to pair i, after m others: `found` in all, and the sink, which was o, is o' now
pub record Shown (s w : List ℕ) (n kind group id from : ℕ) (o : Sink) (m i found : ℕ) (o' : Sink) : Type 0 where
  pub start : GroupFrom w n group from
  pub past : from ≤ i
  pub inside : i ≤ n
  pub number : found + from ≡ m + i
  pub own : (k : ℕ) → from ≤ k → k < i → get_or w (2 * k) 0 ≡ group
  pub added : Added o m (group_findings s kind group id (pairs_of w i)) found o'

-- they gave all, r in all, and at pair e starts the next group
pub record Done (s w : List ℕ) (n kind group id : ℕ) (o : Sink) (m from r e : ℕ) (o' : Sink) : Type 0 where
  pub added : Added o m (group_findings s kind group id (pairs_of w n)) r o'
  pub ends : GroupFrom w n (group + 1) e
  pub past : from ≤ e
  pub number : r + from ≡ m + e

module _ {s w : List ℕ} {n kind group id from : ℕ} {o : Sink} {m : ℕ} (fits : Words w) where
  pub shown_none : GroupFrom w n group from → Shown s w n kind group id from o m from m o
  unfolding pairs_of
  shown_none g = record {
    start = g;
    past = le_refl from;
    inside = g.inside;
    number = refl;
    own = λ k a l. absurd (omega arith);
    added =
        let all : from ≡ 0 + from = omega arith in
        let none = group_other s kind group id w fits 0 from (λ k a l e. omega (arith, g.below k (omega arith))) in
        added_nil (ap (λ (k : ℕ). group_findings s kind group id (pairs_of w k)) all ∙ none ∙ group_nil s kind group id);
  }

  module _ {i found : ℕ} {o₁ : Sink} (t : Shown s w n kind group id from o m i found o₁) where
    pub shown_more : i < n → get_or w (2 * i) 0 ≡ group → {x r : ℕ} {o₂ : Sink} → x ≡ (key_at s (get_or w (2 * i + 1) 0)).offset
        → Added o₁ found (finding kind x id ∷ []) r o₂ → Shown s w n kind group id from o m (i + 1) r o₂
    unfolding only
    shown_more l g e a = record {
      start = t.start;
      past = omega (arith, t.past);
      inside = omega arith;
      number = omega (arith, t.number, a.count);
      own = λ k b h. same_or_not k i (λ same. ap (λ (j : ℕ). get_or w (2 * j) 0) same ∙ g) (λ d. t.own k b (omega arith));
      added = rw (group_next s kind group id w fits i, eq-eqb (get_or w (2 * i) 0) group g, ← e) (added_more t.added a);
    }

  -- where no finding fits any more, the buffer stays
  shown_full : kind < 2 ^ 8 → id < 2 ^ 64 → {i found : ℕ} {o₁ c₁ : List ℕ} → Shown s w n kind group id from o m i found (sink o₁ c₁) → length o₁ / 17 ≤ found → (d : ℕ) → i + d ≤ n
      → ((k : ℕ) → i ≤ k → k < i + d → get_or w (2 * k) 0 ≡ group) → Shown s w n kind group id from o m (i + d) (found + d) (sink o₁ (bumps c₁ kind d))
  unfolding bumps count_all
  shown_full kl il {i} {found} t h zero l g = rw (add-zero i, add-zero found) t
  shown_full kl il {i} {found} t h (suc d) l g =
      let at : i + suc d ≡ i + d + 1 = omega arith in
      let number : found + suc d ≡ found + d + 1 = omega arith in
      let before = shown_full kl il t h d (omega arith) (λ k a b. g k a (omega arith)) in
      rw (at, number) (shown_more before (omega arith) (g (i + d) (omega arith) (omega arith)) refl (added_full (omega arith) (encodable_one kl (offset_lt s _) il)))

  module _ {i found : ℕ} {o₁ : Sink} (t : Shown s w n kind group id from o m i found o₁) where
    -- where no pair from i on is of the group
    shown_done : ((k : ℕ) → i ≤ k → k < n → group + 1 ≤ get_or w (2 * k) 0) → Done s w n kind group id o m from found i o₁
    shown_done above =
        let all : i + (n - i) ≡ n = omega (arith, t.inside) in
        let none = group_other s kind group id w fits i (n - i) (λ k a l e. omega (arith, above k a (omega arith))) in
        record {
          added = added_as (sym none ∙ ap (λ (k : ℕ). group_findings s kind group id (pairs_of w k)) all) t.added;
          ends = record {
            inside = t.inside;
            below = λ k l. less_or_not k from (λ b. omega (arith, t.start.below k b)) (λ b. omega (arith, t.own k b l));
            above = above;
          };
          past = t.past;
          number = t.number;
        }

    -- it ends at the first pair of another group, or past the last pair
    pub shown_end : Sorted (pairs_of w n) → i < n → (get_or w (2 * i) 0 ≡ group → ⊥) → Done s w n kind group id o m from found i o₁
    shown_end sorted l d = shown_done (λ k a b. omega (arith, t.start.above i t.past l, words_rise w n fits sorted i k a b))

    pub shown_all : n ≤ i → Done s w n kind group id o m from found n o₁
    shown_all h =
        let at : n ≡ i = omega (arith, t.inside) in
        subst (λ (e : ℕ). Done s w n kind group id o m from found e o₁) (sym at) (shown_done (λ k a b. absurd (omega arith)))

  -- the rest of the group is counted, where no finding fits any more
  pub shown_rest : kind < 2 ^ 8 → id < 2 ^ 64 → {i found e : ℕ} {o₁ c₁ c₂ : List ℕ} → Shown s w n kind group id from o m i found (sink o₁ c₁) → i < n → get_or w (2 * i) 0 ≡ group
      → length o₁ / 17 ≤ found → GroupFrom w n (group + 1) e → c₂ ≡ bump c₁ kind (e - i) → Done s w n kind group id o m from (found + (e - i)) e (sink o₁ c₂)
  shown_rest kl il {i} {found} {e} {c₁ = c₁} t l g h next counted =
      let past = before_end w n group next l g in
      let at : i + (e - i) ≡ e = omega arith in
      let own : (k : ℕ) → i ≤ k → k < i + (e - i) → get_or w (2 * k) 0 ≡ group = λ k a b.
      omega (arith, next.below k (omega arith), t.start.above k (omega (arith, t.past)) (omega (arith, next.inside))) in
      let done = shown_done (shown_full kl il t h (e - i) (omega (arith, next.inside)) own) (λ k a b. next.above k (omega arith) b) in
      rw (counted, ← bumps_once c₁ kind (e - i) (omega arith)) (rw at at done)
