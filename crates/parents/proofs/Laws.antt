-- What callers cite of the walk:
--     root-at, root_none    what the answer of `root_of` says of the root
--     root-few              the links to a root are at most 1,024
--     root-all              with a root, `above` is the whole chain, and has as many ids as the root has links
--     among-chain           an id other than the snapshot is in the chain exactly if it is one of `above`
use Rattle.std.specs.Prelude.{None, Option, Some}
use Prim.Native.Nat.{ℕ, zero, suc, ◌≤◌, zero-le, suc-le-suc}
use mathlib.Core.Path.{◌≡◌, refl, sym, ap, ◌∙◌}
use mathlib.Core.Bool.{true, false, ◌||◌, or-false, or-true}
use mathlib.Core.Logic.{⊎_elim}
use mathlib.Core.List.{List, [], ◌∷◌}
use lib.ListN.{length}
use lib.Dec.{eqb}
use borrow.Author.Tests.{eq-eqb, ne_eqb}
use Rattle.pairs.specs.Pairs.{has}
use Rattle.pairs.proofs.Order.{tested, same_or_not}
use Rattle.book.specs.Maps.{lookup}
use Rattle.parents.specs.Roots.{one_more, root_within, root_of, followed, above}
use Rattle.parents.specs.Chains.{root_answer, chain}
use Rattle.parents.specs.declared.Root.{Root}
use Rattle.parents.proofs.Links.{clash, link, by_link, by_step, link_top, chain_more, chain_end, followed_more, followed_end, root_more, root_full, root_here, root_absent}

pub root_at : (o : Option (ℕ × ℕ)) {r : Root} → root_answer o ≡ Some r → o ≡ Some (r.root, r.links)
unfolding root_answer
root_at None e = clash (cc)
root_at (Some x) {r} e =
    let same : ◌≡◌ {A = Root} (record { root = x.0; links = x.1 }) r = cc in
    ap (λ (r : Root). Some (r.root, r.links)) same

pub root_none : (o : Option (ℕ × ℕ)) → root_answer o ≡ None → o ≡ None
unfolding root_answer
root_none None e = refl
root_none (Some r) e = clash (cc)

-- ---- a list, and one more in front of it
has_nil : (x : ℕ) → has x [] ≡ false
unfolding has
has_nil x = refl

has_head : (x : ℕ) (ys : List ℕ) {y : ℕ} → x ≡ y → has x (y ∷ ys) ≡ true
unfolding has
has_head x ys e = rw (eq-eqb x _ e)

has_other : (x : ℕ) (ys : List ℕ) {y : ℕ} → (x ≡ y → ⊥) → has x (y ∷ ys) ≡ has x ys
unfolding has
has_other x ys n = rw (ne_eqb x _ n)

has_tail : (x y : ℕ) (ys : List ℕ) → has x ys ≡ true → has x (y ∷ ys) ≡ true
unfolding has
has_tail x y ys h = rw (h, or-true (eqb x y))

-- one more in both, where one of the two is found or neither
more_both : (s p : ℕ) (xs ys seen : List ℕ) → has s xs || has s (p ∷ seen) ≡ has s ys || has s (p ∷ seen) →
    has s (p ∷ xs) || has s seen ≡ has s (p ∷ ys) || has s seen
more_both s p xs ys seen h =
    same_or_not s p
    (λ e. rw (has_head s xs e, has_head s ys e))
    (λ n. rw (has_other s xs n, has_other s ys n) (rw (has_other s seen n) at h))

module _ (t : List (ℕ × ℕ)) where
  -- each of seen links to one of seen
  abbrev Ring : List ℕ → Type 0
  Ring seen = (x : ℕ) → has x seen ≡ true → (q : ℕ) × (link t x ≡ Some q) × (has q seen ≡ true)

  -- each of seen but the last does
  abbrev Linked : List ℕ → ℕ → Type 0
  Linked seen at = (x : ℕ) → (x ≡ at → ⊥) → has x seen ≡ true → (q : ℕ) × (link t x ≡ Some q) × (has q seen ≡ true)

  linked_one : (id : ℕ) → Linked (id ∷ []) id
  linked_one id x n h = clash (cc (has_other x [] n, has_nil x))

  linked_ring : (seen : List ℕ) (at : ℕ) {p : ℕ} → Linked seen at → link t at ≡ Some p → has p seen ≡ true → Ring seen
  linked_ring seen at l e h x w = same_or_not x at (λ s. (_, rw s e, h)) (λ n. l x n w)

  linked_more : (seen : List ℕ) (at p : ℕ) → Linked seen at → link t at ≡ Some p → Linked (p ∷ seen) p
  linked_more seen at p l e x n h =
      same_or_not x at
      (λ s. (p, rw s e, has_head p seen refl))
      (λ m. let q = l x m (rw (has_other x seen n) at h) in (q.0, q.1, has_tail q.0 p seen q.2))

  module _ (seen : List ℕ) (ring : Ring seen) where
    -- from a ring no links lead out
    ring_chain : (s n at : ℕ) → has at seen ≡ true → has s (chain t at n) || has s seen ≡ has s seen
    unfolding chain has
    ring_chain s zero at h = refl
    ring_chain s (suc n) at h =
        let q = ring at h in
        rw (chain_more t at n q.1)
        (same_or_not s q.0
        (λ e. rw (has_head s (chain t q.0 n) e, e, q.2))
        (λ m. rw (has_other s (chain t q.0 n) m) (ring_chain s n q.0 q.2)))

    ring_none : (n at : ℕ) → has at seen ≡ true → root_within t n at ≡ None
    unfolding one_more
    ring_none zero at h = root_full t at (ring at h).1
    ring_none (suc n) at h = let q = ring at h in rw (root_more t at n q.1, ring_none n q.0 q.2)

  both_end : (seen : List ℕ) (at n : ℕ) → link t at ≡ None → followed t seen at n ≡ chain t at n
  both_end seen at n e = followed_end t at seen n e ∙ sym (chain_end t at n e)

  -- the ids that are followed until one repeats, and the whole chain, are the same but for those seen before
  same_ids : (s n at : ℕ) (seen : List ℕ) → Linked seen at → has at seen ≡ true →
      has s (followed t seen at n) || has s seen ≡ has s (chain t at n) || has s seen
  unfolding followed chain
  same_ids s zero at seen l h = refl
  same_ids s (suc n) at seen l h =
      by_step t at (λ e. rw (both_end seen at (suc n) e)) (λ p e.
      rw (followed_more t at seen n e)
      (⊎_elim
      (λ (again : has p seen ≡ true). rw (again, has_nil s) (sym (ring_chain seen (linked_ring seen at l e again) s (suc n) at h)))
      (λ (new : has p seen ≡ false). rw (new, chain_more t at n e)
      (more_both s p _ _ seen (same_ids s n p (p ∷ seen) (linked_more seen at p l e) (has_head p seen refl))))
      (tested (has p seen))))

  pub among_chain : (id s : ℕ) → (s ≡ id → ⊥) → has s (chain t id 1024) ≡ has s (above t id)
  unfolding above
  among_chain id s other =
      let alone = has_other s [] other ∙ has_nil s in
      let same = same_ids s 1024 id (id ∷ []) (linked_one id) (has_head id [] refl) in
      sym (rw (alone, or-false (has s (followed t (id ∷ []) id 1024)), or-false (has s (chain t id 1024))) at same)

  pub chain_le : (n at : ℕ) → length (chain t at n) ≤ n
  unfolding chain
  chain_le zero at = zero-le
  chain_le (suc n) at =
      by_step t at (λ e. rw (chain_end t at (suc n) e) zero-le) (λ p e. rw (chain_more t at n e) (suc-le-suc (chain_le n p)))

  pub one_more_lem : (o : Option (ℕ × ℕ)) {r : ℕ × ℕ} → one_more o ≡ Some r → (q : ℕ × ℕ) × (o ≡ Some q) × (suc q.1 ≡ r.1)
  unfolding one_more
  one_more_lem None e = clash (cc)
  one_more_lem (Some q) {r} e = let s : ◌≡◌ {A = ℕ × ℕ} (q.0, suc q.1) r = cc in (q, refl, ap (λ (x : ℕ × ℕ). x.1) s)

  -- on the way to a root nothing repeats
  no_repeat : (n at : ℕ) (seen : List ℕ) {r : ℕ × ℕ} → Linked seen at → has at seen ≡ true → root_within t n at ≡ Some r →
      followed t seen at n ≡ chain t at n
  unfolding followed chain
  no_repeat zero at seen l h e = refl
  no_repeat (suc n) at seen l h e =
      by_step t at (both_end seen at (suc n)) (λ p a.
      let q = one_more_lem _ (sym (root_more t at n a) ∙ e) in
      rw (followed_more t at seen n a)
      (⊎_elim
      (λ (again : has p seen ≡ true). clash (cc (ring_none seen (linked_ring seen at l a again) (suc n) at h)))
      (λ (new : has p seen ≡ false). rw (new, chain_more t at n a)
      (ap (λ (ids : List ℕ). p ∷ ids) (no_repeat n p (p ∷ seen) (linked_more seen at p l a) (has_head p seen refl) q.1)))
      (tested (has p seen))))

  here_length : (n at : ℕ) {r : ℕ × ℕ} → root_within t n at ≡ Some r → lookup at t ≡ Some 0 → length (chain t at n) ≡ r.1
  here_length n at {r} e top =
      let s : ◌≡◌ {A = ℕ × ℕ} (at, 0) r = cc (root_here t at n top) in
      rw (chain_end t at n (link_top t at top)) (ap (λ (x : ℕ × ℕ). x.1) s)

  pub root_length : (n at : ℕ) {r : ℕ × ℕ} → root_within t n at ≡ Some r → length (chain t at n) ≡ r.1
  root_length zero at e =
      by_link t at (λ a. clash (cc (root_absent t at 0 a))) (here_length 0 at e) (λ p a. clash (cc (root_full t at a)))
  root_length (suc n) at e =
      by_link t at (λ a. clash (cc (root_absent t at (suc n) a))) (here_length (suc n) at e) (λ p a.
      let q = one_more_lem _ (sym (root_more t at n a) ∙ e) in
      rw (chain_more t at n a) (ap suc (root_length n p q.1) ∙ q.2))

  pub root_all : (id : ℕ) {r : ℕ × ℕ} → root_of t id ≡ Some r → (above t id ≡ chain t id 1024) × (length (above t id) ≡ r.1)
  unfolding root_of above
  root_all id e =
      let all = no_repeat 1024 id (id ∷ []) (linked_one id) (has_head id [] refl) e in
      (all, rw all (root_length 1024 id e))

  pub root_few : (id : ℕ) {r : ℕ × ℕ} → root_of t id ≡ Some r → r.1 ≤ 1024
  unfolding root_of
  root_few id e = rw (← root_length 1024 id e) (chain_le 1024 id)
