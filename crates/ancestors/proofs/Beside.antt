-- The ids above a snapshot, by those above its parent, its child, or another snapshot with the same parent.
use Rattle.std.specs.Prelude.{None, Option, Some, is_some}
use Prim.Native.Nat.{ℕ, zero, suc, ◌+◌, ◌-◌, ◌<◌, min}
use mathlib.Core.Path.{◌≡◌, refl, sym, ap, ◌∙◌}
use mathlib.Core.Bool.{true, cond}
use mathlib.Core.List.{List, [], ◌∷◌}
use native.Mathlib.Omega.{arith}
use lib.ListN.{length, get_or, take, drop, replicate, length-take, length-append, length-replicate}
use lib.Seq.{take_all, take-take, get_or-take}
use lib.Dec.{leb}
use borrow.Author.Tests.{lt-ltb, le-ltb, le-leb, lt-leb}
use Rattle.pairs.proofs.Order.{less_or_not}
use Rattle.book.specs.Maps.{lookup}
use Rattle.parents.specs.Roots.{one_more, root_within, root_of}
use Rattle.parents.specs.Chains.{root_answer, chain}
use Rattle.ancestors.specs.Lines.{padded, ancestors_of, Lined}
use Rattle.ancestors.specs.Steps.{with_links, root_below}
use Rattle.parents.specs.declared.Root.{Root}
use Rattle.ancestors.specs.declared.Ancestors.{Ancestors}
use Rattle.ancestors.specs.declared.Line.{Line}
use Rattle.parents.proofs.Links.{clash, link, by_link, by_step, link_top, link_absent, chain_more, chain_end, root_more, root_full, root_here, root_absent}
use Rattle.parents.proofs.Laws.{root_at, one_more_lem, chain_le, root_length}
use Rattle.ancestors.proofs.Laws.{lined_few, array_is, root_is}

-- a root at most n links away
unfoldable within : ℕ → Option (ℕ × ℕ) → Option (ℕ × ℕ)
within n None = None
within n (Some r) = cond (leb r.1 n) (Some r) None

within_more : (n : ℕ) (o : Option (ℕ × ℕ)) → one_more (within n o) ≡ within (suc n) (one_more o)
unfolding within one_more
within_more n None = refl
within_more n (Some r) =
    less_or_not n r.1
    (λ h. rw (lt-leb r.1 n h, lt-leb (suc r.1) (suc n) (omega arith)))
    (λ h. rw (le-leb r.1 n h, le-leb (suc r.1) (suc n) (omega arith)))

within_none : (o : Option (ℕ × ℕ)) → None ≡ within 0 (one_more o)
unfolding within one_more
within_none None = refl
within_none (Some r) = rw (lt-leb (suc r.1) 0 (omega arith))

within_some : (n : ℕ) (o : Option (ℕ × ℕ)) {r : ℕ × ℕ} → within n o ≡ Some r → o ≡ Some r
unfolding within
within_some n None e = clash (cc)
within_some n (Some q) e =
    less_or_not n q.1
    (λ h. clash (cc (lt-leb q.1 n h)))
    (λ h. rw (le-leb q.1 n h) at e)

below_is : (o : Option (ℕ × ℕ)) → root_answer (one_more (within 1023 o)) ≡ root_below (root_answer o)
unfolding within one_more root_answer root_below
below_is None = refl
below_is (Some r) =
    less_or_not 1023 r.1
    (λ h. rw (lt-leb r.1 1023 h, le-ltb r.1 1024 (omega arith)))
    (λ h. rw (le-leb r.1 1023 h, lt-ltb r.1 1024 (omega arith)))

-- a list without its first, by the array that begins with it
without_first : (xs rest : List ℕ) (n : ℕ) {x : ℕ} → take n xs ≡ x ∷ rest → take (n - 1) (drop 1 xs) ≡ rest
without_first xs rest zero e = clash (cc)
without_first [] rest (suc n) e = clash (cc)
without_first (y ∷ ys) rest (suc n) e = let less : suc n - 1 ≡ n = omega arith in rw less (cc)

rooted_at : (r : Option Root) → is_some r ≡ true → (top : ℕ) × (links : ℕ) × (r ≡ Some (record { root = top; links = links }))
rooted_at (Some r) e = (r.root, r.links, refl)
rooted_at None e = clash (cc)

module _ (t : List (ℕ × ℕ)) where
  -- with one link fewer
  chain_short : (n at : ℕ) → take n (chain t at (suc n)) ≡ chain t at n
  unfolding chain
  chain_short zero at = refl
  chain_short (suc n) at =
      by_step t at (λ e. rw (chain_end t at (suc (suc n)) e, chain_end t at (suc n) e)) (λ p e.
      rw (chain_more t at (suc n) e, chain_more t at n e) (ap (λ (ids : List ℕ). p ∷ ids) (chain_short n p)))

  root_short : (n at : ℕ) → root_within t n at ≡ within n (root_within t (suc n) at)
  unfolding within
  root_short zero at =
      by_link t at
      (λ a. rw (root_absent t at 0 a, root_absent t at 1 a))
      (λ a. rw (root_here t at 0 a, root_here t at 1 a))
      (λ p a. rw (root_full t at a, root_more t at 0 a) (within_none (root_within t 0 p)))
  root_short (suc n) at =
      by_link t at
      (λ a. rw (root_absent t at (suc n) a, root_absent t at (suc (suc n)) a))
      (λ a. rw (root_here t at (suc n) a, root_here t at (suc (suc n)) a, le-leb 0 (suc n) (omega arith)))
      (λ p a. rw (root_more t at n a, root_more t at (suc n) a, root_short n p) (within_more n (root_within t (suc n) p)))

  -- with a root, one link more leads no further
  chain_all : (n at : ℕ) {r : ℕ × ℕ} → root_within t n at ≡ Some r → chain t at (suc n) ≡ chain t at n
  chain_all zero at e = by_step t at (λ a. chain_end t at 1 a ∙ sym (chain_end t at 0 a)) (λ p a. clash (cc (root_full t at a)))
  chain_all (suc n) at e =
      by_step t at (λ a. chain_end t at (suc (suc n)) a ∙ sym (chain_end t at (suc n) a)) (λ p a.
      let q = one_more_lem t _ (sym (root_more t at n a) ∙ e) in
      rw (chain_more t at (suc n) a, chain_more t at n a) (ap (λ (ids : List ℕ). p ∷ ids) (chain_all n p q.1)))

  root_all_more : (n at : ℕ) {r : ℕ × ℕ} → root_within t n at ≡ Some r → root_within t (suc n) at ≡ Some r
  root_all_more n at e = within_some n _ (sym (root_short n at) ∙ e)

  -- the root of a child
  root_child : (id p : ℕ) → link t id ≡ Some p → root_answer (root_of t id) ≡ root_below (root_answer (root_of t p))
  unfolding root_of
  root_child id p a = ap root_answer (root_more t id 1023 a ∙ ap one_more (root_short 1023 p)) ∙ below_is (root_within t 1024 p)

  -- ---- the lines of which nothing else is asked
  module _ (ids : List ℕ) (full : length ids ≡ 1024) (id near : ℕ) where
    pub lined_top : lookup id t ≡ Some 0 → Lined t ids (record { id = id; len = 0; root = Some (record { root = id; links = 0 }); near = near })
    unfolding root_of root_answer
    lined_top e =
        let none_above = chain_end t id 1024 (link_top t id e) in
        record { full = full; ids_are = sym none_above; len_is = rw none_above; root_is = rw (root_here t id 1024 e) }

    pub lined_absent : lookup id t ≡ None → Lined t ids (record { id = id; len = 0; root = None; near = near })
    unfolding root_of root_answer
    lined_absent e =
        let none_above = chain_end t id 1024 (link_absent t id e) in
        record { full = full; ids_are = sym none_above; len_is = rw none_above; root_is = rw (root_absent t id 1024 e) }

  -- by a walk
  pub lined_new : (id near : ℕ) {a : Ancestors} → a ≡ ancestors_of t id → Lined t a.ids (record { id = id; len = a.len; root = a.root; near = near })
  unfolding ancestors_of padded
  lined_new id near {a} e = record {
    full = rw e (omega (arith, length-append (chain t id 1024) (replicate (1024 - length (chain t id 1024)) 0), length-replicate {A = ℕ} (1024 - length (chain t id 1024)) 0, chain_le t 1024 id));
    ids_are = array_is t id e;
    len_is = rw e;
    root_is = root_is t id e;
  }

  module _ {ids : List ℕ} {l : Line} (h : Lined t ids l) where
    -- the first id is the parent
    lined_link : 0 < l.len → {p : ℕ} → get_or ids 0 0 ≡ p → link t l.id ≡ Some p
    lined_link some-above {p} e =
        by_step t l.id
        (λ a. let none_above : l.len ≡ 0 = h.len_is ∙ ap length (chain_end t l.id 1024 a) in absurd (omega arith))
        (λ q a.
        let first : get_or ids 0 0 ≡ q = sym (get_or-take l.len ids 0 0 some-above) ∙ ap (λ (xs : List ℕ). get_or xs 0 0) (h.ids_are ∙ chain_more t l.id 1023 a) in
        a ∙ ap Some (sym first ∙ e))

    -- two with the same parent
    pub lined_beside : {id near p : ℕ} → link t id ≡ Some p → 0 < l.len → get_or ids 0 0 ≡ p →
        Lined t ids (record { id = id; len = l.len; root = l.root; near = near })
    lined_beside {id} {near} {p} a some-above e =
        let other = lined_link some-above e in
        let same : chain t l.id 1024 ≡ chain t id 1024 = chain_more t l.id 1023 other ∙ sym (chain_more t id 1023 a) in
        record {
          full = h.full;
          ids_are = h.ids_are ∙ same;
          len_is = h.len_is ∙ ap length same;
          root_is = h.root_is ∙ root_child l.id p other ∙ sym (root_child id p a);
        }

    -- a child
    pub lined_down : {id near len p : ℕ} {array : List ℕ} {root : Option Root} → link t id ≡ Some p → p ≡ l.id → len ≡ min (l.len + 1) 1024 →
        take len array ≡ take len (p ∷ ids) → length array ≡ 1024 → root ≡ root_below l.root →
        Lined t array (record { id = id; len = len; root = root; near = near })
    lined_down {id} {near} {len} {p} {array} b same size moved full root =
        let a : link t id ≡ Some l.id = b ∙ ap Some same in
        let few = lined_few t h in
        let more : len ≡ suc (min l.len 1023) = omega arith in
        let above : chain t id 1024 ≡ l.id ∷ take 1023 (take l.len ids) =
        chain_more t id 1023 a ∙ ap (λ (xs : List ℕ). l.id ∷ xs) (sym (chain_short 1023 l.id) ∙ ap (take 1023) (sym h.ids_are)) in
        let short : take 1023 (take l.len ids) ≡ take (min l.len 1023) ids =
        less_or_not l.len 1024
        (λ k. let m : min l.len 1023 ≡ l.len = omega arith in rw m (take_all 1023 (take l.len ids) (omega (arith, length-take l.len ids))))
        (λ k. let m : min l.len 1023 ≡ 1023 = omega arith in rw m (take-take 1023 l.len ids (omega arith))) in
        record {
          full = full;
          ids_are = moved ∙ ap (λ (x : ℕ). take len (x ∷ ids)) same ∙ ap (λ (n : ℕ). take n (l.id ∷ ids)) more ∙ ap (λ (xs : List ℕ). l.id ∷ xs) (sym short) ∙ sym above;
          len_is = omega (arith, ap length above, length-take 1023 (take l.len ids), length-take l.len ids, h.full);
          root_is = root ∙ ap root_below h.root_is ∙ sym (root_child id l.id a);
        }

    -- the parent
    pub lined_up : {id near : ℕ} {array : List ℕ} {root : Option Root} → is_some l.root ≡ true → 0 < l.len → get_or ids 0 0 ≡ id →
        take (l.len - 1) array ≡ take (l.len - 1) (drop 1 ids) → length array ≡ 1024 → root ≡ with_links l.root (l.len - 1) →
        Lined t array (record { id = id; len = l.len - 1; root = root; near = near })
    unfolding root_of root_answer one_more with_links
    lined_up {id} rooted some-above e moved full root =
        let other = lined_link some-above e in
        let r = rooted_at l.root rooted in
        let q = one_more_lem t _ (sym (root_more t l.id 1023 other) ∙ root_at (root_of t l.id) (sym h.root_is ∙ r.2)) in
        let known : l.root ≡ Some (record { root = q.0.0; links = suc q.0.1 }) = h.root_is ∙ ap root_answer (root_more t l.id 1023 other ∙ ap one_more q.1) in
        let above : chain t l.id 1024 ≡ id ∷ chain t id 1023 = chain_more t l.id 1023 other in
        let all : chain t id 1024 ≡ chain t id 1023 = chain_all 1023 id q.1 in
        let links : l.len - 1 ≡ q.0.1 = omega (arith, h.len_is, ap length above, root_length t 1023 id q.1) in
        record {
          full = full;
          ids_are = moved ∙ without_first ids (chain t id 1023) l.len (h.ids_are ∙ above) ∙ sym all;
          len_is = omega (arith, h.len_is, ap length above, ap length all);
          root_is = root ∙ rw (known, links) (sym (ap root_answer (root_all_more 1023 id q.1)));
        }
