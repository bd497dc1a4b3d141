-- Demand 3.
use mathlib.Core.Logic.{inl, inr, ◌↔◌}
use mathlib.Core.List.{List}
use mathlib.Core.Path.{◌≡◌, ap, sym, subst, ◌∙◌}
use Prim.Native.Nat.{ℕ, zero, suc}
use native.Mathlib.Omega.{arith}
use Rattle.forest.specs.Lists.{◌∈◌}
use Rattle.book.specs.Book.{Bkey, Book}
use Rattle.findings.specs.Findings.{Finding}
use Rattle.book.specs.Words.{tree_word, root_word}
use Rattle.forest.specs.Forest.{snapshots, ForestBook, Links, Ancestor, InChain, ChainsMeet, RecordNames, Sound, Absent, Demand3}
use Rattle.links.specs.SnapshotLinks.{snapshot_links}
use Rattle.forest.proofs.Reading.{snapshot_same, record_same}
use Rattle.forest.proofs.Chains.{links_mem, rest, root_one}
use Rattle.forest.proofs.Rules.{links_sound}

module _ (b : Book) (F : ForestBook b) (S : Sound b) where
  -- a number of links leads to each snapshot of a chain
  chain_links : (s a : Bkey) → InChain b s a → (n : ℕ) × Links b n s a
  chain_links s a (inl e) = (0, e)
  chain_links s a (inr h) = (suc h.0, h.1)

  links_chain : (n : ℕ) (s a : Bkey) → Links b n s a → InChain b s a
  links_chain zero s a l = inl l
  links_chain (suc n) s a l = inr (n, l)

  own_ancestor : (s : Bkey) → s ∈ snapshots b → Ancestor b s s → ⊥
  own_ancestor s m h =
      let p = S.roots s m in
      let R = p.2 in
      let t = rest b F (suc h.0) p.1 s s p.0 h.1 R.reaches R.parentless in
      let u = root_one b F t.0 p.1 s p.0 p.0 t.2 R.reaches R.parentless R.parentless in
      omega (arith, t.1, u.0)

  -- the root of a snapshot names the same tree
  root_tree : (s r : Bkey) → r ∈ snapshots b → RecordNames b s r → tree_word r ≡ tree_word s
  root_tree s r m t =
      let k = S.back t.0 t.1 in
      ap tree_word (snapshot_same b F r k.0 m k.1 (sym t.3 ∙ sym k.2)) ∙ k.3 ∙ t.2

  same_tree : (s u : Bkey) → s ∈ snapshots b → u ∈ snapshots b → (tree_word s ≡ tree_word u) ↔ ChainsMeet b s u
  same_tree s u m n = (there, back)
    where
      there : tree_word s ≡ tree_word u → ChainsMeet b s u
      there e =
          let p = S.roots s m in
          let q = S.roots u n in
          let t = record_same b F p.4.0 q.4.0 p.4.1 q.4.1 (p.4.2 ∙ e ∙ sym q.4.2) in
          let w : p.0.offset ≡ q.0.offset = sym p.4.3 ∙ ap root_word t ∙ q.4.3 in
          let r : p.0 ≡ q.0 =
          snapshot_same b F p.0 q.0 (links_mem b F p.1 s p.0 m p.2.reaches) (links_mem b F q.1 u q.0 n q.2.reaches) w in (
            q.0,
            links_chain p.1 s q.0 (subst (λ (k : Bkey). Links b p.1 s k) r p.2.reaches),
            links_chain q.1 u q.0 q.2.reaches,
          )

      back : ChainsMeet b s u → tree_word s ≡ tree_word u
      back h =
          let p = S.roots s m in
          let q = S.roots u n in
          let i = chain_links s h.0 h.1 in
          let j = chain_links u h.0 h.2 in
          let x = rest b F i.0 p.1 s h.0 p.0 i.1 p.2.reaches p.2.parentless in
          let y = rest b F j.0 q.1 u h.0 q.0 j.1 q.2.reaches q.2.parentless in
          let r = (root_one b F x.0 y.0 h.0 p.0 q.0 x.2 y.2 p.2.parentless q.2.parentless).1 in
          sym (root_tree s p.0 (links_mem b F p.1 s p.0 m p.2.reaches) p.4)
          ∙ ap tree_word r
          ∙ root_tree u q.0 (links_mem b F q.1 u q.0 n q.2.reaches) q.4

-- Demand 3, of every forest book and every list that has a forest kind exactly where `snapshot_links` gives one.
pub forest : (b : Book) → ForestBook b → (fs : List Finding) → (Absent fs ↔ Absent (snapshot_links b)) → Demand3 b fs
forest b F fs same =
    let sound : Absent fs → Sound b = λ h. (links_sound b F).0 (same.0 h) in
    record {
      exact = (sound, λ S. same.1 ((links_sound b F).1 S));
      acyclic = λ h. own_ancestor b F (sound h);
      trees = λ h. same_tree b F (sound h);
    }
