-- Links and chains of a forest book: where links lead is one snapshot, a way to a parentless snapshot goes through every ancestor,
-- and the walk over the parents table finds that snapshot and the ids on the way.
use Rattle.std.specs.Prelude.{Some}
use mathlib.Core.Logic.{◌⊎◌, inl, inr}
use mathlib.Core.List.Memᴰ
use mathlib.Core.List.{◌∷◌}
use Rattle.std.proofs.lemmas.Option.{same_Some}
use mathlib.Core.Path.{◌≡◌, refl, ap, sym, subst, ◌∙◌}
use Prim.Native.Nat.{ℕ, zero, suc, ◌+◌, ◌≤◌}
use native.Mathlib.Omega.{arith}
use Rattle.forest.specs.Lists.{◌∈◌}
use Rattle.book.specs.Book.{Bkey, Book}
use Rattle.book.specs.KeyMaps.{parents_of}
use Rattle.book.specs.Words.{parent_word}
use Rattle.forest.specs.Forest.{snapshots, ForestBook, Link, Links, Ancestor}
use Rattle.book.specs.Maps.{lookup}
use Rattle.parents.specs.Roots.{root_of}
use Rattle.forest.proofs.Reading.{snapshot_same, parents_read}
use Rattle.forest.proofs.Roots.{Way, links_up, way_root, root_way, up_link}

module _ (b : Book) (F : ForestBook b) where
  -- a snapshot with a link has a parent
  pub link_parent : (s p : Bkey) → Link b s p → (parent_word s ≡ 0 → ⊥)
  link_parent s p l e = let w = (F.snapshots_formed p l.0).above_zero in omega (arith, l.1)

  -- a link leads to one snapshot
  pub link_one : (s p q : Bkey) → Link b s p → Link b s q → p ≡ q
  link_one s p q l k = snapshot_same b F p q l.0 k.0 (l.1 ∙ sym k.1)

  -- the snapshot at the end of links from a snapshot
  pub links_mem : (n : ℕ) (s a : Bkey) → s ∈ snapshots b → Links b n s a → a ∈ snapshots b
  links_mem zero s a m l = subst (λ (k : Bkey). k ∈ snapshots b) l m
  links_mem (suc n) s a m l = links_mem n l.0 a l.1.0 l.2

  -- the way to a parentless snapshot goes through every snapshot that links lead to
  pub rest : (j k : ℕ) (s a r : Bkey) → Links b j s a → Links b k s r → parent_word r ≡ 0 → (i : ℕ) × (j + i ≡ k) × Links b i a r
  rest zero k s a r l h z = (k, omega arith, subst (λ (x : Bkey). Links b k x r) l h)
  rest (suc j) zero s a r l h z = absurd (link_parent s l.0 l.1 (ap parent_word h ∙ z))
  rest (suc j) (suc k) s a r l h z =
      let e = link_one s l.0 h.0 l.1 h.1 in
      let t = rest j k l.0 a r l.2 (subst (λ (x : Bkey). Links b k x r) (sym e) h.2) z in
      (t.0, omega (arith, t.1), t.2)

  -- the way from a parentless snapshot has no link
  pub stays : (i : ℕ) (r a : Bkey) → Links b i r a → parent_word r ≡ 0 → (i ≡ 0) × (r ≡ a)
  stays zero r a l z = (refl, l)
  stays (suc i) r a l z = absurd (link_parent r l.0 l.1 z)

  -- a snapshot reaches one parentless snapshot, by one number of links
  pub root_one : (j k : ℕ) (s r q : Bkey) → Links b j s r → Links b k s q → parent_word r ≡ 0 → parent_word q ≡ 0 → (j ≡ k) × (r ≡ q)
  root_one j k s r q l h y z =
      let t = rest j k s r q l h z in
      let u = stays t.0 r q t.2 y in
      (omega (arith, t.1, u.0), u.1)

  -- THE PARENTS TABLE

  -- links to a parentless snapshot are a way over the table
  links_way : (n : ℕ) (s r : Bkey) → s ∈ snapshots b → Links b n s r → parent_word r ≡ 0 → Way (parents_of b) n s.offset r.offset
  links_way zero s r m l z = ((parents_read b F).at s m ∙ ap Some (ap parent_word l ∙ z), ap (λ (k : Bkey). k.offset) l)
  links_way (suc n) s r m l z = (
    l.0.offset,
    (parents_read b F).at s m ∙ ap Some (sym l.1.1),
    (λ e. link_parent s l.0 l.1 (sym l.1.1 ∙ e)),
    links_way n l.0 r l.1.0 l.2 z,
  )

  -- and the other way round
  way_links : (n : ℕ) (s : Bkey) → s ∈ snapshots b → (i : ℕ) → Way (parents_of b) n s.offset i
      → (r : Bkey) × Links b n s r × (parent_word r ≡ 0) × (r.offset ≡ i)
  way_links zero s m i w = (s, refl, same_Some _ _ (sym ((parents_read b F).at s m) ∙ w.0), w.1)
  way_links (suc n) s m i w =
      let v = way_present n w.0 w.3 in
      let p = (parents_read b F).from w.0 v.0 v.1 in
      let e : w.0 ≡ parent_word s = same_Some _ _ (sym w.1 ∙ (parents_read b F).at s m) in
      let t = way_links n p.0 p.1 i (subst (λ (j : ℕ). Way (parents_of b) n j i) (sym p.2) w.3) in
      (t.0, (p.0, (p.1, p.2 ∙ e), t.1), t.2, t.3)
    where
      way_present : (k j : ℕ) → Way (parents_of b) k j i → (q : ℕ) × (lookup j (parents_of b) ≡ Some q)
      way_present zero j x = (0, x.0)
      way_present (suc k) j x = (x.0, x.1)

  -- the walk over the table finds the parentless snapshot that links lead to, and nothing else
  pub root_found : (n : ℕ) (s r : Bkey) → s ∈ snapshots b → Links b n s r → parent_word r ≡ 0 → n ≤ 1024
      → root_of (parents_of b) s.offset ≡ Some (r.offset, n)
  unfolding root_of
  root_found n s r m l z h = way_root (parents_of b) n 1024 s.offset r.offset (links_way n s r m l z) h

  pub found_root : (s : Bkey) → s ∈ snapshots b → (i n : ℕ) → root_of (parents_of b) s.offset ≡ Some (i, n)
      → (r : Bkey) × Links b n s r × (parent_word r ≡ 0) × (r.offset ≡ i) × (n ≤ 1024)
  unfolding root_of
  found_root s m i n h =
      let w = root_way (parents_of b) 1024 s.offset i n h in
      let t = way_links n s m i w.0 in
      (t.0, t.1, t.2, t.3, w.1)

  -- THE IDS ON THE WAY

  up_parent : (n : ℕ) (s p : Bkey) → s ∈ snapshots b → Link b s p → links_up (parents_of b) (suc n) s.offset ≡ p.offset ∷ links_up (parents_of b) n p.offset
  up_parent n s p m l = up_link (parents_of b) n s.offset p.offset ((parents_read b F).at s m ∙ ap Some (sym l.1))

  -- each is the id of an ancestor
  pub up_ancestor : (n : ℕ) (s r : Bkey) → s ∈ snapshots b → Links b n s r → (w : ℕ) → w ∈ links_up (parents_of b) n s.offset
      → (a : Bkey) × Ancestor b s a × (a.offset ≡ w)
  unfolding links_up
  up_ancestor zero s r m l w h = absurd (Memᴰ.not-nil h)
  up_ancestor (suc n) s r m l w h =
      go (Memᴰ.cases_cons (rw (up_parent n s l.0 m l.1) at h))
      (λ h'. up_ancestor n l.0 r l.1.0 l.2 w h')
    where
      go : (w ≡ l.0.offset) ⊎ (w ∈ links_up (parents_of b) n l.0.offset)
          → (w ∈ links_up (parents_of b) n l.0.offset → (a : Bkey) × Ancestor b l.0 a × (a.offset ≡ w))
          → (a : Bkey) × Ancestor b s a × (a.offset ≡ w)
      go (inl e) ih = (l.0, (0, (l.0, l.1, refl)), sym e)
      go (inr h') ih = let t = ih h' in (t.0, (suc t.1.0, (l.0, l.1, t.1.1)), t.2)

  -- below a parentless snapshot each ancestor's id is one
  pub ancestor_up : (n j : ℕ) (s r a : Bkey) → s ∈ snapshots b → Links b n s r → parent_word r ≡ 0 → Links b (suc j) s a
      → a.offset ∈ links_up (parents_of b) n s.offset
  ancestor_up zero j s r a m l z h = absurd (link_parent s h.0 h.1 (ap parent_word l ∙ z))
  ancestor_up (suc n) zero s r a m l z h =
      rw (up_parent n s h.0 m h.1) (Memᴰ.head (ap (λ (k : Bkey). k.offset) (sym h.2)))
  ancestor_up (suc n) (suc j) s r a m l z h =
      let e = link_one s l.0 h.0 l.1 h.1 in
      rw (up_parent n s h.0 m h.1)
      (Memᴰ.tail (ancestor_up n j h.0 r a h.1.0 (subst (λ (k : Bkey). Links b n k r) e l.2) z h.2))
