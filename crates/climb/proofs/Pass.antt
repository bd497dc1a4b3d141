-- One pass over the keys: what it keeps from key to key, and what its ends give.
use Rattle.std.specs.Prelude.{None, Option, Some}
use Prim.Native.Nat.{ℕ, ◌+◌, ◌-◌, ◌≤◌, ◌<◌}
use mathlib.Core.Path.{◌≡◌, refl, sym, ap, ◌∙◌}
use mathlib.Core.Bool.{true, false, ◌&&◌}
use mathlib.Core.List.{List}
use native.Mathlib.Omega.{arith}
use lib.Dec.{eqb}
use Rattle.book.specs.Maps.{lookup}
use Rattle.book.specs.Book.{key_end, book_of}
use Rattle.book.specs.KeyMaps.{parents_of}
use Rattle.book.specs.Words.{holds, parent_word, id_of}
use Rattle.book.specs.Walk.{KeysFit}
use Rattle.walk.specs.Keys.{key_at}
use Rattle.maps.specs.LastKeys.{last_key, word_at}
use Rattle.parents.specs.declared.Root.{Root}
use Rattle.parents.specs.Roots.{root_of}
use Rattle.parents.specs.Chains.{root_answer}
use Rattle.parents.specs.Sources.{ByKeys}
use Rattle.parents.proofs.Climb.{Climbed, climbed_start, climbed_more, climbed_root, climbed_absent, climbed_full}
use Rattle.parents.proofs.Sources.{keys_found}
use Rattle.climb.specs.declared.Link.{Link}
use Rattle.climb.specs.declared.Step.{Step}
use Rattle.climb.specs.declared.Step.TheVariants.{On, End}
use Rattle.climb.specs.Links.{link, link_of, least_after, rises_from, Says}
use Rattle.climb.proofs.Order.{link_is, not_other, not_same, is_same, last_pass, last_here, rises_step, rises_end, least_is, rises_none, fit_rest}

-- what a link says, by numbers that are equal
pub says_top : {at links id parent r n : ℕ} {m : Option Link} → m ≡ link id parent → id ≡ at → parent ≡ 0 → r ≡ at → n ≡ links → Says at links m (End (Some (record { root = r; links = n })))
says_top f i z e g = Says.top f i z (rw (e, g))

pub says_up : {at links id parent a n : ℕ} {m : Option Link} → m ≡ link id parent → id ≡ at → at < parent → links < 1024 → a ≡ parent → n ≡ links + 1 → Says at links m (On a n)
says_up f i l c e g = Says.up f i l c (rw (e, g))

-- where the keys left rise, `links` links lead to `at`; and the keys passed over have no id from `at` on
pub record Climbing (s : List ℕ) (id count start left p least at links : ℕ) : Type 0 where
  pub fit : KeysFit s left p
  pub few : links ≤ 1024
  pub same : (x : ℕ) → at ≤ x → last_key (holds 9 22 8) id_of s x count start ≡ last_key (holds 9 22 8) id_of s x left p
  pub climbed : rises_from s left p least ≡ true → Climbed (parents_of (book_of s)) id at links

pub climbing_start : {s : List ℕ} (id : ℕ) {count start : ℕ} → ByKeys s start count → Climbing s id count start count start 0 id 0
climbing_start id b = record { fit = b.fit; few = omega arith; same = λ x h. refl; climbed = λ r. climbed_start _ id }

-- what the keys have for `at`, by its last key among those left
module _ {s : List ℕ} {id count start left p least at links : ℕ} (b : ByKeys s start count) (g : Climbing s id count start left p least at links) where
  at_absent : last_key (holds 9 22 8) id_of s at left p ≡ None → None ≡ (lookup at (parents_of (book_of s)))
  at_absent e = keys_found at b (sym (g.same at (omega arith) ∙ e)) (unfold word_at in refl)

  at_parent : {q a : ℕ} → last_key (holds 9 22 8) id_of s at left p ≡ Some q → parent_word (key_at s q) ≡ a → Some a ≡ (lookup at (parents_of (book_of s)))
  at_parent {q} e w = keys_found at b (sym (g.same at (omega arith) ∙ e)) (unfold word_at in ap (λ (x : ℕ). Some x) (sym w))

  -- past the last key
  pub climbing_end : left ≡ 0 → None ≡ root_answer (root_of (parents_of (book_of s)) id)
  unfolding last_key
  climbing_end e = climbed_absent (g.climbed (sym (rises_end s left p least e))) (at_absent (rw e)) refl

-- a key more
module _ {s : List ℕ} {id count start left p least at links : ℕ} {m : Option Link} {o : Option ℕ} {q l : ℕ}
    (b : ByKeys s start count) (g : Climbing s id count start left p least at links) (h : 0 < left)
    (k : m ≡ link_of (key_at s p)) (n : o ≡ least_after least m) (t : o ≡ Some l) (e : q ≡ key_end s p) where
  rise : rises_from s (left - 1) q l ≡ true → rises_from s left p least ≡ true
  rise r = rises_step s left p least h k (sym n ∙ t) ∙ rw e at r

  -- no id below `l` is after it
  none_after : (x : ℕ) → x < l → rises_from s (left - 1) q l ≡ true → last_key (holds 9 22 8) id_of s x (left - 1) (key_end s p) ≡ None
  none_after x i r = rises_none s x (left - 1) (key_end s p) l (rw e at r) i

  found : {i a : ℕ} → m ≡ link i a → i ≡ at → rises_from s (left - 1) q l ≡ true → Some a ≡ (lookup at (parents_of (book_of s)))
  found f i r =
      let a = least_is least f (sym n ∙ t) in
      at_parent b g (last_here s at left p h (is_same (key_at s p) at (sym k ∙ f) i) (none_after at (omega arith) r)) (link_is (key_at s p) (sym k ∙ f)).2

  absent : {i a : ℕ} → m ≡ link i a → at < i → rises_from s (left - 1) q l ≡ true → None ≡ (lookup at (parents_of (book_of s)))
  absent f i r =
      let a = least_is least f (sym n ∙ t) in
      at_absent b g (last_pass s at left p h (not_same (key_at s p) at (sym k ∙ f) (omega arith)) ∙ none_after at (omega arith) r)

  goes : {a j : ℕ} → at ≤ a → j ≤ 1024 → ((x : ℕ) → a ≤ x → holds 9 22 8 (key_at s p) && eqb (id_of (key_at s p)) x ≡ false)
      → (rises_from s (left - 1) q l ≡ true → Climbed (parents_of (book_of s)) id a j) → Climbing s id count start (left - 1) q l a j
  goes i few f c = record {
    fit = fit_rest s left p h g.fit e;
    few = few;
    same = λ x y. rw e (g.same x (omega arith) ∙ last_pass s x left p h (f x y));
    climbed = c;
  }

  pub climbing_more : {v : Step} {a j : ℕ} → Says at links m v → v ≡ On a j → Climbing s id count start (left - 1) q l a j
  climbing_more {a = a} {j = j} (Says.other f u) w =
      let x : at ≡ a = cc in let y : links ≡ j = cc in
      rw (← x, ← y) (goes (omega arith) g.few (λ x i. not_other (key_at s p) x (sym k ∙ f)) (λ r. g.climbed (rise r)))
  climbing_more {a = a} {j = j} (Says.lower f i u) w =
      let x : at ≡ a = cc in let y : links ≡ j = cc in
      rw (← x, ← y) (goes (omega arith) g.few (λ x y. not_same (key_at s p) x (sym k ∙ f) (omega arith)) (λ r. g.climbed (rise r)))
  climbing_more (Says.past f i u) w = let z : ◌≡◌ {A = ℕ} 0 1 = cc in absurd (omega arith)
  climbing_more (Says.top f i z u) w = let z : ◌≡◌ {A = ℕ} 0 1 = cc in absurd (omega arith)
  climbing_more (Says.full f i z c u) w = let z : ◌≡◌ {A = ℕ} 0 1 = cc in absurd (omega arith)
  climbing_more {a = a} {j = j} (Says.up {parent = parent} f i above c u) w =
      let x : parent ≡ a = cc in let y : links + 1 ≡ j = cc in
      rw (← x, ← y) (goes (omega arith) (omega arith) (λ x y. not_same (key_at s p) x (sym k ∙ f) (omega arith))
      (λ r. climbed_more (g.climbed (rise r)) (found f i r) refl (omega arith) (omega arith)))
  climbing_more (Says.lost f i c u) w = let z : ◌≡◌ {A = ℕ} 0 1 = cc in absurd (omega arith)

  pub climbing_ends : {v : Step} {x : Option Root} → Says at links m v → v ≡ End x → rises_from s (left - 1) q l ≡ true → x ≡ root_answer (root_of (parents_of (book_of s)) id)
  climbing_ends (Says.other f u) w r = let z : ◌≡◌ {A = ℕ} 0 1 = cc in absurd (omega arith)
  climbing_ends (Says.lower f i u) w r = let z : ◌≡◌ {A = ℕ} 0 1 = cc in absurd (omega arith)
  climbing_ends {x = x} (Says.past f i u) w r =
      let y : x ≡ None = cc in
      y ∙ climbed_absent (g.climbed (rise r)) (absent f i r) refl
  climbing_ends {x = x} (Says.top f i z u) w r =
      let y : x ≡ Some (record { root = at; links = links }) = cc in
      y ∙ climbed_root (g.climbed (rise r)) (found f i r) refl z
  climbing_ends {x = x} (Says.full f i z c u) w r =
      let y : x ≡ None = cc in
      y ∙ climbed_full (g.climbed (rise r)) (found f i r) refl z c
  climbing_ends (Says.up f i above c u) w r = let z : ◌≡◌ {A = ℕ} 0 1 = cc in absurd (omega arith)
  climbing_ends (Says.lost f i c u) w r = let z : ◌≡◌ {A = ℕ} 0 1 = cc in absurd (omega arith)
