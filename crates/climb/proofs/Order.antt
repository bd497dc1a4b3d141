-- Snapshots that rise: what the key at hand leaves to those after it, and which ids these have not.
use Rattle.std.specs.Prelude.{None, Option, Some}
use Prim.Native.Nat.{ℕ, zero, suc, ◌+◌, ◌-◌, ◌≤◌, ◌<◌}
use mathlib.Core.Path.{◌≡◌, refl, sym, ap, ◌∙◌}
use mathlib.Core.Bool.{Bool, true, false, cond, ◌&&◌}
use mathlib.Core.List.{List}
use native.Mathlib.Omega.{arith}
use lib.Dec.{eqb, ltb}
use borrow.Author.Tests.{eq-eqb, ne_eqb, le-ltb, ltb-false}
use Rattle.pairs.specs.Pairs.{or_else}
use Rattle.book.specs.Book.{Bkey, key_end}
use Rattle.book.specs.Words.{holds, parent_word, id_of}
use Rattle.book.specs.Walk.{KeysFit}
use Rattle.book.proofs.Walk.{step}
use Rattle.book.specs.declared.open.Key.{Key}
use Rattle.book.specs.declared.open.Keys.{Keys}
use Rattle.book.specs.Turns.{held, GivesKey}
use Rattle.walk.specs.Keys.{key_at}
use Rattle.maps.specs.LastKeys.{last_key}
use Rattle.climb.specs.declared.Link.{Link}
use Rattle.climb.specs.Links.{link, link_of, least_after, rises_via, rises_from}

-- ---- the link of a key
id_in : Option Link → ℕ
id_in None = 0
id_in (Some l) = l.id

parent_in : Option Link → ℕ
parent_in None = 0
parent_in (Some l) = l.parent

link_by : (k : Bkey) (b : Bool) → holds 9 22 8 k ≡ b → {i q : ℕ} → cond b (link (id_of k) (parent_word k)) None ≡ link i q
    → (holds 9 22 8 k ≡ true) × (id_of k ≡ i) × (parent_word k ≡ q)
unfolding id_in parent_in
link_by k true h e = (h, ap id_in e, ap parent_in e)
link_by k false h e = let z : ◌≡◌ {A = ℕ} 0 1 = cc in absurd (omega arith)

pub link_is : (k : Bkey) {i q : ℕ} → link_of k ≡ link i q → (holds 9 22 8 k ≡ true) × (id_of k ≡ i) × (parent_word k ≡ q)
unfolding link_of
link_is k e = link_by k (holds 9 22 8 k) refl e

none_by : (k : Bkey) (b : Bool) → holds 9 22 8 k ≡ b → cond b (link (id_of k) (parent_word k)) None ≡ None → holds 9 22 8 k ≡ false
none_by k true h e = let z : ◌≡◌ {A = ℕ} 0 1 = cc in absurd (omega arith)
none_by k false h e = h

-- a key that is not the snapshot x
pub not_other : (k : Bkey) (x : ℕ) → link_of k ≡ None → holds 9 22 8 k && eqb (id_of k) x ≡ false
unfolding link_of
not_other k x e = rw (none_by k (holds 9 22 8 k) refl e)

pub not_same : (k : Bkey) (x : ℕ) {i q : ℕ} → link_of k ≡ link i q → (i ≡ x → ⊥) → holds 9 22 8 k && eqb (id_of k) x ≡ false
not_same k x e n = let h = link_is k e in rw (h.0, h.1, ne_eqb _ _ n)

pub is_same : (k : Bkey) (x : ℕ) {i q : ℕ} → link_of k ≡ link i q → i ≡ x → holds 9 22 8 k && eqb (id_of k) x ≡ true
is_same k x e n = let h = link_is k e in rw (h.0, h.1, eq-eqb _ _ n)

-- ---- the last snapshot of an id, by the key at hand
pub last_pass : (s : List ℕ) (x n p : ℕ) → 0 < n → holds 9 22 8 (key_at s p) && eqb (id_of (key_at s p)) x ≡ false
    → last_key (holds 9 22 8) id_of s x n p ≡ last_key (holds 9 22 8) id_of s x (n - 1) (key_end s p)
unfolding last_key
last_pass s x zero p h e = absurd (omega arith)
last_pass s x (suc n) p h e = let less : suc n - 1 ≡ n = omega arith in rw (less, e) (or-none (last_key (holds 9 22 8) id_of s x n (key_end s p)))
  where
    or-none : (m : Option ℕ) → or_else m None ≡ m
    or-none (Some q) = unfold or_else in refl
    or-none None = unfold or_else in refl

pub last_here : (s : List ℕ) (x n p : ℕ) → 0 < n → holds 9 22 8 (key_at s p) && eqb (id_of (key_at s p)) x ≡ true
    → last_key (holds 9 22 8) id_of s x (n - 1) (key_end s p) ≡ None → last_key (holds 9 22 8) id_of s x n p ≡ Some p
unfolding last_key or_else
last_here s x zero p h e a = absurd (omega arith)
last_here s x (suc n) p h e a = let less : suc n - 1 ≡ n = omega arith in rw (e, rw less at a)

-- ---- keys that rise
pub rises_step : (s : List ℕ) (n p least : ℕ) {m : Option Link} {l : ℕ} → 0 < n → m ≡ link_of (key_at s p) → least_after least m ≡ Some l
    → rises_from s n p least ≡ rises_from s (n - 1) (key_end s p) l
unfolding rises_from rises_via
rises_step s zero p least h k e = absurd (omega arith)
rises_step s (suc n) p least h k e = let less : suc n - 1 ≡ n = omega arith in rw (less, ← k, e)

pub rises_not : (s : List ℕ) (n p least : ℕ) {m : Option Link} → 0 < n → m ≡ link_of (key_at s p) → least_after least m ≡ None
    → false ≡ rises_from s n p least
unfolding rises_from rises_via
rises_not s zero p least h k e = absurd (omega arith)
rises_not s (suc n) p least h k e = rw (← k, e)

pub rises_end : (s : List ℕ) (n p least : ℕ) → n ≡ 0 → true ≡ rises_from s n p least
unfolding rises_from
rises_end s n p least e = rw e

-- a snapshot that may stand there, and the least id after it
least_by : (b : Bool) (i least : ℕ) {l : ℕ} → ltb i least ≡ b → cond b None (Some (i + 1)) ≡ Some l → (least ≤ i) × (l ≡ i + 1)
least_by true i least t e = let z : ◌≡◌ {A = ℕ} 0 1 = cc in absurd (omega arith)
least_by false i least t e = (ltb-false i least t, cc)

pub least_is : (least : ℕ) {m : Option Link} {i q l : ℕ} → m ≡ link i q → least_after least m ≡ Some l → (least ≤ i) × (l ≡ i + 1)
unfolding least_after
least_is least {i = i} e f = least_by (ltb i least) i least refl (rw e at f)

pub least_one_more : (least : ℕ) {m : Option Link} {i q n : ℕ} → m ≡ link i q → least ≤ i → n ≡ i + 1 → Some n ≡ least_after least m
unfolding least_after
least_one_more least {i = i} e h g = rw (e, g, le-ltb i least h)

-- the ids below the least are not among them
pub rises_none : (s : List ℕ) (x n p least : ℕ) → rises_from s n p least ≡ true → x < least → last_key (holds 9 22 8) id_of s x n p ≡ None
unfolding rises_from
rises_none s x zero p least r h = unfold last_key in refl
rises_none s x (suc n) p least r h = by-link (link_of (key_at s p)) refl r (λ l t i. rises_none s x n (key_end s p) l t i)
  where
    less : suc n - 1 ≡ n
    less = omega arith

    by-least : (m : Option Link) (o : Option ℕ) → link_of (key_at s p) ≡ m → least_after least m ≡ o → rises_via (λ l. rises_from s n (key_end s p) l) o ≡ true
        → ((l : ℕ) → rises_from s n (key_end s p) l ≡ true → x < l → last_key (holds 9 22 8) id_of s x n (key_end s p) ≡ None)
        → last_key (holds 9 22 8) id_of s x (suc n) p ≡ None
    by-least m None k e t f = let z : true ≡ false = sym (unfold rises_via in t) in let y : ◌≡◌ {A = ℕ} 0 1 = cc in absurd (omega arith)
    by-least None (Some l) k e t f =
        let same : least ≡ l = unfold least_after in cc in
        last_pass s x (suc n) p (omega arith) (not_other (key_at s p) x k) ∙ rw less (f l (unfold rises_via in t) (omega arith))
    by-least (Some v) (Some l) k e t f =
        let a = least_is least {m = Some v} {i = v.id} {q = v.parent} refl e in
        last_pass s x (suc n) p (omega arith) (not_same (key_at s p) x k (omega arith)) ∙ rw less (f l (unfold rises_via in t) (omega arith))

    by-link : (m : Option Link) → link_of (key_at s p) ≡ m → rises_via (λ l. rises_from s n (key_end s p) l) (least_after least (link_of (key_at s p))) ≡ true
        → ((l : ℕ) → rises_from s n (key_end s p) l ≡ true → x < l → last_key (holds 9 22 8) id_of s x n (key_end s p) ≡ None)
        → last_key (holds 9 22 8) id_of s x (suc n) p ≡ None
    by-link m k t f = by-least m (least_after least m) k refl (rw k at t) f

-- ---- a walk that looks whether they rise
-- the keys after the one at hand
pub fit_rest : (s : List ℕ) (n p : ℕ) {q : ℕ} → 0 < n → KeysFit s n p → q ≡ key_end s p → KeysFit s (n - 1) q
fit_rest s n p h fit e = rw e (step s n p h fit).rest

-- that the keys of `all` rise from `from` on is that those left rise from `least` on
pub record Ordered (all : Keys) (from : ℕ) (it : Keys) (least : ℕ) : Type 0 where
  pub whole : rises_from all.book.now all.left all.at from ≡ rises_from it.book.now it.left it.at least

pub ordered_start : (all : Keys) (from : ℕ) → Ordered all from all from
ordered_start all from = record { whole = refl }

module _ {all : Keys} {from : ℕ} (it it' : Keys) (k : Key) {least : ℕ} {m : Option Link} {o : Option ℕ} (s : GivesKey it (Some k) it') (g : Ordered all from it least)
    (e : m ≡ link_of (held k)) (a : o ≡ least_after least m) where
  pub ordered_more : {l : ℕ} → o ≡ Some l → Ordered all from it' l
  ordered_more t = record {
    whole = g.whole ∙ rw (s.3, s.4, s.5) (rises_step it.book.now it.left it.at least s.0 (rw (s.1, s.2) at e) (sym a ∙ t));
  }

  pub ordered_not : o ≡ None → false ≡ rises_from all.book.now all.left all.at from
  ordered_not t = rises_not it.book.now it.left it.at least s.0 (rw (s.1, s.2) at e) (sym a ∙ t) ∙ sym g.whole

pub ordered_end : {all : Keys} {from : ℕ} {it : Keys} {least : ℕ} → Ordered all from it least → it.left ≡ 0 → true ≡ rises_from all.book.now all.left all.at from
ordered_end {it = it} {least = least} g e = rises_end it.book.now it.left it.at least e ∙ sym g.whole
