-- The key at hand by its front, and a walk over the keys that keeps the last snapshot of an id.
use Rattle.std.specs.Prelude.{None, Option, Some}
use Prim.Native.Nat.{ℕ, zero, suc, ◌+◌, ◌-◌, ◌≤◌, ◌<◌}
use mathlib.Core.Path.{◌≡◌, refl, sym, subst, ◌∙◌}
use mathlib.Core.Bool.{Bool, true, false, cond, ◌&&◌}
use mathlib.Core.List.{List}
use native.Mathlib.Omega.{arith}
use lib.ListN.{length}
use lib.Dec.{eqb, leb}
use Rattle.pairs.specs.Pairs.{or_else}
use Rattle.book.specs.declared.KeyFront.{KeyFront}
use Rattle.book.specs.Book.{is, key_head, key_end}
use Rattle.book.specs.Words.{holds, id_of}
use Rattle.book.specs.Walk.{KeysFit, front_of}
use Rattle.book.proofs.Walk.{step}
use Rattle.walk.specs.Keys.{key_at, AtKey}
use Rattle.walk.proofs.Gather.{at_long, at_length}
use Rattle.book.proofs.AtKey.{long_enough}
use Rattle.book.specs.declared.open.Key.{Key}
use Rattle.book.specs.declared.open.Keys.{Keys}
use Rattle.book.specs.Turns.{held, GivesKey}
use Rattle.maps.specs.LastKeys.{last_key}
use Rattle.maps.proofs.Places.{Held}
use Rattle.drawn.specs.Classes.{SnapshotAt}

-- ---- by the front of the key at hand
module _ {s : List ℕ} {p : ℕ} {f : KeyFront} (k : AtKey s p f) where
  pub at_holds : (b t m : ℕ) {x : Bool} → (eqb f.btree b && eqb f.key_type t) && leb m f.len ≡ x → holds b t m (key_at s p) ≡ x
  unfolding holds
  at_holds b t m e = at_long k b t m e

-- ---- a walk that keeps the last
or_with : (m last : Option ℕ) (t : Bool) (p : ℕ) → or_else (or_else m (cond t (Some p) None)) last ≡ or_else m (cond t (Some p) last)
unfolding or_else
or_with (Some q) last t p = refl
or_with None last true p = refl
or_with None last false p = refl

last_step : (s : List ℕ) (id left p : ℕ) (last : Option ℕ) → 0 < left → or_else (last_key (holds 9 22 8) id_of s id left p) last
    ≡ or_else (last_key (holds 9 22 8) id_of s id (left - 1) (key_end s p)) (cond (holds 9 22 8 (key_at s p) && eqb (id_of (key_at s p)) id) (Some p) last)
unfolding last_key
last_step s id zero p last h = absurd (omega arith)
last_step s id (suc n) p last h =
    let less : suc n - 1 ≡ n = omega arith in
    rw less (or_with (last_key (holds 9 22 8) id_of s id n (key_end s p)) last (holds 9 22 8 (key_at s p) && eqb (id_of (key_at s p)) id) p)

-- the last of the keys of `all` is that of the keys left, or else `last`
pub record Scanning (id : ℕ) (all it : Keys) (last : Option ℕ) : Type 0 where
  pub whole : last_key (holds 9 22 8) id_of all.book.now id all.left all.at ≡ or_else (last_key (holds 9 22 8) id_of it.book.now id it.left it.at) last

pub scan_start : (id : ℕ) (all : Keys) → Scanning id all all None
scan_start id all = record { whole = none (last_key (holds 9 22 8) id_of all.book.now id all.left all.at) }
  where
    none : (m : Option ℕ) → m ≡ or_else m None
    none (Some q) = unfold or_else in refl
    none None = unfold or_else in refl

pub scan_more : (id : ℕ) (it it' : Keys) (k : Key) {all : Keys} {last next : Option ℕ} → GivesKey it (Some k) it' → Scanning id all it last
    → next ≡ cond (holds 9 22 8 (held k) && eqb (id_of (held k)) id) (Some k.at) last → Scanning id all it' next
scan_more id it it' k {last = last} g h n =
    record { whole = h.whole ∙ last_step it.book.now id it.left it.at last g.0 ∙ rw (n, g.1, g.2, g.3, g.4, g.5) }

pub scan_end : {id : ℕ} {all it : Keys} {last : Option ℕ} → Scanning id all it last → it.left ≡ 0
    → last ≡ last_key (holds 9 22 8) id_of all.book.now id all.left all.at
unfolding last_key or_else
scan_end g e = sym (g.whole ∙ rw e)

-- ---- what was found
pub held_snapshot : (s : List ℕ) (m : ℕ) {x q : ℕ} → 8 ≤ m → length s ≤ 1048576 → Held (holds 9 22 m) id_of s x q → SnapshotAt s (Some q)
unfolding SnapshotAt holds
held_snapshot s m {x} {q} l small h = (small, h.head, h.inside, omega (arith, long_enough (is 9 22 (key_at s q)) m (length (key_at s q).value) h.passes))

pub at_snapshot : (s : List ℕ) {q : ℕ} {m : Option ℕ} → SnapshotAt s m → m ≡ Some q
    → (length s ≤ 1048576) × (q + 28 ≤ length s) × (key_end s q ≤ length s) × (8 ≤ length (key_at s q).value)
unfolding SnapshotAt
at_snapshot s h e = subst (SnapshotAt s) e h
