-- Two states that lie 13 bits or more apart have no word within six bits of both: by the triangle inequality of the distance.
use Prim.Native.Nat.{ℕ, zero, suc, ◌+◌, ◌/◌, ◌%◌, ◌^◌, ◌≤◌, ◌<◌}
use mathlib.Core.Path.{◌≡◌, refl, sym, ap, ap₂, subst, ◌∙◌}
use mathlib.Core.Bool.{Bool, true, false, cond, ◌&&◌}
use mathlib.Core.List.Memᴰ
use mathlib.Core.List.{List, [], ◌∷◌, Memᴰ}
use native.Mathlib.Omega.{arith}
use lib.Dec.{eqb, leb}
use borrow.Author.Tests.{eq-eqb, ne_eqb, leb-true, leb-false, le-leb}
use Rattle.pairs.proofs.Order.{both_true, same_or_not}
use Rattle.states.specs.declared.Nearest.{Nearest}
use Rattle.states.specs.StateDistance.{bits_apart, distance, nearer, state_distance, snap_states, subvol_live, subvol_states}
use Rattle.states.specs.NeverAToss.{far_from, apart, state_lists, NeverAToss}

-- ---- the distance

-- whether two digits differ
differs : ℕ → ℕ → ℕ
differs a b = cond (eqb a b) 0 1

differs_sym : (a b : ℕ) → differs a b ≡ differs b a
unfolding differs
differs_sym a b = same_or_not a b (λ e. rw e refl) (λ n. rw (ne_eqb a b n, ne_eqb b a (λ e. n (sym e))) refl)

differs_le : (a b : ℕ) → differs a b ≤ 1
unfolding differs
differs_le a b = same_or_not a b (λ e. rw (eq-eqb a b e) (omega arith)) (λ n. rw (ne_eqb a b n) (omega arith))

differs_one : (a b : ℕ) → (a ≡ b → ⊥) → differs a b ≡ 1
unfolding differs
differs_one a b n = rw (ne_eqb a b n) refl

-- of three digits, where two differ one of them differs from the third
differs_between : (a b c : ℕ) → differs a c ≤ differs a b + differs b c
differs_between a b c = same_or_not a b (λ e. rw e (omega arith)) (λ n. omega (arith, differs_le a c, differs_one a b n))

-- the low n bits
low_sym : (n x y : ℕ) → bits_apart n x y ≡ bits_apart n y x
unfolding bits_apart differs
low_sym zero x y = refl
low_sym (suc n) x y = ap₂ (λ (a b : ℕ). a + b) (low_sym n x y) (differs_sym (x / 2 ^ n % 2) (y / 2 ^ n % 2))

low_le : (n x y : ℕ) → bits_apart n x y ≤ n
unfolding bits_apart differs
low_le zero x y = omega arith
low_le (suc n) x y = omega (arith, low_le n x y, differs_le (x / 2 ^ n % 2) (y / 2 ^ n % 2))

low_between : (n x y z : ℕ) → bits_apart n x z ≤ bits_apart n x y + bits_apart n y z
unfolding bits_apart differs
low_between zero x y z = omega arith
low_between (suc n) x y z = omega (arith, low_between n x y z, differs_between (x / 2 ^ n % 2) (y / 2 ^ n % 2) (z / 2 ^ n % 2))

-- from a state to another by way of a word
between : (word s t : ℕ) → distance s t ≤ distance word s + distance word t
between word s t = omega (arith, low_between 32 s word t, low_sym 32 s word)

-- ---- states of a list

far_each : (n s t : ℕ) (ts : List ℕ) → far_from n s ts ≡ true → Memᴰ t ts → n ≤ distance s t
unfolding far_from
far_each n s t [] e m = elim m [ ]
far_each n s t (u ∷ ts) e (Memᴰ.head h) = rw h (leb-true n (distance s u) (both_true (leb n (distance s u)) (far_from n s ts) e).0)
far_each n s t (u ∷ ts) e (Memᴰ.tail m) = far_each n s t ts (both_true (leb n (distance s u)) (far_from n s ts) e).1 m

apart_each : (n s t : ℕ) (states : List ℕ) → apart n states ≡ true → Memᴰ s states → Memᴰ t states → (s ≡ t → ⊥) → n ≤ distance s t
unfolding apart
apart_each n s t [] e m l other = elim m [ ]
apart_each n s t (u ∷ us) e (Memᴰ.head h) (Memᴰ.head k) other = absurd (other (h ∙ sym k))
apart_each n s t (u ∷ us) e (Memᴰ.head h) (Memᴰ.tail m) other = rw h (far_each n u t us (both_true (far_from n u us) (apart n us) e).0 m)
apart_each n s t (u ∷ us) e (Memᴰ.tail m) (Memᴰ.head k) other = rw (k, low_sym 32 s u) (far_each n u s us (both_true (far_from n u us) (apart n us) e).0 m)
apart_each n s t (u ∷ us) e (Memᴰ.tail m) (Memᴰ.tail l) other = apart_each n s t us (both_true (far_from n u us) (apart n us) e).1 m l other

-- ---- the nearest state

-- what is given for a list of one state or more: a listed state and its distance, and none is nearer
record Given (word : ℕ) (states : List ℕ) (n : Nearest) : Type 0 where
  listed : Memᴰ n.state states
  its : n.distance ≡ distance word n.state
  least : (s : ℕ) → Memᴰ s states → n.distance ≤ distance word s

first_or_rest : (P : ℕ → Type 0) (x : ℕ) (xs : List ℕ) → P x → ((s : ℕ) → Memᴰ s xs → P s) → (s : ℕ) → Memᴰ s (x ∷ xs) → P s
first_or_rest P x xs p q s (Memᴰ.head e) = subst P (sym e) p
first_or_rest P x xs p q s (Memᴰ.tail m) = q s m

given_more : (word x : ℕ) (xs : List ℕ) (n : Nearest) → Given word xs n → Given word (x ∷ xs) (nearer (record { distance = distance word x; state = x }) n)
unfolding nearer
given_more word x xs n g = by-test (leb (distance word x) n.distance) refl
  where
    by-test : (t : Bool) → leb (distance word x) n.distance ≡ t → Given word (x ∷ xs) (nearer (record { distance = distance word x; state = x }) n)
    by-test true e =
        let near = leb-true (distance word x) n.distance e in
        rw e record {
          listed = Memᴰ.head refl;
          its = refl;
          least = first_or_rest (λ s. distance word x ≤ distance word s) x xs (omega arith) (λ s m. omega (arith, near, g.least s m));
        }
    by-test false e =
        let far = leb-false (distance word x) n.distance e in
        rw e record {
          listed = Memᴰ.tail g.listed;
          its = g.its;
          least = first_or_rest (λ s. n.distance ≤ distance word s) x xs (omega (arith, far)) g.least;
        }

given_all : (word x : ℕ) (xs : List ℕ) → Given word (x ∷ xs) (state_distance word (x ∷ xs))
unfolding state_distance nearer
given_all word x [] =
    rw (le-leb (distance word x) 32 (low_le 32 word x)) record {
      listed = Memᴰ.head refl;
      its = refl;
      least = first_or_rest (λ s. distance word x ≤ distance word s) x [] (omega arith) (λ s m. absurd (Memᴰ.not-nil m));
    }
given_all word x (y ∷ ys) = given_more word x (y ∷ ys) (state_distance word (y ∷ ys)) (given_all word y ys)

-- so for a list in which some state stands
given_any : (word s : ℕ) (states : List ℕ) → Memᴰ s states → Given word states (state_distance word states)
given_any word s [] m = absurd (Memᴰ.not-nil m)
given_any word s (x ∷ xs) m = given_all word x xs

-- a state is given where it is the one found
meant : (word s : ℕ) (n : Nearest) → s ≡ n.state → n.distance ≡ distance word n.state → n ≡ record { distance = distance word s; state = s }
meant word s n same its = rw same (ap (λ (d : ℕ). nearest d n.state) its)
  where
    nearest : ℕ → ℕ → Nearest
    nearest d state = record { distance = d; state = state }

-- ---- never a toss

-- any list whose states lie 13 bits or more apart
pub apart_never : (states : List ℕ) → apart 13 states ≡ true → NeverAToss states
apart_never states e = record { others = others; given = given }
  where
    others : (word s t : ℕ) → Memᴰ s states → Memᴰ t states → (s ≡ t → ⊥) → distance word s ≤ 6 → 6 < distance word t
    others word s t m l other near = omega (arith, apart_each 13 s t states e m l other, between word s t, near)

    given : (word s : ℕ) → Memᴰ s states → distance word s ≤ 6 → state_distance word states ≡ record { distance = distance word s; state = s }
    given word s m near =
        let n = state_distance word states in
        let g = given_any word s states m in
        same_or_not s n.state
        (λ same. meant word s n same g.its)
        (λ other. absurd (omega (arith, others word s n.state m g.listed other near, g.its, g.least s m, near)))

-- whether each list of these has its states so far apart
every_apart : List (List ℕ) → Bool
every_apart [] = true
every_apart (l ∷ ls) = apart 13 l && every_apart ls

one_apart : (ls : List (List ℕ)) (l : List ℕ) → every_apart ls ≡ true → Memᴰ l ls → apart 13 l ≡ true
unfolding every_apart
one_apart [] l e m = elim m [ ]
one_apart (k ∷ ks) l e (Memᴰ.head h) = rw h (both_true (apart 13 k) (every_apart ks) e).0
one_apart (k ∷ ks) l e (Memᴰ.tail m) = one_apart ks l (both_true (apart 13 k) (every_apart ks) e).1 m

-- both lists do, by computation
both_apart : every_apart state_lists ≡ true
unfolding every_apart apart far_from bits_apart state_lists snap_states subvol_states
both_apart = refl

-- so for both lists
pub never_a_toss : (states : List ℕ) → Memᴰ states state_lists → NeverAToss states
never_a_toss states m = apart_never states (one_apart state_lists states both_apart m)

-- document 01's example, two bits off the first of its list
example : state_distance 0x4ad5447d subvol_states ≡ record { distance = 2; state = subvol_live }
unfolding bits_apart state_lists subvol_states
example = (never_a_toss subvol_states (Memᴰ.tail (Memᴰ.head refl))).given 0x4ad5447d subvol_live (Memᴰ.head refl) (omega arith)
