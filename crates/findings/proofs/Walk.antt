-- The walk of a rule over its items: the invariant of a rule's loop, and the laws by which it begins, turns and ends. A rule's proof cites the set `rule`.
use Rattle.std.proofs.Common.{◌≡◌, ℕ, suc, ◌+◌, ◌<◌, ◌≤◌, Bool, true, false, cond, List, [], ◌∷◌, ◌++◌, length, get_or, drop, sym, refl, ap, ◌∙◌, ap₂, append_assoc, append-nil, add-one, arith, drop_of_length-le, drop-cons, rules}
use Rattle.findings.specs.Findings.{Finding, start, Sink, sink, Found, Added, only, each, keep}
use Rattle.findings.proofs.Laws.{none, begin, more, more_lent, added_more, added_lent, added_only, added_not, lent, part, back, found_length, counts_length}

-- ---- the walk

-- of the findings `all` those before `rest` are found: n of them, and the sink, which was o, is o' now
pub record Begun (all : List Finding) (o : Sink) (rest : List Finding) (n : ℕ) (o' : Sink) : Type 0 where
  pub passed : List Finding
  pub found : Found o passed n o'
  pub whole : all ≡ passed ++ rest

-- the walk over the items `all`, of which `rest` are left, from index i on
abbrev pub Walk : {A : Type 0} → (ℕ → A → List Finding) → List A → Sink → ℕ → List A → ℕ → Sink → Type 0
Walk at all o i rest n o' = Begun (each at 0 all) o (each at i rest) n o'

-- before the first finding
pub first : {all : List Finding} {o : Sink} → Begun all o all 0 o
first {o = o} = record { passed = []; found = none o; whole = refl }

-- a turn: of what was left came fs, and gs are left now
pub turn : {all rest fs gs : List Finding} {o o₁ o₂ : Sink} {n r : ℕ} → Begun all o rest n o₁ → Added o₁ n fs r o₂ → rest ≡ fs ++ gs → Begun all o gs r o₂
turn {fs = fs} {gs = gs} b a e =
    record {
      passed = b.passed ++ fs;
      found = more b.found a;
      whole = b.whole ∙ ap (λ (l : List Finding). b.passed ++ l) e ∙ sym (append_assoc b.passed fs gs);
    }

-- the same where they were put into the part of the buffer that was lent for them
pub turn_lent : {all rest fs gs : List Finding} {o : Sink} {o₁ ys c₁ c₂ : List ℕ} (a n r : ℕ)
    → a ≡ start (length o₁) n → Begun all o rest n (sink o₁ c₁) → Found (sink (part o₁ a) c₁) fs r (sink ys c₂) → rest ≡ fs ++ gs → Begun all o gs (n + r) (sink (back o₁ a ys) c₂)
turn_lent {o₁ = o₁} a n r s b h e = turn b (lent o₁ a n s h) e

-- the end: nothing is left
pub last : {all rest : List Finding} {o o' : Sink} {n : ℕ} → Begun all o rest n o' → rest ≡ [] → Found o all n o'
last b e = rw (b.whole, e, append-nil) b.found

-- the buffer keeps its length
pub begun_length : {all rest : List Finding} {o o' : Sink} {n : ℕ} → Begun all o rest n o' → length o'.buffer ≡ length o.buffer
begun_length b = found_length b.found

-- the counts keep theirs
pub begun_counts : {all rest : List Finding} {o o' : Sink} {n : ℕ} → Begun all o rest n o' → length o'.counts ≡ length o.counts
begun_counts b = counts_length b.found

-- ---- what is left, one item on

-- the findings at the item x, then those at the others; and none, where no item is left
module _ {A : Type 0} (at : ℕ → A → List Finding) where
  pub each_cons : {x : A} {rest xs : List A} (i : ℕ) → rest ≡ x ∷ xs → each at i rest ≡ at i x ++ each at (i + 1) xs
  unfolding each
  each_cons i e = rw (e, add-one)

  pub each_none : {rest : List A} (i : ℕ) → rest ≡ [] → each at i rest ≡ []
  unfolding each
  each_none i e = rw e

-- a rule that ignores the index
module _ {A : Type 0} (at : ℕ → A → List Finding) (free : (i : ℕ) (x : A) → at i x ≡ at 0 x) where
  pub each_any : (i : ℕ) (xs : List A) → each at i xs ≡ each at 0 xs
  unfolding each
  each_any i [] = refl
  each_any i (x ∷ xs) = rw (free i x, each_any (suc i) xs, each_any 1 xs)

  pub each_next : {x : A} {rest xs : List A} → rest ≡ x ∷ xs → each at 0 rest ≡ at 0 x ++ each at 0 xs
  each_next {x} {xs = xs} e = each_cons at 0 e ∙ ap (λ (l : List Finding). at 0 x ++ l) (each_any 1 xs)

module _ {A : Type 0} (f : A → List Finding) (test : A → Bool) where
  kept : (b : Bool) (x : A) (xs : List A) {fs : List Finding} → each (λ _ x. f x) 0 xs ≡ fs → each (λ _ x. f x) 0 (cond b (x ∷ xs) xs) ≡ only b (f x) ++ fs
  unfolding each only
  kept true x xs e = ap (λ (l : List Finding). f x ++ l) (each_any (λ _ x. f x) (λ i x. refl) 1 xs ∙ e)
  kept false x xs e = e

  -- the items that a test drops give nothing
  pub each_keep : (xs : List A) → each (λ _ x. f x) 0 (keep test xs) ≡ each (λ _ x. only (test x) (f x)) 0 xs
  unfolding each keep
  each_keep [] = refl
  each_keep (x ∷ xs) = kept (test x) x (keep test xs) (each_keep xs) ∙ ap (λ (l : List Finding). only (test x) (f x) ++ l) (sym (each_any (λ _ x. only (test x) (f x)) (λ i x. refl) 1 xs))

-- rules that say the same of every item
pub each_same : {A : Type 0} (f g : A → List Finding) → ((x : A) → f x ≡ g x) → (i : ℕ) (xs : List A) → each (λ _ x. f x) i xs ≡ each (λ _ x. g x) i xs
unfolding each
each_same f g h i [] = refl
each_same f g h i (x ∷ xs) = ap₂ (λ (a b : List Finding). a ++ b) (h x) (each_same f g h (suc i) xs)

-- the items of two lists
pub each_append : {A : Type 0} (at : ℕ → A → List Finding) (i : ℕ) (xs ys : List A) → each at i (xs ++ ys) ≡ each at i xs ++ each at (i + length xs) ys
unfolding each
each_append at i [] ys = ap (λ (k : ℕ). each at k ys) (omega arith)
each_append at i (x ∷ xs) ys =
    ap (λ (l : List Finding). at i x ++ l) (each_append at (suc i) xs ys ∙ ap (λ (k : ℕ). each at (suc i) xs ++ each at k ys) (omega arith))
    ∙ sym (append_assoc (at i x) (each at (suc i) xs) (each at (i + length (x ∷ xs)) ys))

-- what is left of a list from index i on
pub drop_at : {A : Type 0} (xs : List A) (i : ℕ) (d : A) → i < length xs → drop i xs ≡ get_or xs i d ∷ drop (i + 1) xs
drop_at xs i d h = rw (add-one, drop-cons xs i d)

pub drop_past : {A : Type 0} (xs : List A) (i : ℕ) → length xs ≤ i → drop i xs ≡ []
drop_past xs i h = drop_of_length-le xs {i = i} h

-- a turn of a loop by index over a slice, and the same in the part that was lent
module _ {all : List Finding} {o : Sink} (at : ℕ → ℕ → List Finding) (xs : List ℕ) (i : ℕ) (within : i < length xs) where
  pub turn_at : {o₁ o₂ : Sink} {n r : ℕ} → Begun all o (each at i (drop i xs)) n o₁ → Added o₁ n (at i (get_or xs i 0)) r o₂ → Begun all o (each at (i + 1) (drop (i + 1) xs)) r o₂
  turn_at b a = turn b a (each_cons at i (drop_at xs i 0 within))

  pub turn_at_lent : {o₁ ys c₁ c₂ : List ℕ} (a n r : ℕ) → a ≡ start (length o₁) n → Begun all o (each at i (drop i xs)) n (sink o₁ c₁) → Found (sink (part o₁ a) c₁) (at i (get_or xs i 0)) r (sink ys c₂)
      → Begun all o (each at (i + 1) (drop (i + 1) xs)) (n + r) (sink (back o₁ a ys) c₂)
  turn_at_lent a n r s b h = turn_lent a n r s b h (each_cons at i (drop_at xs i 0 within))

-- what answers the needs of a rule
pub ruleset rule = (rules, begin, more, more_lent, added_more, added_lent, added_only, added_not, first, turn, turn_lent, turn_at, turn_at_lent, last, each_none, drop_past, found_length, begun_length)
