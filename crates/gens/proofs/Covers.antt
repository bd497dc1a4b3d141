-- The pairs of the bucket_gens keys say which buckets are covered.
use Prim.Native.Nat.{ℕ, zero, suc, ◌+◌, ◌-◌, ◌*◌, ◌/◌, ◌≤◌, ◌<◌}
use mathlib.Core.Path.{◌≡◌, refl, ap, ap₂, ◌∙◌}
use mathlib.Core.Bool.{Bool, true, false, cond, not, ◌&&◌, ◌||◌}
use mathlib.Core.List.{List, [], ◌∷◌, ◌++◌}
use lib.ListN.{take}
use native.Mathlib.Omega.{arith}
use lib.Dec.{eqb}
use Rattle.findings.specs.Findings.{Finding, finding, when, only, each}
use Rattle.findings.proofs.Walk.{each_next, each_none}
use Rattle.pairs.specs.Pairs.{pair, sort, has}
use Rattle.pairs.proofs.Bounds.{has_sort}
use Rattle.pairs.proofs.Words.{pair_equal}
use Rattle.book.specs.declared.open.Book.{Book}
use Rattle.book.specs.declared.Header.{Header}
use Rattle.book.specs.declared.Places.{Places}
use Rattle.book.specs.Book.{Bkey, key_end, keys_from, whole_rest, gens_table, entry_at, gens_from, book_of}
use Rattle.book.specs.Walk.{Opened}
use Rattle.book.proofs.Tables.{entries_step, entries_none}
use Rattle.book.proofs.Walk.{parts}
use Rattle.walk.specs.Keys.{key_at, gather}
use Rattle.gens.specs.BucketGensAgainstAlloc.{is_gens, gen_at, gens_of_key, covered, uncovered, bucket_gens_against_alloc}
use Rattle.gens.specs.Steps.{key_gens, cover_pair, not_covered}

-- what a key gives
module _ (device : ℕ) (gens : List (ℕ × ℕ)) (k : Bkey) where
  pub gens_yes : is_gens device k ≡ true → {o : ℕ} → o ≡ k.offset → {v : List ℕ} → v ≡ k.value → each (gen_at gens o) 0 (take 256 v) ≡ key_gens device gens k
  unfolding gens_of_key only
  gens_yes e o v = rw (e, o, v)

  pub gens_no : is_gens device k ≡ false → key_gens device gens k ≡ []
  unfolding only
  gens_no e = rw e

-- the pair that a key gives
module _ (device p : ℕ) (k : Bkey) where
  pub cover_yes : is_gens device k ≡ true → {o : ℕ} → o ≡ k.offset → pair o 0 ∷ [] ≡ cover_pair device p k
  unfolding cover_pair
  cover_yes e o = rw (e, o)

  pub cover_no : is_gens device k ≡ false → cover_pair device p k ≡ []
  unfolding cover_pair
  cover_no e = rw e

has_first : (b : Bool) (x y : ℕ) (ys : List ℕ) {c d : Bool} → eqb x y ≡ c → has x ys ≡ d → has x (cond b (y ∷ []) [] ++ ys) ≡ (b && c) || d
unfolding has
has_first true x y ys e h = ap₂ (λ (a b : Bool). a || b) e h
has_first false x y ys e h = h

-- the pairs of all keys
covers_all : (device offset : ℕ) (s : List ℕ) (n p : ℕ) → has (pair offset 0) (gather (cover_pair device) s n p) ≡ covered device offset (keys_from s n p)
unfolding gather keys_from covered cover_pair has
covers_all device offset s zero p = refl
covers_all device offset s (suc n) p =
    has_first (is_gens device (key_at s p)) (pair offset 0) (pair (key_at s p).offset 0) (gather (cover_pair device) s n (key_end s p)) (pair_equal offset (key_at s p).offset 0) (covers_all device offset s n (key_end s p))

-- they say of every generation what the rule says
pub uncovered_all : {s : List ℕ} {h : Header} {at : Places} → Opened s h at → {xs : List ℕ} → xs ≡ sort (gather (cover_pair h.device) s h.keys at.keys)
    → each (λ _ k. key_gens h.device (book_of s).gens k) 0 (book_of s).keys ++ each (λ _ e. not_covered xs e.0 e.1) 0 (book_of s).gens ≡ bucket_gens_against_alloc (book_of s)
unfolding not_covered uncovered bucket_gens_against_alloc
uncovered_all {s} {h} {at} o {xs} sorted =
    let q = parts o in
    let device : (book_of s).header.device ≡ h.device = ap (λ (h : Header). h.device) q.header in
    let same : (e : ℕ × ℕ) → not_covered xs e.0 e.1 ≡ uncovered h.device (book_of s).keys e = λ e.
    rw (sorted, has_sort, q.keys, covers_all h.device (e.0 / 256) s h.keys at.keys) in
    rw device (λ i. each (λ _ k. key_gens h.device (book_of s).gens k) 0 (book_of s).keys ++ each (λ _ e. same e i) 0 (book_of s).gens)

-- what the code finds at an entry
pub not_covered_lem : (xs : List ℕ) (bucket generation : ℕ) {b g : ℕ} {t : Bool} → b ≡ bucket → g ≡ generation → t ≡ has (pair (b / 256) 0) xs
    → when (not (eqb g 0) && not t) (finding 46 b g) ≡ not_covered xs bucket generation
unfolding not_covered
not_covered_lem xs bucket generation b g t = rw (t, b, g)

-- the entries that are left
module _ (b : Book) (xs : List ℕ) where
  abbrev pub entries_left : ℕ → List Finding
  entries_left i = each (λ _ e. not_covered xs e.0 e.1) 0 (gens_from b.bytes.now (b.header.gens - i) (b.places.gens + i * 9))

  entries_at : {n m p q : ℕ} → n ≡ m → p ≡ q → each (λ _ e. not_covered xs e.0 e.1) 0 (gens_from b.bytes.now n p) ≡ each (λ _ e. not_covered xs e.0 e.1) 0 (gens_from b.bytes.now m q)
  entries_at e f = rw (e, f)

  pub entries_all : each (λ _ e. not_covered xs e.0 e.1) 0 (book_of b.bytes.now).gens ≡ entries_left 0
  entries_all =
      ap (λ (l : List (ℕ × ℕ)). each (λ _ e. not_covered xs e.0 e.1) 0 l) (parts b.opened).gens ∙ entries_at (omega arith) (omega arith)

  pub entries_next : (i : ℕ) → i < b.header.gens → {fs : List Finding}
      → fs ≡ not_covered xs (entry_at gens_table b.bytes.now (b.places.gens + i * 9)).first (entry_at gens_table b.bytes.now (b.places.gens + i * 9)).rest
      → entries_left i ≡ fs ++ entries_left (i + 1)
  entries_next i l e =
      rw e
      (each_next (λ _ e. not_covered xs e.0 e.1) (λ i e. refl) (entries_step whole_rest gens_table b.bytes.now (b.header.gens - i) (b.places.gens + i * 9) (omega arith))
      ∙ ap (λ (l : List Finding). not_covered xs (entry_at gens_table b.bytes.now (b.places.gens + i * 9)).first (entry_at gens_table b.bytes.now (b.places.gens + i * 9)).rest ++ l)
      (entries_at (omega arith) (omega arith)))

  pub entries_end : (i : ℕ) → b.header.gens ≤ i → entries_left i ≡ []
  entries_end i l = each_none _ _ (entries_none whole_rest gens_table _ _ (omega arith))
