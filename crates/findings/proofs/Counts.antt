-- The counts by kind: what they are after findings, one after the other and all at once; nothing wraps where they start at 0.
use Rattle.std.proofs.Common.{◌≡◌, ℕ, zero, suc, ◌+◌, ◌%◌, ◌^◌, ◌<◌, ◌≤◌, Bool, true, false, cond, eqb, List, [], ◌∷◌, ◌++◌, length, get_or, sym, refl, ap, ◌∙◌, arith, length-set, get_or-set_other, get_or-set_same, eqb-true}
use borrow.Author.Tests.{eqb-false}
use Rattle.findings.specs.Findings.{Finding, bump, count_all, count_of, Counted}

-- ---- a kind's count, raised

bump_length : (c : List ℕ) (k n : ℕ) → length (bump c k n) ≡ length c
unfolding bump
bump_length c k n = length-set c k ((get_or c k 0 + n) % 2 ^ 64)

bump_same : (c : List ℕ) (k n : ℕ) → k < length c → get_or (bump c k n) k 0 ≡ (get_or c k 0 + n) % 2 ^ 64
unfolding bump
bump_same c k n h = get_or-set_same c k ((get_or c k 0 + n) % 2 ^ 64) 0 h

bump_other : (c : List ℕ) (j k n : ℕ) → (k ≡ j → ⊥) → get_or (bump c j n) k 0 ≡ get_or c k 0
unfolding bump
bump_other c j k n d = get_or-set_other c j k ((get_or c j 0 + n) % 2 ^ 64) 0 d

-- n of a kind, one after the other
unfoldable pub bumps : List ℕ → ℕ → ℕ → List ℕ
bumps c k zero = c
bumps c k (suc n) = bump (bumps c k n) k 1

bump_more : (c : List ℕ) (k n : ℕ) → bump (bump c k n) k 1 ≡ bump c k (suc n)
unfolding bump
bump_more [] k n = refl
bump_more (x ∷ c) zero n = ap (λ (y : ℕ). y ∷ c) (omega arith)
bump_more (x ∷ c) (suc k) n = ap (λ (l : List ℕ). x ∷ l) (bump_more c k n)

-- the same at once
pub bumps_once : (c : List ℕ) (k n : ℕ) → 0 < n → bumps c k n ≡ bump c k n
unfolding bumps
bumps_once c k zero h = absurd (omega arith)
bumps_once c k (suc zero) h = refl
bumps_once c k (suc (suc n)) h = ap (λ (l : List ℕ). bump l k 1) (bumps_once c k (suc n) (omega arith)) ∙ bump_more c k (suc n)

-- ---- the counts after findings

pub count_all_append : (fs gs : List Finding) (c : List ℕ) → count_all (count_all c fs) gs ≡ count_all c (fs ++ gs)
unfolding count_all
count_all_append [] gs c = refl
count_all_append (f ∷ fs) gs c = count_all_append fs gs (bump c f.kind 1)

pub length_count_all : (fs : List Finding) (c : List ℕ) → length (count_all c fs) ≡ length c
unfolding count_all
length_count_all [] c = refl
length_count_all (f ∷ fs) c = length_count_all fs (bump c f.kind 1) ∙ bump_length c f.kind 1

-- one kind's count after findings
count_all_at : (fs : List Finding) (c : List ℕ) (k : ℕ) → k < length c → get_or c k 0 < 2 ^ 64 → get_or (count_all c fs) k 0 ≡ (get_or c k 0 + count_of k fs) % 2 ^ 64
unfolding count_all count_of
count_all_at [] c k h l = omega arith
count_all_at (f ∷ fs) c k h l =
    go (eqb k f.kind) refl (λ l. count_all_at fs (bump c f.kind 1) k (omega (arith, bump_length c f.kind 1)) l)
  where
    c' : List ℕ
    c' = bump c f.kind 1

    go : (b : Bool) → eqb k f.kind ≡ b → (get_or c' k 0 < 2 ^ 64 → get_or (count_all c' fs) k 0 ≡ (get_or c' k 0 + count_of k fs) % 2 ^ 64)
        → get_or (count_all c' fs) k 0 ≡ (get_or c k 0 + cond b (suc (count_of k fs)) (count_of k fs)) % 2 ^ 64
    go true e rest =
        let at : get_or c' k 0 ≡ (get_or c k 0 + 1) % 2 ^ 64 = ap (λ (j : ℕ). get_or (bump c j 1) k 0) (sym (eqb-true k f.kind e)) ∙ bump_same c k 1 h in
        rest (omega arith) ∙ omega arith
    go false e rest =
        let at : get_or c' k 0 ≡ get_or c k 0 = bump_other c f.kind k 1 (eqb-false k f.kind e) in
        rest (omega arith) ∙ omega arith

one_more_lem : (b : Bool) (n m : ℕ) → n ≤ m → cond b (suc n) n ≤ suc m
one_more_lem true n m h = omega arith
one_more_lem false n m h = omega arith

count_few : (k : ℕ) (fs : List Finding) → count_of k fs ≤ length fs
unfolding count_of
count_few k [] = omega arith
count_few k (f ∷ fs) = one_more_lem (eqb k f.kind) (count_of k fs) (length fs) (count_few k fs)

-- from 0 nothing wraps, where the findings are fewer than 2^64
pub counted : (fs : List Finding) (c : List ℕ) → length fs < 2 ^ 64 → Counted c fs (count_all c fs)
counted fs c few k h z = count_all_at fs c k h (omega arith) ∙ omega (arith, count_few k fs)
