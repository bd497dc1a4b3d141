-- What `put` leaves in a buffer, said without its recursion: the two cases of the answer.
use Rattle.std.proofs.Common.{◌≡◌, ℕ, suc, ◌+◌, ◌*◌, ◌/◌, ◌≤◌, List, [], ◌∷◌, ◌++◌, length, take, drop, sym, refl, ap, ◌∙◌, append_assoc, arith, length-drop, drop-drop}
use lib.Seq.{take-nil}
use Rattle.findings.specs.Findings.{Finding, encode, encode_all, put}
use Rattle.findings.proofs.Laws.{put_fits, put_full, split}

-- all fit: they stand first in the buffer, and the later bytes are as they were
pub put_all : (fs : List Finding) (o : List ℕ) → 17 * length fs ≤ length o → put o fs ≡ encode_all fs ++ drop (17 * length fs) o
unfolding put encode_all
put_all [] o h = refl
put_all (f ∷ fs) o h =
    let e : 17 + 17 * length fs ≡ 17 * suc (length fs) = omega arith in
    put_fits o f fs (omega arith)
    ∙ ap (λ (l : List ℕ). encode f ++ l) (put_all fs (drop 17 o) (omega (arith, length-drop 17 o)) ∙ ap (λ (l : List ℕ). encode_all fs ++ l) (drop-drop (17 * length fs) 17 o ∙ ap (λ (k : ℕ). drop k o) e))
    ∙ sym (append_assoc (encode f) (encode_all fs) (drop (17 * suc (length fs)) o))

-- of any list, the first ones that fit whole are put, and no others
pub put_some : (fs : List Finding) (o : List ℕ) → put o fs ≡ put o (take (length o / 17) fs)
unfolding put
put_some [] o = ap (put o) (sym (take-nil (length o / 17)))
put_some (f ∷ fs) o =
    split 17 (length o)
    (λ h.
    let e : length o / 17 ≡ suc (length (drop 17 o) / 17) = omega (arith, length-drop 17 o) in
    put_fits o f fs h ∙ ap (λ (l : List ℕ). encode f ++ l) (put_some fs (drop 17 o))
    ∙ sym (ap (λ (k : ℕ). put o (take k (f ∷ fs))) e ∙ put_fits o f (take (length (drop 17 o) / 17) fs) h))
    (λ h. put_full o (f ∷ fs) h ∙ sym (put_full o (take (length o / 17) (f ∷ fs)) h))
