-- Findings whose numbers are within their widths are read back whole.
use Prim.Native.Nat.{ℕ, zero, suc, ◌+◌, ◌*◌, ◌/◌, ◌%◌, ◌^◌, ◌≤◌}
use mathlib.Core.List.{List, [], ◌∷◌, ◌++◌, append_assoc}
use mathlib.Core.Path.{◌≡◌, refl, sym, ap, ap₂, ◌∙◌}
use native.Mathlib.Nat.{pow-suc, mul_comm, one-le-pow}
use native.Mathlib.Omega.{arith}
use lib.ListN.{length, drop, length-append}
use lib.Arith.{mod-mul}
use lib.Seq.{get_or-append_seam}
use Rattle.bits.specs.Bits.{be_at}
use Rattle.bits.proofs.Laws.{be_split, be_one}
use Rattle.findings.specs.Findings.{Finding, finding, bytes_of, encode, encode_all, put, Encodable}
use Rattle.findings.proofs.Meaning.{put_all}
use Rattle.dockwrench.specs.Decode.{decode}

-- a number in w bytes comes back, but for what its width cuts off
be_back : (w x : ℕ) (xs ys : List ℕ) → be_at (xs ++ (bytes_of w x ++ ys)) (length xs) w ≡ x % 256 ^ w
unfolding be_at bytes_of
be_back zero x xs ys = omega arith
be_back (suc w) x xs ys =
    let d = x / 256 ^ w % 256 in
    let s = xs ++ (d ∷ (bytes_of w x ++ ys)) in
    let one : 1 + w ≡ suc w = omega arith in
    let low : be_at s (length xs + 1) w ≡ x % 256 ^ w =
    ap₂ (λ (l : List ℕ) (i : ℕ). be_at l i w) (sym (append_assoc xs (d ∷ []) (bytes_of w x ++ ys))) (sym (length-append xs (d ∷ []))) ∙ be_back w x (xs ++ (d ∷ [])) ys in
    ap (be_at s (length xs)) (sym one) ∙ be_split s (length xs) 1 w
    ∙ ap₂ (λ (a b : ℕ). a * 256 ^ w + b) (be_one s (length xs) ∙ get_or-append_seam xs d (bytes_of w x ++ ys) 0) low
    ∙ sym (ap (λ (m : ℕ). x % m) (pow-suc 256 w ∙ mul_comm (256 ^ w) 256) ∙ mod-mul x {m = 256} {c = 256 ^ w} (omega arith) (one-le-pow w 256 (omega arith)))

pub decode_all : (fs : List Finding) (rest : List ℕ) → Encodable fs → decode (length fs) (encode_all fs ++ rest) ≡ fs
unfolding decode encode_all encode bytes_of Encodable
decode_all [] rest h = refl
decode_all (f ∷ fs) rest (k, s, o, h) =
    let kind : f.kind / 256 ^ 0 % 256 ≡ f.kind = omega arith in
    let more = encode_all fs ++ rest in
    let subject = be_back 8 f.subject (f.kind / 256 ^ 0 % 256 ∷ []) (bytes_of 8 f.object ++ more) in
    let object = be_back 8 f.object (f.kind / 256 ^ 0 % 256 ∷ bytes_of 8 f.subject) more in
    ap₂ (λ (g : Finding) (gs : List Finding). g ∷ gs) (one kind (subject ∙ omega arith) (object ∙ omega arith)) (decode_all fs rest h)
  where
    one : {a b c : ℕ} → a ≡ f.kind → b ≡ f.subject → c ≡ f.object → finding a b c ≡ f
    one p q r = rw (p, q, r)

-- from a buffer that holds them all
pub decode_put : (fs : List Finding) (o : List ℕ) → 17 * length fs ≤ length o → Encodable fs → decode (length fs) (put o fs) ≡ fs
decode_put fs o h e = rw (put_all fs o h) (decode_all fs (drop (17 * length fs) o) e)
