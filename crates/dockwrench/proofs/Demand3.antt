-- Demand 3 is kept by the main call: on the list by the theorem on all rules; on the call, since at answer 0 the findings in the buffer are that list.
use Prim.Native.Nat.{ℕ, ◌*◌, ◌<◌}
use mathlib.Core.Bool.{Bool, true, false, cond}
use mathlib.Core.List.{List}
use mathlib.Core.Path.{◌≡◌, refl, ap, ◌∙◌}
use native.Mathlib.Omega.{arith}
use lib.ListN.{length}
use lib.Dec.{ltb}
use borrow.Author.Tests.{ltb-false}
use Rattle.findings.specs.Findings.{sink, Found}
use Rattle.book.specs.Book.{Book, book_of}
use Rattle.std.specs.Prelude.{Result, Ok}
use Rattle.book.specs.declared.refusal.Refusal.{Refusal}
use Rattle.book.specs.Refusals.{Outcome, parse}
use Rattle.rules.specs.Rules.{findings_of}
use Rattle.rules.proofs.Demand3.{demand_3}
use Rattle.dockwrench.specs.declared.Checked.{Checked}
use Rattle.dockwrench.specs.declared.Checked.TheVariants as checked
use Rattle.dockwrench.specs.Answers.{Answer, count_in, checked_answer}
use Rattle.dockwrench.specs.Decode.{decode}
use Rattle.dockwrench.specs.Claim.{Claim}
use Rattle.dockwrench.proofs.Decode.{decode_put}

-- an answer other than 0
pub claim_other : {s buffer : List ℕ} {a : Answer} → 0 < a.number → Claim s a buffer
claim_other h = record { list = λ b is F. demand_3 b F; call = λ b is zero. absurd (omega arith) }

-- a book that is not accepted
pub claim_refused : {s buffer : List ℕ} {a : Answer} {m p : ℕ} → parse s ≡ Outcome.refused m p → Claim s a buffer
claim_refused e = record {
  list = λ b is F. demand_3 b F;
  call = λ b is zero. let z : ◌≡◌ {A = ℕ} 0 1 = cc in absurd (omega arith);
}

-- a book that was judged
pub claim_judged : {s o o' c c' : List ℕ} {n : ℕ} {a : Result Checked Refusal} → parse s ≡ Outcome.accepted (book_of s) → Found (sink o c) (findings_of (book_of s)) n (sink o' c')
    → a ≡ Ok (count_in (length o) n) → Claim s (checked_answer a) o'
unfolding count_in checked_answer
claim_judged {s} {o} {o'} {n = n} {a = a} e f is =
    record { list = λ b is F. demand_3 b F; call = λ b p zero. go (ltb (length o) (17 * n)) refl (rw is at zero) ∙ ap findings_of (same b p) }
  where
    same : (b : Book) → parse s ≡ Outcome.accepted b → book_of s ≡ b
    same b p = cc

    go : (t : Bool) → ltb (length o) (17 * n) ≡ t → (checked_answer (Ok (cond t (checked.NoRoom n) (checked.Found n)))).number ≡ 0 → decode (checked_answer a).count o' ≡ findings_of (book_of s)
    go true q zero = absurd (omega arith)
    go false q zero =
        rw (is, q, f.buffer, f.count) (decode_put (findings_of (book_of s)) o (omega (arith, f.count, ltb-false (length o) (17 * n) q)) f.encodable)

-- the same answer, said otherwise
pub claim_as : {s buffer : List ℕ} {a a' : Answer} → a ≡ a' → Claim s a buffer → Claim s a' buffer
claim_as e h = rw e at h
