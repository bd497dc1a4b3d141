-- Laws of verdicts, step by step, and of what the steps answer.
use Prim.Native.Nat.{ℕ, zero, suc, ◌+◌, ◌-◌, ◌*◌, ◌<◌}
use mathlib.Core.Path.{◌≡◌, refl, sym, ap}
use mathlib.Core.Bool.{Bool, false, true, true≢false}
use mathlib.Core.List.{List}
use native.Mathlib.Omega.{arith}
use lib.ListN.{length}
use lib.Dec.{ltb}
use Rattle.bits.proofs.Laws.{bits_lt}
use Rattle.book.specs.declared.Table.{Table}
use Rattle.book.specs.Book.{words_table, gens_table, key_head, key_end}
use Rattle.std.specs.Prelude.{Ok, Err}
use Rattle.book.specs.declared.refusal.Refusal.{Refusal}
use Rattle.book.specs.Refusals.{Verdict, refuse, ◌then◌, entry_verdict, table_verdict, key_verdict, keys_verdict}
use Rattle.book.specs.Walk.{Readable}
use Rattle.scan.specs.Steps.{given}

-- after a refusal nothing is checked, and after a check that is passed the next one
pub stops : {a b : Verdict} (c : Verdict) {r : Refusal} → a ≡ b → b ≡ Err r → (a then c) ≡ b
unfolding ◌then◌
stops c e h = rw (e, h)

pub goes_on : {a b : Verdict} (c : Verdict) → a ≡ b → b ≡ Ok tt → (a then c) ≡ c
unfolding ◌then◌
goes_on c e h = rw (e, h)

-- the first of the n entries, and those after it
pub table_step : (t : Table) (s : List ℕ) (start n p : ℕ) → 0 < n →
    table_verdict t s start n p ≡ (entry_verdict t s start p then table_verdict t s start (n - 1) (p + t.size))
unfolding table_verdict
table_step t s start zero p h = absurd (omega arith)
table_step t s start (suc n) p h = let e : suc n - 1 ≡ n = omega arith in rw e

-- the same number of entries
pub table_left : (t : Table) (s : List ℕ) (start p : ℕ) {n m : ℕ} → n ≡ m → table_verdict t s start n p ≡ table_verdict t s start m p
table_left t s start p e = ap (λ (k : ℕ). table_verdict t s start k p) e

-- past the last entry nothing is left to check
pub table_none : (t : Table) (s : List ℕ) (start p : ℕ) {n : ℕ} → n ≡ 0 → table_verdict t s start n p ≡ Ok tt
unfolding table_verdict
table_none t s start p h = rw h

-- past the last key the book ends
pub keys_none : (trees : Bool) (s : List ℕ) (p : ℕ) {n : ℕ} → n ≡ 0 → keys_verdict trees s n p ≡ refuse (ltb p (length s)) 8 p
unfolding keys_verdict
keys_none trees s p h = rw h

-- the first of the n keys, and those after it
pub keys_step : (trees : Bool) (s : List ℕ) (n p : ℕ) → 0 < n →
    keys_verdict trees s n p ≡ (key_verdict trees s p then keys_verdict trees s (n - 1) (key_end s p))
unfolding keys_verdict
keys_step trees s zero p h = absurd (omega arith)
keys_step trees s (suc n) p h = let e : suc n - 1 ≡ n = omega arith in rw e

-- the same number of keys, from the same place
pub keys_left : (trees : Bool) (s : List ℕ) {n m p q : ℕ} → n ≡ m → p ≡ q → keys_verdict trees s n p ≡ keys_verdict trees s m q
keys_left trees s e h = rw (e, h)

-- a value has at most 2,047 bytes
pub key_len : (s : List ℕ) (p : ℕ) → (key_head s p).len < 2048
unfolding key_head
key_len s p = bits_lt s (8 * p + 16) 11

-- the tables without types
untyped : {A : Type 0} → false ≡ true → A
untyped e = absurd (true≢false (sym e))

pub words_readable : Readable words_table
words_readable = record { least = omega arith; most = omega arith; words = refl; inside = omega arith; rest = omega arith; typed = untyped }

pub gens_readable : Readable gens_table
gens_readable = record { least = omega arith; most = omega arith; words = refl; inside = omega arith; rest = omega arith; typed = untyped }

-- what is given says whether the check was passed
pub refused : {A : Type 0} (v : Verdict) (x : A) {r : Refusal} → given v x ≡ Err r → v ≡ Err r
unfolding given
refused (Ok u) x e = let z : ◌≡◌ {A = ℕ} 0 1 = cc in absurd (omega arith)
refused (Err r) x e = cc

pub passed : {A : Type 0} (v : Verdict) (x : A) {y : A} → given v x ≡ Ok y → (v ≡ Ok tt) × (x ≡ y)
unfolding given
passed (Ok u) x e = (refl, cc)
passed (Err r) x e = let z : ◌≡◌ {A = ℕ} 0 1 = cc in absurd (omega arith)
