-- A rule's loop over the keys of a book: its invariant, and the laws by which it begins, turns and ends.
use Rattle.std.proofs.Common.{◌≡◌, ℕ, ◌+◌, ◌-◌, ◌<◌, List, [], ◌++◌, refl, sym, ap, ◌∙◌, append_assoc, append-nil, arith}
use Rattle.std.specs.Prelude.{Some}
use Rattle.findings.specs.declared.report.Report.{Report}
use Rattle.findings.specs.Findings.{Finding, each}
use Rattle.findings.specs.Reports.{Reports}
use Rattle.findings.proofs.Reports.{reports_more, reports_as, reports_nil}
use Rattle.findings.proofs.Walk.{each_next, each_none}
use Rattle.book.specs.declared.open.Book.{Book}
use Rattle.book.specs.declared.open.Key.{Key}
use Rattle.book.specs.declared.open.Keys.{Keys}
use Rattle.book.specs.Book.{Bkey, keys_from, key_end, book_of}
use Rattle.book.specs.Turns.{held, GivesKey}
use Rattle.book.proofs.Walk.{step, no_keys, parts}

-- what the keys give that are left
abbrev pub left_of : (Bkey → List Finding) → Keys → List Finding
left_of of it = each (λ _ k. of k) 0 (keys_from it.book.now it.left it.at)

-- of the findings `all` those before the keys that are left are reported
pub record Visited (of : Bkey → List Finding) (all : List Finding) (it : Keys) (r₀ r : Report) : Type 0 where
  pub passed : List Finding
  pub reports : Reports r₀ passed r
  pub whole : all ≡ passed ++ left_of of it

-- before the first key
pub visit_first : (of : Bkey → List Finding) {all : List Finding} {it : Keys} {r : Report} → all ≡ left_of of it → Visited of all it r r
visit_first of e = record { passed = []; reports = reports_nil refl; whole = e }

pub begin_keys : (of : Bkey → List Finding) (b : Book) (it : Keys) → it.book.now ≡ b.bytes.now → (it.at ≡ b.places.keys) × (it.left ≡ b.header.keys)
    → each (λ _ k. of k) 0 (book_of b.bytes.now).keys ≡ left_of of it
begin_keys of b it e f = rw (e, f.0, f.1, (parts b.opened).keys)

-- one key on
pub key_left : (of : Bkey → List Finding) (it it' : Keys) (k : Key) → GivesKey it (Some k) it' → left_of of it ≡ of (held k) ++ left_of of it'
key_left of it it' k g =
    rw (g.1, g.2, g.3, g.4, g.5) (each_next (λ _ k. of k) (λ i k. refl) (step it.book.now it.left it.at g.0 it.fit).keys)

pub visit_more : {of : Bkey → List Finding} {all fs : List Finding} {it it' : Keys} {r₀ r s : Report} → Visited of all it r₀ r
    → left_of of it ≡ fs ++ left_of of it' → Reports r fs s → Visited of all it' r₀ s
visit_more {of} {fs = fs} {it' = it'} v e a =
    record {
      passed = v.passed ++ fs;
      reports = reports_more v.reports a;
      whole = v.whole ∙ ap (λ (l : List Finding). v.passed ++ l) e ∙ sym (append_assoc v.passed fs (left_of of it'));
    }

-- the turn at a key that `next` gave
pub visit_key : (of : Bkey → List Finding) (it it' : Keys) (k : Key) {all : List Finding} {r₀ r s : Report} → GivesKey it (Some k) it'
    → Visited of all it r₀ r → Reports r (of (held k)) s → Visited of all it' r₀ s
visit_key of it it' k g v a = visit_more v (key_left of it it' k g) a

-- past the last
pub visit_last : {of : Bkey → List Finding} {all : List Finding} {it : Keys} {r₀ r : Report} → Visited of all it r₀ r → it.left ≡ 0 → Reports r₀ all r
visit_last {of} {it = it} v e =
    reports_as (sym (v.whole ∙ ap (λ (l : List Finding). v.passed ++ l) (each_none (λ _ k. of k) 0 (no_keys it.book.now it.at {n = it.left} e)) ∙ append-nil v.passed)) v.reports
