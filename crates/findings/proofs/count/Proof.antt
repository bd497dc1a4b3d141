-- `findings::count` meets its contract: where the counts have no place for the kind, `set` leaves them as they are too.
use Rattle.std.proofs.Common.{ℕ, ◌+◌, ◌%◌, ◌^◌, get_or, set, sym, ap, arith, rules}
use lib.Seq.{set_out}
use Rattle.findings.specs.Findings.{bump}
use Rattle.findings.proofs.count.Statement.{statement}
use Rattle.findings.proofs.count.Tie as tie

returns : tie.Need-returns-then-k-counts
unfolding bump
returns c =
    let a = c.before.before.before.before.args in ap (λ (x : ℕ). set a.counts.now a.kind x) c.wrapping_add_u64.ensures

returns_2 : tie.Need-returns-else-k-counts
unfolding bump
returns_2 c =
    let a = c.before.before.args in
    let l = a.counts.now in
    sym (set_out l a.kind ((get_or l a.kind 0 + a.more) % 2 ^ 64) (omega (arith, c.if-k-counts.false)))

pub count_spec : {M : Type 1} → statement M
count_spec =
    tie.close
    (tie.spec
    (λ c. search rules)
    (λ c. search rules)
    (λ c κs. search rules)
    (λ c. search rules)
    (λ c. search rules)
    (λ c. search rules)
    returns
    returns_2)
