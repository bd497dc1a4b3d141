-- `findings::emit` meets its contract: the part that it lends is the one of finding number n.
use Rattle.std.proofs.Common.{refl, arith, rules}
use Rattle.findings.specs.Findings.{count_all}
use Rattle.findings.proofs.Laws.{lent, encodable_one}
use Rattle.findings.proofs.emit.Statement.{statement}
use Rattle.findings.proofs.emit.Tie as tie

returns : tie.Need-returns
unfolding count_all
returns c =
    let p = c.before.before.before.before.before.before in
    let b = p.before.before in
    let args = b.before.before.before.args in
    lent args.out.now b.start_of-at.result args.n b.start_of-at.ensures
    (record { count = refl; buffer = p.put_first.ensures; counts = c.before.before.count.ensures; encodable = encodable_one (omega arith) (omega arith) (omega arith) })

pub emit_spec : {M : Type 1} → statement M
emit_spec =
    tie.close
    (tie.spec (λ c κs. search rules) (λ c. search rules) (λ c. search rules) (λ c. search rules) (λ c κs. search rules) (λ c κs. search rules) (λ c. search rules) (λ c. search rules) (λ c. search rules) returns)
