-- `findings::put_first` meets its contract: its stores are one finding's bytes, by the law `put_one`.
use Rattle.std.proofs.Common.{ℕ, List, sym, ap, ◌∙◌, arith, length-set, rules}
use lib.Seq.{sets}
use Rattle.findings.specs.Findings.{bytes_of}
use Rattle.findings.proofs.Laws.{put_full, put_one}
use Rattle.findings.proofs.put_first.Statement.{statement}
use Rattle.findings.proofs.put_first.Tie as tie

put_word_requires_2 : tie.Need-put_word-requires-2
put_word_requires_2 c κs =
    let a = c.before.before.before.before.before.before.before.args in
    omega (arith, length-set a.out.now 0 a.kind, c.before.before.before.put_word.auto.out)

same_length : tie.Need-shape_of-out
same_length c =
    c.before.before.put_word-2.auto.out ∙ c.before.before.before.before.before.before.put_word.auto.out ∙ simp length-set

returns_2 : tie.Need-returns
returns_2 c =
    let p = c.before.before.before.before.before.before in
    let a = p.before.before.before.before.args in
    c.before.before.put_word-2.ensures
    ∙ ap (λ (l : List ℕ). sets l 9 (bytes_of 8 a.object)) p.put_word.ensures
    ∙ put_one a.out.now a.kind a.subject a.object (omega arith) (omega arith)

pub put_first_spec : {M : Type 1} → statement M
put_first_spec =
    tie.close
    (tie.spec (λ c. sym (put_full _ _ (omega arith))) (λ c. search rules) (λ c κs. simp length-set (omega arith)) put_word_requires_2 same_length returns_2)
