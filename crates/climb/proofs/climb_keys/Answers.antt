-- Key after key.
use Rattle.std.proofs.Common.{◌≡◌, ◌∙◌, refl, sym, ap, arith, ℕ, ◌+◌, ◌≤◌}
use Rattle.std.specs.Prelude.{None, Some, Option}
use Rattle.parents.specs.declared.Root.{Root}
use Rattle.book.specs.declared.open.Key.{Key}
use Rattle.book.specs.declared.open.Keys.{Keys}
use Rattle.book.specs.Book.{key_end}
use Rattle.book.specs.Turns.{held, GivesKey}
use Rattle.walk.specs.Keys.{key_at}
use Rattle.climb.specs.declared.Link.{Link}
use Rattle.climb.specs.Links.{link_of}
use Rattle.climb.proofs.Pass.{climbing_start, climbing_more, climbing_ends, climbing_end}
use Rattle.climb.proofs.climb_keys.Goals as goal

pub loop-key-init : goal.loop-key-init
loop-key-init c = (refl, climbing_start c.args.id c.requires)

pub step_by-step-requires : goal.step_by-step-requires
step_by-step-requires c = omega (arith, c.loop-key.invariant.1.few)

pub returns-in_err-next_least : goal.returns-in_err-next_least
returns-in_err-next_least c = λ x e. let n = c.from_residual.ensures in let z : ◌≡◌ {A = ℕ} 0 1 = cc in absurd (omega arith)

pub returns-in_default-step : goal.returns-in_default-step
returns-in_default-step c = λ x e.
    let s = c.in-Some.ensures.steps in
    let i = c.loop-key.invariant in
    let d = c.settle.ensures x e in
    climbing_ends c.requires i.1 s.0 (rw (s.1, s.2, i.0) at c.link_at-link.ensures) c.least_after.ensures c.in_ok-next_least.was
    (rw i.0 at s.5) c.step_by-step.ensures d.0 (rw (s.3, i.0, s.4) at d.1)

pub loop-key-preserved : goal.loop-key-preserved
loop-key-preserved c =
    let s = c.in-Some.ensures.steps in
    let i = c.loop-key.invariant in (
      s.3 ∙ i.0,
      rw s.4 (climbing_more c.requires i.1 s.0 (rw (s.1, s.2, i.0) at c.link_at-link.ensures) c.least_after.ensures c.in_ok-next_least.was
          (rw i.0 at s.5) c.step_by-step.ensures c.in-On.is),
    )

-- what a pass over all keys says
said : {x : Option Root} → ◌≡◌ {A = Option (Option Root)} (Some None) (Some x) → x ≡ None
said e = let f : Option (Option Root) → Option Root = λ o. elim o [ None ↦ None | Some r ↦ r ] in sym (ap f e)

pub returns : goal.returns
returns c = λ x e. said e ∙ climbing_end c.requires c.loop-key.invariant.1 c.in_default.ensures.steps
