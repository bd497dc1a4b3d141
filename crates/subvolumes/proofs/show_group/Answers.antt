-- Pair after pair.
use Rattle.std.proofs.Common.{rules, ◌∙◌, sym, refl, arith}
use Rattle.subvolumes.proofs.Groups.{shown_none, shown_more, shown_end, shown_rest, shown_all, bound_from, before_end}
use Rattle.book.proofs.Walk.{few_keys}
use Rattle.subvolumes.proofs.Members.{grouped}
use Rattle.subvolumes.proofs.show_group.Goals as goal

pub loop-i-init : goal.loop-i-init
loop-i-init c = record { shown = shown_none c.args.states.now.pairs.wide c.requires.group.0; same_buffer = refl; same_counts = refl }

-- a pair of another group ends it
pub returns-then-first-group-clause-reports : goal.returns-then-first-group-clause-reports
returns-then-first-group-clause-reports c =
    let p = c.args.states.now.pairs in
    let i = c.loop-i.invariant in
    let d = shown_end p.wide i.shown p.sorted c.loop-i-test.true (λ e. c.if-first-group.true (c.first.ensures ∙ e)) in
    record { same_buffer = i.same_buffer; same_counts = i.same_counts; added = d.added }

pub returns-then-first-group-clause-ends : goal.returns-then-first-group-clause-ends
returns-then-first-group-clause-ends c =
    let p = c.args.states.now.pairs in
    (shown_end p.wide c.loop-i.invariant.shown p.sorted c.loop-i-test.true (λ e. c.if-first-group.true (c.first.ensures ∙ e))).ends

pub returns-then-first-group-clause-few : goal.returns-then-first-group-clause-few
returns-then-first-group-clause-few c = let t = c.loop-i.invariant.shown in omega (arith, t.number, t.inside)

-- where no finding fits any more
pub overflow_sub-more : goal.overflow_sub-more
overflow_sub-more c =
    let p = c.args.states.now.pairs in
    omega (arith, before_end _ _ _ (bound_from _ _ _ p.wide p.sorted c.lower_bound-end.ensures) c.loop-i-test.true (sym c.first.ensures ∙ c.if-first-group.false))

pub overflow_add-report : goal.overflow_add-report
overflow_add-report c =
    let p = c.args.states.now.pairs in
    let t = c.loop-i.invariant.shown in
    omega (arith, (bound_from _ _ _ p.wide p.sorted c.lower_bound-end.ensures).inside, t.number, t.inside, c.args.states.now.few, few_keys c.args.states.now.book.opened, c.requires.found)

pub returns-then-report-clause-reports : goal.returns-then-report-clause-reports
returns-then-report-clause-reports c =
    let p = c.args.states.now.pairs in
    let i = c.loop-i.invariant in
    let end = bound_from _ _ _ p.wide p.sorted c.lower_bound-end.ensures in
    let d = shown_rest p.wide c.requires.kind c.ranges.id.fits i.shown c.loop-i-test.true (sym c.first.ensures ∙ c.if-first-group.false)
    c.if-report.true end (search rules) in
    record { same_buffer = i.same_buffer; same_counts = i.same_counts; added = d.added }

pub returns-then-report-clause-ends : goal.returns-then-report-clause-ends
returns-then-report-clause-ends c = let p = c.args.states.now.pairs in bound_from _ _ _ p.wide p.sorted c.lower_bound-end.ensures

pub returns-then-report-clause-few : goal.returns-then-report-clause-few
returns-then-report-clause-few c =
    let p = c.args.states.now.pairs in
    let t = c.loop-i.invariant.shown in
    omega (arith, (bound_from _ _ _ p.wide p.sorted c.lower_bound-end.ensures).inside, t.number, t.inside)

pub offset_at-offset-requires : goal.offset_at-offset-requires
offset_at-offset-requires c =
    let g = grouped c.args.states.now in
    (g.small, omega (arith, g.heads c.loop-i.i c.loop-i-test.true, c.second.ensures))

pub loop-i-preserved : goal.loop-i-preserved
loop-i-preserved c =
    let p = c.args.states.now.pairs in
    let i = c.loop-i.invariant in
    let r = c.emit.ensures.reports in
    record {
      shown = shown_more p.wide i.shown c.loop-i-test.true (sym c.first.ensures ∙ c.if-first-group.false) (rw c.second.ensures at c.offset_at-offset.ensures) r.added;
      same_buffer = r.same_buffer ∙ i.same_buffer;
      same_counts = r.same_counts ∙ i.same_counts;
    }

pub returns-clause-reports : goal.returns-clause-reports
returns-clause-reports c =
    let i = c.loop-i.invariant in
    let d = shown_all c.args.states.now.pairs.wide i.shown (omega (arith, c.loop-i-test.false)) in
    record { same_buffer = i.same_buffer; same_counts = i.same_counts; added = d.added }
