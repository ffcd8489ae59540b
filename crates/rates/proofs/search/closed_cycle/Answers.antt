use Rattle.std.proofs.Common.{◌+◌, List, reverse, sym, ap, subst, arith, ◌∙◌}
use Rattle.rates.specs.declared.table.Arc.{Arc}
use Rattle.rates.specs.Search.{Closes}
use Rattle.rates.proofs.Searches.{IsWalk, walk_begins, walk_closes, walk_ends, walk_goes_on, walk_misses}
use Rattle.rates.proofs.search.closed_cycle.Goals as goal

pub loop-step-init : goal.loop-step-init
loop-step-init c =
    subst (λ (w : List Arc). IsWalk c.args.given.now c.args.lacking 0 w c.args.lacking.arc) (sym c.new-way.ensures.items) (walk_begins c.args.given.now c.args.lacking c.requires.rooted)

pub loop-step-preserved : goal.loop-step-preserved
loop-step-preserved c =
    subst (λ (w : List Arc). IsWalk c.args.given.now c.args.lacking (c.loop-step._step + 1) w c.in-Some.next) (sym c.in_ok-push.ensures.items)
    (walk_goes_on c.args.given.now c.args.lacking c.loop-step._step c.loop-step.way.items c.loop-step.arc c.loop-step.invariant
    c.in-Some.next c.if-arc-lacking.false (sym c.given_of.ensures ∙ c.in-Some.is))

pub returns-then-arc-lacking-clause-some : goal.returns-then-arc-lacking-clause-some
returns-then-arc-lacking-clause-some c =
    subst (λ (w : List Arc). Closes c.args.given.now c.args.lacking w) (sym (c.new.ensures ∙ c.reverse.ensures.items ∙ ap (λ (w : List Arc). reverse w) c.in_ok-push.ensures.items))
    (walk_closes c.args.given.now c.args.lacking c.loop-step._step c.loop-step.way.items c.loop-step.arc c.loop-step.invariant c.if-arc-lacking.true)

pub returns-in-None-clause-none : goal.returns-in-None-clause-none
returns-in-None-clause-none c =
    walk_misses c.args.given.now c.args.lacking c.loop-step._step c.loop-step.way.items c.loop-step.arc c.loop-step.invariant c.if-arc-lacking.false (sym c.given_of.ensures ∙ c.in-None.is)

pub returns-clause-none : goal.returns-clause-none
returns-clause-none c =
    let here = c.loop-step in
    absurd (walk_ends c.args.given.now c.args.lacking c.loop-step._step c.loop-step.way.items c.loop-step.arc c.loop-step.invariant (omega arith))
