use Rattle.std.proofs.Common.{arith, sym, ◌∙◌}
use Rattle.std.proofs.lemmas.Bool.{leb-true}
use Rattle.schedule.specs.Acts.{acts_of}
use Rattle.comm_routing.specs.Draft.{task_of}
use Rattle.pressure_heuristic.proofs.Greedy.{may_low, urgency_low}
use Rattle.pressure_heuristic.proofs.choice.is_within.Goals as goal

pub pressure-pressure-requires-clause-operation : goal.pressure-pressure-requires-clause-operation
pressure-pressure-requires-clause-operation c =
    let d = c.args.draft.now in
    let may = sym c.may_place.ensures ∙ c.if-may_place.true in
    (may_low (task_of d) (acts_of d.decisions) c.args.op c.args.operator may).0

pub pressure-pressure-requires-clause-operator : goal.pressure-pressure-requires-clause-operator
pressure-pressure-requires-clause-operator c =
    let d = c.args.draft.now in
    let may = sym c.may_place.ensures ∙ c.if-may_place.true in
    (may_low (task_of d) (acts_of d.decisions) c.args.op c.args.operator may).1

pub returns-then-may_place : goal.returns-then-may_place
returns-then-may_place c = λ h.
    let d = c.args.draft.now in
    let may = sym c.may_place.ensures ∙ c.if-may_place.true in
    let l = leb-true c.pressure-pressure.result c.args.bound h in
    let e = c.pressure-pressure.ensures in
    urgency_low (task_of d) (acts_of d.decisions) c.args.op c.args.operator c.args.bound may (omega arith)
