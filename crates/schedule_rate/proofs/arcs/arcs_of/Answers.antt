use Rattle.std.proofs.Common.{ℕ, ◌^◌, ◌≤◌, List, length, sym, subst}
use Rattle.std.specs.Prelude.{All}
use Rattle.std.proofs.lemmas.Result.{IfOk-weaker}
use Rattle.self_timed.specs.declared.Vertex.{Vertex}
use Rattle.self_timed.specs.declared.Decision.{Decision}
use Rattle.self_timed.specs.declared.layout.Step.{Step}
use Rattle.self_timed.specs.Acts.{acts}
use Rattle.self_timed.specs.FlatValid.{HasFewOutputs}
use Rattle.self_timed.specs.Laid.{IsDecided}
use Rattle.self_timed.specs.Running.{AreSized}
use Rattle.self_timed.proofs.Dated.{next_from, steps_from}
use Rattle.rates.specs.Tables.{IsTableOf}
use Rattle.schedule_rate.specs.Filling.{IsFilled}
use Rattle.schedule_rate.proofs.Rated.{decisions, few_outputs, filled, steps_few, steps_sized}
use Rattle.schedule_rate.proofs.arcs.arcs_of.Goals as goal

pub plan_of-requires-clause-few : goal.plan_of-requires-clause-few
plan_of-requires-clause-few c =
    subst (λ (vs : List Vertex). All HasFewOutputs vs) (sym c.vertices.ensures.same)
    (few_outputs c.args.flat.now c.args.archi.now c.args.schedule.now c.vertices.ensures.valid c.operators-operators.ensures.valid c.depth-depth.ensures.valid c.requires.valid)

pub plan_of-requires-clause-decided : goal.plan_of-requires-clause-decided
plan_of-requires-clause-decided c =
    subst (λ (vs : List Vertex). All (IsDecided vs) c.as_slice.result.now) (sym c.vertices.ensures.same)
    (subst (λ (ds : List Decision). All (IsDecided c.args.flat.now.vertices) ds) (sym c.as_slice.ensures)
    (decisions c.args.flat.now c.args.archi.now c.args.schedule.now c.vertices.ensures.valid c.operators-operators.ensures.valid c.depth-depth.ensures.valid c.requires.valid))

pub table_of-requires-clause-few : goal.table_of-requires-clause-few
table_of-requires-clause-few c =
    let next = next_from c.args.flat.now c.args.schedule.now c.vertices.result.now c.as_slice.result.now c.in_ok-plan.plan.entries c.vertices.ensures.same c.as_slice.ensures c.in_ok-plan.ensures.entries in
    let steps = steps_from c.args.flat.now c.args.schedule.now c.vertices.result.now c.as_slice.result.now c.in_ok-plan.plan.steps.items c.vertices.ensures.same c.as_slice.ensures c.in_ok-plan.ensures.steps in
    subst (λ (sts : List Step). length sts ≤ 2 ^ 22) (sym c.as_slice-2.ensures.value)
    (steps_few c.args.flat.now c.args.archi.now c.args.schedule.now c.vertices.ensures.valid c.operators-operators.ensures.valid c.depth-depth.ensures.valid c.requires.valid c.in_ok-plan.plan next steps)

pub table_of-requires-clause-sized : goal.table_of-requires-clause-sized
table_of-requires-clause-sized c =
    let next = next_from c.args.flat.now c.args.schedule.now c.vertices.result.now c.as_slice.result.now c.in_ok-plan.plan.entries c.vertices.ensures.same c.as_slice.ensures c.in_ok-plan.ensures.entries in
    let steps = steps_from c.args.flat.now c.args.schedule.now c.vertices.result.now c.as_slice.result.now c.in_ok-plan.plan.steps.items c.vertices.ensures.same c.as_slice.ensures c.in_ok-plan.ensures.steps in
    subst (λ (sts : List Step). AreSized c.in_ok-plan.plan.entries sts) (sym c.as_slice-2.ensures.value)
    (steps_sized c.args.flat.now c.args.archi.now c.args.schedule.now c.vertices.ensures.valid c.operators-operators.ensures.valid c.depth-depth.ensures.valid c.requires.valid c.in_ok-plan.plan next steps)

pub returns : goal.returns
returns c =
    let next = next_from c.args.flat.now c.args.schedule.now c.vertices.result.now c.as_slice.result.now c.in_ok-plan.plan.entries c.vertices.ensures.same c.as_slice.ensures c.in_ok-plan.ensures.entries in
    let steps = steps_from c.args.flat.now c.args.schedule.now c.vertices.result.now c.as_slice.result.now c.in_ok-plan.plan.steps.items c.vertices.ensures.same c.as_slice.ensures c.in_ok-plan.ensures.steps in
    IfOk-weaker c.table_of.result (λ t. IsFilled c.depth-depth.result c.in_ok-plan.plan.entries c.as_slice-2.result.now t) (λ t. IsTableOf c.args.archi.now.depth c.args.flat.now.vertices (acts c.args.schedule.now) t)
    (λ t f. filled c.args.flat.now c.args.archi.now c.args.schedule.now c.vertices.ensures.valid c.operators-operators.ensures.valid c.depth-depth.ensures.valid c.requires.valid c.in_ok-plan.plan next steps t
    (subst (λ (sts : List Step). IsFilled c.args.archi.now.depth c.in_ok-plan.plan.entries sts t) c.as_slice-2.ensures.value
    (subst (λ (d : ℕ). IsFilled d c.in_ok-plan.plan.entries c.as_slice-2.result.now t) c.depth-depth.ensures.same f)))
    c.table_of.ensures
