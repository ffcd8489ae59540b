use Rattle.std.proofs.Common.{◌+◌, List, ap, drop, subst, sym, ◌∙◌, ℕ}
use Rattle.std.proofs.lemmas.List.{drop_all, drop_more}
use Rattle.schedule.specs.Acts.{acts_of}
use Rattle.comm_routing.specs.Draft.{task_of}
use Rattle.comm_routing.specs.Placing.{is_candidate}
use Rattle.pressure_heuristic.specs.Choice.{first_greatest}
use Rattle.pressure_heuristic.specs.Pressure.{operations, urgency}
use Rattle.pressure_heuristic.specs.Choosing.{IsGreatestChoice, with_best}
use Rattle.pressure_heuristic.proofs.Greedy.{leads_last, passes_at}
use Rattle.pressure_heuristic.proofs.choice.choose.Goals as goal

pub greater-best-requires-clause-candidate : goal.greater-best-requires-clause-candidate
greater-best-requires-clause-candidate c =
    let d = c.args.draft.now in
    passes_at (is_candidate (task_of d) (acts_of d.decisions)) (operations (task_of d)) c.ready-ready.result.now c.loop-op.op-index 0 c.ready-ready.ensures c.loop-op-test.true

pub loop-op-preserved : goal.loop-op-preserved
loop-op-preserved c =
    let d = c.args.draft.now in
    record {
      best = c.greater-best.ensures.best;
      leads = c.greater-best.ensures.leads (drop (c.loop-op.op-index + 1) c.ready-ready.result.now)
          ∙ ap (λ (l : List ℕ). first_greatest (urgency (task_of d) (acts_of d.decisions)) (with_best c.loop-op.best l))
          (sym (drop_more c.ready-ready.result.now c.loop-op.op-index 0 c.loop-op-test.true))
          ∙ c.loop-op.invariant.leads;
    }

pub returns : goal.returns
returns c =
    let d = c.args.draft.now in
    subst (λ (vs : List ℕ). IsGreatestChoice (task_of d) (acts_of d.decisions) vs c.loop-op.best) c.ready-ready.ensures
    (leads_last (task_of d) (acts_of d.decisions) c.ready-ready.result.now c.loop-op.best c.loop-op.invariant.best
    (ap (λ (l : List ℕ). first_greatest (urgency (task_of d) (acts_of d.decisions)) (with_best c.loop-op.best l))
    (sym (drop_all c.loop-op.op-index c.ready-ready.result.now c.loop-op-test.false)) ∙ c.loop-op.invariant.leads))
