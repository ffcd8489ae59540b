use Rattle.std.proofs.Common.{List, ℕ, ap, subst, sym, ◌∙◌}
use Rattle.schedule.specs.FlatOrder.{is_acyclic}
use Rattle.schedule.proofs.Settled.{acyclic_of}
use Rattle.comm_routing.proofs.Sites.{site_of}
use Rattle.pressure_heuristic.specs.Choosing.{IsGuide}
use Rattle.pressure_heuristic.proofs.Running.{guide_of, run_of_any, valid_run}
use Rattle.pressure_heuristic.proofs.Tight.{tight_run}
use Rattle.pressure_heuristic.proofs.steps.adequation.Goals as goal

pub run-requires-clause-guide : goal.run-requires-clause-guide
run-requires-clause-guide c =
    subst (λ (l : List ℕ). IsGuide c.in_ok-draft.draft c.args.durations.now l) (sym c.deref.ensures.value)
    (guide_of c.args.flat.now c.args.archi.now c.in_ok-routes.routes c.args.durations.now c.in_ok-draft.draft c.in_ok-draft.ensures
    c.requires.operations c.requires.operators c.operations-operations.ensures.valid
    c.vertices-vertices.result.now c.vertices-vertices.ensures.same c.in_ok-tails.tails.items c.in_ok-tails.ensures.size c.in_ok-tails.ensures.low c.in_ok-tails.ensures.tails)

pub returns-clause-valid : goal.returns-clause-valid
returns-clause-valid c =
    valid_run c.args.flat.now c.args.archi.now c.in_ok-routes.routes c.args.durations.now c.in_ok-draft.draft c.in_ok-draft.ensures
    (site_of c.args.flat.now c.args.archi.now c.in_ok-routes.routes c.args.durations.now c.vertices-vertices.ensures.valid
    c.operators-operators.ensures.valid c.in_ok-routes.ensures c.requires c.operations-operations.ensures.valid c.operations-operations.ensures.beside)
    c.run.result c.run.ensures

pub returns-clause-tight : goal.returns-clause-tight
returns-clause-tight c =
    tight_run c.args.flat.now c.args.archi.now c.in_ok-routes.routes c.args.durations.now c.in_ok-draft.draft c.in_ok-draft.ensures
    (site_of c.args.flat.now c.args.archi.now c.in_ok-routes.routes c.args.durations.now c.vertices-vertices.ensures.valid
    c.operators-operators.ensures.valid c.in_ok-routes.ensures c.requires c.operations-operations.ensures.valid c.operations-operations.ensures.beside)
    c.run.result c.run.ensures

pub returns-clause-any : goal.returns-clause-any
returns-clause-any c =
    run_of_any c.args.flat.now c.args.archi.now c.in_ok-routes.routes c.args.durations.now c.in_ok-draft.draft c.in_ok-draft.ensures c.in_ok-routes.ensures c.run.result c.run.ensures

pub all_tails-requires-clause-acyclic : goal.all_tails-requires-clause-acyclic
all_tails-requires-clause-acyclic c = ap is_acyclic c.vertices-vertices.ensures.same ∙ acyclic_of c.args.flat.now c.vertices-vertices.ensures.valid
