use Rattle.std.proofs.Common.{Some, subst, sym}
use Rattle.schedule.specs.Acts.{acts_of}
use Rattle.comm_routing.specs.Draft.{task_of}
use Rattle.pressure_heuristic.specs.Choosing.{IsChoice, Leads}
use Rattle.pressure_heuristic.specs.declared.choice.Choice.{Choice}
use Rattle.pressure_heuristic.proofs.Greedy.{best_more, leads_more}
use Rattle.pressure_heuristic.proofs.choice.greater.Goals as goal

pub returns-clause-leads : goal.returns-clause-leads
returns-clause-leads c =
    let d = c.args.draft.now in
    subst (λ (x : Choice). Leads (task_of d) (acts_of d.decisions) c.args.best c.args.op (Some x)) (sym c.higher.ensures)
    (leads_more (task_of d) (acts_of d.decisions) c.args.best c.args.op c.choice_of.result c.requires.best c.choice_of.ensures.choice c.choice_of.ensures.op)

pub returns-clause-best : goal.returns-clause-best
returns-clause-best c =
    let d = c.args.draft.now in
    subst (λ (x : Choice). IsChoice (task_of d) (acts_of d.decisions) x) (sym c.higher.ensures)
    (best_more (task_of d) (acts_of d.decisions) c.args.best c.choice_of.result c.requires.best c.choice_of.ensures.choice)
