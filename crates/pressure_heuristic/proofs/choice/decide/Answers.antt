use Rattle.schedule.specs.Acts.{acts_of}
use Rattle.comm_routing.specs.Draft.{task_of}
use Rattle.pressure_heuristic.proofs.Greedy.{next_is}
use Rattle.pressure_heuristic.proofs.choice.decide.Goals as goal

pub returns-in-Some : goal.returns-in-Some
returns-in-Some c = next_is (task_of c.args.draft.now) (acts_of c.args.draft.now.decisions) _ c.next_of.result c.in-Some.ensures c.next_of.ensures
