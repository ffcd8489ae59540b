use Rattle.std.proofs.Common.{◌≡◌, Some, refl}
use Rattle.schedule.specs.Acts.{acts_of}
use Rattle.comm_routing.specs.Draft.{task_of}
use Rattle.pressure_heuristic.proofs.Greedy.{leads_by}
use Rattle.pressure_heuristic.proofs.choice.is_led.Goals as goal

pub returns-in-Some : goal.returns-in-Some
returns-in-Some c = λ h.
    let d = c.args.draft.now in
    let same : c.args.best ≡ Some c.in-Some.choice = cc in
    leads_by (task_of d) (acts_of d.decisions) c.args.best c.in-Some.choice c.args.op c.in-Some.choice.pressure same c.requires.best refl (c.is_within.ensures h)
