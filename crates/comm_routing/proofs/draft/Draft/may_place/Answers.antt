use Rattle.std.proofs.Common.{ap, ◌∙◌}
use Rattle.schedule.specs.Acts.{acts_of}
use Rattle.comm_routing.specs.Placing.{may_place}
use Rattle.comm_routing.specs.Draft.{Drafted, drafted, task_of}
use Rattle.comm_routing.proofs.Finding.{may_same}
use Rattle.comm_routing.proofs.draft.Draft.may_place.Goals as goal

pub returns : goal.returns
returns c =
    let s = c.self.inside in
    c.may_place_next.ensures ∙ may_same (drafted s.site s.progress.decisions.items) s.progress.board s.reads.items s.progress.candidates c.self.invariant c.args.op c.args.operator
    ∙ ap (λ (x : Drafted). may_place (task_of x) (acts_of x.decisions) c.args.op c.args.operator) c.self.view_is
