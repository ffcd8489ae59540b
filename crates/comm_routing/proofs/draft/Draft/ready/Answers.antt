use Rattle.std.proofs.Common.{ap, length, ◌∙◌}
use Rattle.std.specs.List.{filter, range_with_len}
use Rattle.schedule.specs.Acts.{acts_of}
use Rattle.comm_routing.specs.Placing.{is_candidate}
use Rattle.comm_routing.specs.Draft.{Drafted, drafted, task_of}
use Rattle.comm_routing.proofs.Finding.{ready_are}
use Rattle.comm_routing.proofs.draft.Draft.ready.Goals as goal

pub returns : goal.returns
returns c =
    let s = c.self.inside in
    c.as_slice.ensures ∙ ready_are (drafted s.site s.progress.decisions.items) s.progress.board s.reads.items s.progress.candidates c.self.invariant
    ∙ ap (λ (x : Drafted). filter (is_candidate (task_of x) (acts_of x.decisions)) (range_with_len 0 (length x.graph.vertices))) c.self.view_is
