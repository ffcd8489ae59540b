use Rattle.std.proofs.Common.{◌≡◌, true, ap, arith, sym, length, ◌∙◌}
use Rattle.std.specs.Prelude.{slice_get}
use Rattle.schedule.specs.Acts.{acts_of}
use Rattle.comm_routing.specs.Placing.{arrival, may_place, start}
use Rattle.comm_routing.specs.Draft.{Drafted, drafted, task_of}
use Rattle.comm_routing.proofs.Finding.{chosen, start_fits, start_same}
use Rattle.comm_routing.proofs.Sites.{vertex_at}
use Rattle.comm_routing.proofs.draft.Draft.try_place.Goals as goal

pub returns : goal.returns
returns c =
    let s = c.self.inside in
    let d : Drafted = drafted s.site s.progress.decisions.items in
    let may : may_place (task_of d) (acts_of d.decisions) c.args.op c.args.operator
    ≡ true = ap (λ (x : Drafted). may_place (task_of x) (acts_of x.decisions) c.args.op c.args.operator) c.self.view_is ∙ c.requires in
    let found : c.arrival-arrival.result ≡ arrival (task_of d) (acts_of d.decisions) c.args.op c.args.operator = c.arrival-arrival.ensures
    ∙ sym (ap (λ (x : Drafted). arrival (task_of x) (acts_of x.decisions) c.args.op c.args.operator) c.self.view_is) in
    let l = (chosen d s.progress.board s.reads.items s.progress.candidates c.self.invariant c.args.op c.args.operator may).there in
    let n = ap length c.vertices.ensures.same in
    let is = ap (λ xs. slice_get xs c.args.op) (sym c.vertices.ensures.same) ∙ vertex_at c.vertices.result.now c.args.op c.index-vertices-op.result (omega arith) c.index-vertices-op.is in
    let begun = c.start.ensures ∙ sym
    (start_same d s.progress.board s.reads.items s.progress.candidates c.self.invariant c.args.op c.args.operator
    c.index-vertices-op.result c.arrival-arrival.result may is found) in
    let fits = start_fits d s.progress.board s.reads.items s.progress.candidates c.self.invariant c.args.op c.args.operator may in
    record { start = begun ∙ ap (λ (x : Drafted). start (task_of x) (acts_of x.decisions) c.args.op c.args.operator) c.self.view_is; low = omega arith }
