use Rattle.std.proofs.Common.{ap, arith, length, sym, ◌∙◌}
use Rattle.std.specs.Prelude.{is_some, slice_get}
use Rattle.comm_routing.specs.Draft.{drafted}
use Rattle.comm_routing.proofs.Sites.{stands_in, vertex_at}
use Rattle.comm_routing.proofs.progress.may_stand.Goals as goal

pub returns : goal.returns
returns c = λ ds k.
    let n = ap length c.operators.ensures.same in
    let m = ap length c.vertices.ensures.same in
    stands_in (drafted c.args.site.now ds) c.args.board.now k c.args.op c.args.operator c.index-vertices-op.result c.stands_beside.result (omega arith)
    (ap is_some (sym c.ticks.ensures.entry) ∙ c.if-is_none.ensures)
    (ap (λ xs. slice_get xs c.args.op) (sym c.vertices.ensures.same) ∙ vertex_at c.vertices.result.now c.args.op c.index-vertices-op.result (omega arith) c.index-vertices-op.is)
    c.stands_beside.ensures
