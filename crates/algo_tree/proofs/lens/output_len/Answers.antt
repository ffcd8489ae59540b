use Rattle.std.proofs.Common.{get_or, ap, ◌∙◌, sym}
use Rattle.algo_tree.specs.declared.vertex.Vertex.{Vertex, out-Vertex}
use Rattle.algo_tree.proofs.Views.{outs_at, outs_past}
use Rattle.algo_tree.proofs.lens.output_len.Goals as goal

pub returns-then-vertex-vertices : goal.returns-then-vertex-vertices
returns-then-vertex-vertices c =
    c.len_at.ensures ∙ ap (λ ns. get_or ns c.args.port 0)
    (c.as_slice.ensures ∙ ap (λ (u : Vertex). (out-Vertex u).outs) (sym c.index-vertices-vertex.is)
    ∙ sym (outs_at c.args.vertices.now c.args.vertex c.index-vertices-vertex.result c.if-vertex-vertices.true c.index-vertices-vertex.is))

pub returns-else-vertex-vertices : goal.returns-else-vertex-vertices
returns-else-vertex-vertices c = ap (λ ns. get_or ns c.args.port 0) (sym (outs_past c.args.vertices.now c.args.vertex c.if-vertex-vertices.false))
