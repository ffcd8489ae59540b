use Rattle.std.proofs.Common.{◌≡◌, ◌+◌, ◌-◌, ◌^◌, min, List, ap, ◌∙◌, sym, add-zero}
use Rattle.std.proofs.lemmas.List.{at_drop_all}
use Rattle.algo_tree.specs.View.{kind_view, vertices_view}
use Rattle.algo_tree.specs.Counted.{operations, operations_in}
use Rattle.algo_tree.specs.declared.vertex.Vertex.{Vertex, out-Vertex}
use Rattle.algo_tree.proofs.Views.{view_out}
use Rattle.algo_tree.proofs.Capped.{capped}
use Rattle.algo_tree.proofs.count.+count_operations.Goals as goal

pub returns : goal.returns
returns t c =
    let all : min c.loop-vertex.inside (2 ^ 64 - 1) ≡ min (operations_in (vertices_view (out-Vertex c.args.vertex.now).inner.items)) (2 ^ 64 - 1) =
    ap (λ n. min n (2 ^ 64 - 1)) (sym (add-zero c.loop-vertex.inside)
    ∙ sym (at_drop_all (λ (us : List Vertex). c.loop-vertex.inside + operations_in
    (vertices_view us)) c.deref-vertex-items.result.now c.loop-vertex.vertex-index c.loop-vertex-test.false))
    ∙ c.loop-vertex.invariant ∙ ap (λ (us : List Vertex). min (operations_in (vertices_view us)) (2 ^ 64 - 1)) c.deref-vertex-items.ensures.value in
    c.count_by.ensures ∙ capped (kind_view (out-Vertex c.args.vertex.now).kind) c.loop-vertex.inside (operations_in (vertices_view (out-Vertex c.args.vertex.now).inner.items)) (2 ^ 64 - 1) all
    ∙ ap (λ u. min (operations u) (2 ^ 64 - 1)) (sym (view_out c.args.vertex.now))
