use Rattle.std.proofs.Common.{ℕ, ◌+◌, ◌++◌, ◌∷◌, [], List, drop, ap, sym, ◌∙◌, append_assoc}
use Rattle.algo_tree.specs.View.{vertices_view}
use Rattle.algo_tree.specs.declared.vertex.Vertex.{Vertex}
use Rattle.hierarchy.specs.Numbers.{first_numbers}
use Rattle.hierarchy.proofs.Adding.{rest_from}
use Rattle.hierarchy.proofs.numbers.first_numbers.Goals as goal

pub loop-vertex-preserved : goal.loop-vertex-preserved
loop-vertex-preserved c =
    let us = c.args.vertices.now in
    let i = c.loop-vertex.vertex-index in
    let before = c.loop-vertex.numbers.items in
    let here = c.loop-vertex.next in
    let behind = vertices_view (drop (i + 1) us) in
    ap (λ (ns : List ℕ). ns ++ first_numbers c.in_ok-next.next behind) c.in_ok-push.ensures.items ∙ append_assoc before (here ∷ []) (first_numbers c.in_ok-next.next behind)
    ∙ ap (λ (n : ℕ). before ++ (here ∷ first_numbers n behind)) c.in_ok-next.ensures
    ∙ ap (λ (vs : List Vertex). before ++ first_numbers here (vertices_view vs)) (sym (rest_from us i c.vertex-item.result c.loop-vertex-test.true c.vertex-item.is)) ∙ c.loop-vertex.invariant
