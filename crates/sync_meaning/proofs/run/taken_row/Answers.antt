use Rattle.std.proofs.Common.{◌++◌, List}
use Rattle.algo_tree.specs.Level.{all_joined}
use Rattle.flat_graph.specs.declared.vertex.Vertex.{Vertex}
use Rattle.flat_graph.specs.Meaning.{taken, taken_by}
use Rattle.sync_meaning.specs.Store.{value_at}
use Rattle.sync_meaning.proofs.Pushing.{appended, all_joined-append}
use Rattle.sync_meaning.proofs.run.taken_row.Goals as goal

pub loop-vertex-preserved : goal.loop-vertex-preserved
loop-vertex-preserved c =
    let look = value_at c.args.table.now in
    let xs = c.args.vertices.now in
    appended (λ (x : Vertex). all_joined (taken_by look x x.kind)) (λ (ys : List Vertex). all_joined (taken look ys)) (λ x ys. all_joined-append (taken_by look x x.kind) (taken look ys))
    xs c.loop-vertex.vertex-index c.vertex-item.result c.loop-vertex.row.items c.append_taken.new.row.items
    (all_joined (taken look xs)) c.loop-vertex-test.true c.vertex-item.is c.in_ok-append_taken.ensures c.loop-vertex.invariant
