use Rattle.std.proofs.Common.{◌≡◌, ◌++◌, drop}
use Rattle.algo_tree.specs.View.{vertices_view}
use Rattle.algo_tree.specs.Ends.{sensor_lengths_in}
use Rattle.algo_tree.proofs.tree.sensor_lens_in.Given as goal

abbrev pub invariant-loop-vertex : goal.invariant-loop-vertex
invariant-loop-vertex l = l.lens.items ++ sensor_lengths_in (vertices_view (drop l.vertex-index l.vertices)) ≡ sensor_lengths_in (vertices_view l.vertices)
