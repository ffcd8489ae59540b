use Rattle.std.proofs.Common.{◌≡◌, ◌++◌, [], drop}
use Rattle.algo_tree.specs.View.{vertices_view}
use Rattle.algo_tree.specs.Typed.{outs_of, source_length}
use Rattle.algo_tree.specs.Ends.{actuator_lengths_in}
use Rattle.algo_tree.proofs.tree.actuator_lens_in.Given as goal

abbrev pub invariant-loop-vertex : goal.invariant-loop-vertex
invariant-loop-vertex l =
    l.lens.items ++ actuator_lengths_in (source_length [] (outs_of (vertices_view l.vertices))) (vertices_view (drop l.vertex-index l.vertices))
    ≡ actuator_lengths_in (source_length [] (outs_of (vertices_view l.vertices))) (vertices_view l.vertices)
