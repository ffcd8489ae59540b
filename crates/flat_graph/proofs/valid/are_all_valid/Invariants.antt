use Rattle.std.proofs.Common.{◌≡◌, drop}
use Rattle.flat_graph.specs.Valid.{all_from, is_vertex}
use Rattle.flat_graph.proofs.valid.are_all_valid.Given as goal

-- the operations that are left decide
abbrev pub invariant-loop-v : goal.invariant-loop-v
invariant-loop-v l =
    all_from (is_vertex (record { vertices = l.vertices; bodies = l.bodies })) l.v (drop l.v l.vertices) ≡ all_from (is_vertex (record { vertices = l.vertices; bodies = l.bodies })) 0 l.vertices
