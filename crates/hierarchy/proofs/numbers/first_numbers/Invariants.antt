use Rattle.std.proofs.Common.{◌≡◌, ◌++◌, drop}
use Rattle.algo_tree.specs.View.{vertices_view}
use Rattle.hierarchy.specs.Numbers.{first_numbers as numbers_of}
use Rattle.hierarchy.proofs.numbers.first_numbers.Given as goal

abbrev pub invariant-loop-vertex : goal.invariant-loop-vertex
invariant-loop-vertex l = l.numbers.items ++ numbers_of l.next (vertices_view (drop l.vertex-index l.vertices)) ≡ numbers_of l.first (vertices_view l.vertices)
