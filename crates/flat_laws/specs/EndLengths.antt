-- The lengths of the sensors and of the actuators of a flat graph are those of its tree.
use Rattle.std.specs.Prelude.{◌≡◌}
use Rattle.algo_tree.specs.Tree as tree
use Rattle.algo_tree.specs.Ends.{sensor_lengths, actuator_lengths}
use Rattle.flat_graph.specs.declared.vertex.Vertex.{Vertex}
use Rattle.flat_graph.specs.Graph.{Graph}
use Rattle.flat_graph.specs.Laws.{sensor_lens, actuator_lens}

-- The sensors and the actuators of the flat graph have, in order, the lengths of those of the tree.
pub record HasEndLengths (main : tree.Vertex) (g : Graph) : Type 0 where
  pub sensors : sensor_lens g.vertices ≡ sensor_lengths main
  pub actuators : actuator_lens g g.vertices ≡ actuator_lengths main
