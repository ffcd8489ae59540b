use Rattle.std.proofs.Common.{◌≡◌, ◌++◌, drop, map}
use Rattle.algo_tree.specs.View.{vertices_view}
use Rattle.act_text.specs.Names.{actuator_names_in}
use Rattle.act_text.proofs.names.actuators_in.Given as goal

-- the names so far, before those of the vertices that are left
abbrev pub invariant-loop-vertex : goal.invariant-loop-vertex
invariant-loop-vertex l = map (λ s. s.now) l.names.items ++ actuator_names_in (vertices_view (drop l.vertex-index l.vertices)) ≡ actuator_names_in (vertices_view l.vertices)
