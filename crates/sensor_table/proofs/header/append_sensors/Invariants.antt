use Rattle.std.proofs.Common.{◌≡◌, ◌++◌, drop}
use Rattle.algo_tree.specs.View.{vertices_view}
use Rattle.sensor_table.specs.Columns.{columns_in}
use Rattle.sensor_table.proofs.header.append_sensors.Given as goal

-- what is there, with the columns of the vertices that are left, is the whole
abbrev pub invariant-loop-vertex : goal.invariant-loop-vertex
invariant-loop-vertex l = l.header.items ++ columns_in (vertices_view (drop l.vertex-index l.vertices)) ≡ l.fn.header.items ++ columns_in (vertices_view l.vertices)
