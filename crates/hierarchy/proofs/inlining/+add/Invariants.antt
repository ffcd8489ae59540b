use Rattle.std.proofs.Common.{◌≡◌, ◌+◌, drop, length}
use Rattle.algo_tree.specs.Level.{Path}
use Rattle.algo_tree.specs.Counted.{operations_in as count_all}
use Rattle.algo_tree.specs.View.{vertices_view}
use Rattle.flat_laws.specs.Inlined.{inlined_all}
use Rattle.hierarchy.specs.Built.{graph_of}
use Rattle.flat_laws.specs.Linked.{AllLinked}
use Rattle.hierarchy.specs.Texts.{Prefixes}
use Rattle.hierarchy.specs.Wires.{led}
use Rattle.hierarchy.proofs.Building.{AddsRest}
use Rattle.hierarchy.proofs.inlining.+add.Given as goal

abbrev pub invariant-add_vertices-loop-vertex : goal.invariant-add_vertices-loop-vertex
invariant-add_vertices-loop-vertex l = record {
  count : length l.all.vertices.items + count_all (vertices_view (drop l.vertex-index l.vertex-items)) ≡ length l.fn.all.vertices.items + count_all (vertices_view l.vertex-items);
  linked : (at : Path → Path) → AllLinked (inlined_all (led l.level.leds.now l.level.own.now) (length l.all.vertices.items) at (vertices_view (drop l.vertex-index l.vertex-items)));
  added : (at : Path → Path) → Prefixes l.path at
      → AddsRest (graph_of l.fn.all) (graph_of l.all) (led l.level.leds.now l.level.own.now) at (vertices_view (drop l.vertex-index l.vertex-items)) (vertices_view l.vertex-items);
}
