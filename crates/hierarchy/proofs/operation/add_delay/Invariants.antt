use Rattle.std.proofs.Common.{◌≡◌, ◌+◌, ◌*◌, [], drop, length}
use Rattle.algo_tree.specs.Level.{Path}
use Rattle.algo_tree.specs.View.{label_view}
use Rattle.algo_tree.specs.declared.vertex.Vertex.{out-Vertex}
use Rattle.flat_laws.specs.Inlined.{stages}
use Rattle.algo_tree.specs.Texts.{path_text}
use Rattle.hierarchy.specs.Built.{graph_of}
use Rattle.flat_laws.specs.Linked.{AllLinked}
use Rattle.hierarchy.specs.Wires.{led}
use Rattle.hierarchy.proofs.Building.{StagesRest}
use Rattle.hierarchy.proofs.operation.add_delay.Given as goal

abbrev pub invariant-loop-at : goal.invariant-loop-at
invariant-loop-at l = record {
  count : length l.all.vertices.items ≡ length l.initial.all.vertices.items + 2 * l.at;
  linked : AllLinked (stages (led l.level.leds.now l.level.own.now) (length l.all.vertices.items) [] (label_view (out-Vertex l.vertex)) l.at (drop l.at l.groups));
  added : (at : Path) → path_text at ≡ l.path → StagesRest (graph_of l.initial.all) (graph_of l.all) (led l.level.leds.now l.level.own.now) at (label_view (out-Vertex l.vertex)) l.at l.groups;
}
