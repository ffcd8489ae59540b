use Rattle.std.proofs.Common.{◌≡◌, take, drop, []}
use Rattle.algo_rules.specs.Graphs.{edge_faults}
use Rattle.algo_rules.specs.Links.{first_of}
use Rattle.body_check.specs.Marks.{AreMarked}
use Rattle.body_check.specs.Parts.{of, own}
use Rattle.body_check.proofs.parts.GraphParts.check_edges.Given as goal

abbrev pub invariant-loop-edge : goal.invariant-loop-edge
invariant-loop-edge l = record {
  rest : first_of (edge_faults (of l.self) (own l.self) l.self.references.now (take l.edge-index l.self.edges.now) (drop l.edge-index l.self.edges.now))
      ≡ first_of (edge_faults (of l.self) (own l.self) l.self.references.now [] l.self.edges.now);
  marked : AreMarked l.self l.marks (take l.edge-index l.self.edges.now);
}
