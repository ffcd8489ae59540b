-- A graph with the definitions that its references name.
use Rattle.std.specs.Prelude.{List, map, Option}
use Rattle.syn_base.specs.Bytes.{Bytes}
use Rattle.algo_rules.specs.declared.Port.{Port}
use Rattle.algo_rules.specs.declared.ports.Ports.{Ports}
use Rattle.algo_rules.specs.Ports.{ports_of}
use Rattle.algo_rules.specs.Graphs as graphs
use Rattle.algo_rules.specs.Placed.{ArePlaced}
use Rattle.body_check.specs.declared.parts.GraphParts.{GraphParts}

-- The ports of the definition of this name.
abbrev pub of : GraphParts → Bytes → Ports
of g = ports_of g.defs.now

-- The ports of the graph itself.
abbrev pub own : GraphParts → Ports
own g = record { ins = g.ins.now; outs = g.outs.now }

-- The ports of a reference.
abbrev pub named : GraphParts → Bytes → Ports
named g w = graphs.ports_at (of g) g.references.now w

-- The ports from which edges may lead: the inputs of the graph, or the outputs of this reference.
abbrev pub givers : GraphParts → Option Bytes → List Port
givers g owner = graphs.givers (of g) (own g) g.references.now owner

-- The ports into which edges may lead: the outputs of the graph, or the inputs of this reference.
abbrev pub takers : GraphParts → Option Bytes → List Port
takers g owner = graphs.takers (of g) (own g) g.references.now owner

-- The definitions of the references stand at their places.
abbrev pub IsPlacedGraph : GraphParts → Type 0
IsPlacedGraph g = ArePlaced g.defs.now g.table.now (map (λ r. r.def) g.references.now) g.places.now
