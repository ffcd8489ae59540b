use Rattle.std.proofs.Common.{◌≡◌, drop, nat_le}
use Rattle.std.specs.List.{list_all}
use Rattle.flat_graph.specs.Graph.{lens_of}
use Rattle.flat_graph.proofs.lengths.are_there.Given as goal

-- the sources that are left decide
abbrev pub invariant-loop-source : goal.invariant-loop-source
invariant-loop-source l = list_all (nat_le 1) (lens_of l.vertices (drop l.source-index l.sources)) ≡ list_all (nat_le 1) (lens_of l.vertices l.sources)
