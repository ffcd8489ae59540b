use Rattle.std.proofs.Common.{◌≡◌, ◌++◌, drop}
use Rattle.comm_routing.specs.Start.{IsMarked}
use Rattle.comm_routing.specs.Walk.{distinct_after}
use Rattle.comm_routing.proofs.reads.note_all.Given as goal

-- what is left to be noted makes the whole
abbrev pub invariant-loop-source : goal.invariant-loop-source
invariant-loop-source l = record {
  marked : IsMarked l.operations l.mark l.marks l.reads.items;
  left : l.reads.items ++ distinct_after l.reads.items (drop l.source-index l.sources) ≡ l.fn.reads.items ++ distinct_after l.fn.reads.items l.sources;
}
