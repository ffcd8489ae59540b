use Rattle.std.proofs.Common.{◌≡◌, List, ◌++◌, drop, map}
use Rattle.schedule.specs.declared.Source.{Source}
use Rattle.comm_routing.specs.Start.{IsMarked}
use Rattle.comm_routing.specs.Walk.{distinct_after}
use Rattle.comm_routing.proofs.reads.note_guards.Given as goal

-- what is left to be noted makes the whole
abbrev pub invariant-loop-guard : goal.invariant-loop-guard
invariant-loop-guard l = record {
  marked : IsMarked l.operations l.mark l.marks l.reads.items;
  left : (rest : List Source) → l.reads.items ++ distinct_after l.reads.items (map (λ g. g.source) (drop l.guard-index l.guards) ++ rest)
      ≡ l.fn.reads.items ++ distinct_after l.fn.reads.items (map (λ g. g.source) l.guards ++ rest);
}
