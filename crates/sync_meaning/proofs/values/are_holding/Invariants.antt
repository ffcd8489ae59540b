use Rattle.std.proofs.Common.{◌≡◌, drop, map}
use Rattle.flat_graph.specs.Fire.{guards_hold}
use Rattle.sync_meaning.specs.Store.{value_at}
use Rattle.sync_meaning.proofs.values.are_holding.Given as goal

abbrev pub invariant-loop-guard : goal.invariant-loop-guard
invariant-loop-guard l =
    guards_hold (drop l.guard-index l.guards) (map (λ g. value_at l.table g.source) (drop l.guard-index l.guards))
    ≡ guards_hold l.guards (map (λ g. value_at l.table g.source) l.guards)
