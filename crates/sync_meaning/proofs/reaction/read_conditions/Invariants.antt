use Rattle.std.proofs.Common.{◌≡◌, ◌++◌, map, take, drop}
use Rattle.sync_meaning.specs.Store.{value_at}
use Rattle.sync_meaning.proofs.reaction.read_conditions.Given as goal

-- the ports so far
abbrev pub invariant-loop-port : goal.invariant-loop-port
invariant-loop-port l =
    let whole = take l.first l.fn.read ++ map (λ g. value_at l.table g.source) l.guards in
    l.read ≡ take l.port whole ++ drop l.port l.fn.read
