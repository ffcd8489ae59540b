use Rattle.std.proofs.Common.{◌≡◌, ◌++◌, map, length, take, drop}
use Rattle.sync_meaning.specs.Store.{value_at}
use Rattle.sync_meaning.proofs.reaction.read_inputs.Given as goal

-- the ports so far
abbrev pub invariant-loop-port : goal.invariant-loop-port
invariant-loop-port l =
    let whole = map (value_at l.table) l.sources ++ drop (length l.sources) l.fn.read in
    l.read ≡ take l.port whole ++ drop l.port l.fn.read
