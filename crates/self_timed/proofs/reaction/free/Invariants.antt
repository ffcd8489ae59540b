use Rattle.std.proofs.Common.{◌≡◌, drop}
use Rattle.self_timed.specs.Running.{free}
use Rattle.self_timed.proofs.reaction.free.Given as goal

-- what is left of the entries completes the dates
abbrev pub invariant-loop-source : goal.invariant-loop-source
invariant-loop-source l = free (drop l.source-index l.sources) l.end l.freed ≡ free l.sources l.end l.fn.freed
