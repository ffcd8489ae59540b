use Rattle.std.proofs.Common.{◌≡◌, drop}
use Rattle.self_timed.specs.Running.{free_all}
use Rattle.self_timed.proofs.reaction.free_all.Given as goal

-- what is left of the acts completes the dates
abbrev pub invariant-loop-step : goal.invariant-loop-step
invariant-loop-step l = free_all l.row (drop l.step-index l.steps) l.freed ≡ free_all l.row l.steps l.fn.freed
