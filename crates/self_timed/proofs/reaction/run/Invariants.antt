use Rattle.std.proofs.Common.{◌≡◌, drop}
use Rattle.self_timed.specs.Running.{FitSteps, after_steps, running}
use Rattle.self_timed.proofs.reaction.run.Given as goal

-- what is left of the acts completes the dates, and fits
abbrev pub invariant-loop-step : goal.invariant-loop-step
invariant-loop-step l = record {
  fits : FitSteps l.freed l.ticks (drop l.step-index l.steps) (running l.ends l.row);
  left : after_steps l.freed l.ticks (drop l.step-index l.steps) (running l.ends l.row) ≡ after_steps l.freed l.ticks l.steps (running l.fn.ends l.fn.row);
}
