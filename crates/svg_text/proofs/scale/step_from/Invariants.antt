use Rattle.std.proofs.Common.{◌≡◌, drop}
use Rattle.svg_text.specs.Scale.{first_from}
use Rattle.svg_text.proofs.scale.step_from.Given as goal

-- what is left decides
abbrev pub invariant-loop-step : goal.invariant-loop-step
invariant-loop-step l = first_from l.n (drop l.step-index l.steps) ≡ first_from l.n l.steps
