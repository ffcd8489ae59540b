use Rattle.std.proofs.Common.{◌≡◌, ℕ, ◌<◌, None}
use Rattle.durations.specs.Lines.{ticks_of}
use Rattle.durations.proofs.given.Given.has.Given as goal

abbrev pub invariant-loop-operator : goal.invariant-loop-operator
invariant-loop-operator l = (o : ℕ) → o < l.operator → ticks_of l.self.lines l.def o ≡ None
