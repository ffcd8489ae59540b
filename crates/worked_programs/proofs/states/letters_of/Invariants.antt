use Rattle.phase_laws.specs.Held.{IsOpened}
use Rattle.worked_programs.proofs.states.letters_of.Given as goal

abbrev pub invariant-loop-digit : goal.invariant-loop-digit
invariant-loop-digit l = IsOpened l.job l.state
