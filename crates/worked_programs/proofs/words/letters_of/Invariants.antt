use Rattle.std.specs.Prelude.{◌≡◌}
use Rattle.worked_programs.proofs.words.letters_of.Given as goal

abbrev pub invariant-loop-digit : goal.invariant-loop-digit
invariant-loop-digit l = l.driver.fabric ≡ l.fabric
