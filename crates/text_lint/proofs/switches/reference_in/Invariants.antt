use Rattle.std.proofs.Common.{◌≡◌, drop}
use Rattle.text_lint.specs.Algorithm.{reference_in}
use Rattle.text_lint.proofs.switches.reference_in.Given as goal

-- the references that are left decide
abbrev pub invariant-loop-reference : goal.invariant-loop-reference
invariant-loop-reference l = reference_in (drop l.reference-index l.references) l.name ≡ reference_in l.references l.name
