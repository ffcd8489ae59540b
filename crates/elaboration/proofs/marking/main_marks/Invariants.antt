use Rattle.std.proofs.Common.{◌≡◌, drop}
use Rattle.std.specs.Prelude.{codes}
use Rattle.algo_laws.specs.RuleLinks.{definition}
use Rattle.elaboration.specs.Marking.{marks_in}
use Rattle.elaboration.proofs.marking.main_marks.Given as goal

abbrev pub invariant-loop-def : goal.invariant-loop-def
invariant-loop-def l = marks_in (definition l.defs (codes "main")) ≡ marks_in (definition (drop l.def-index l.defs) (codes "main"))
