use Rattle.std.proofs.Common.{◌≡◌, ◌++◌, ◌∷◌, [], take, drop}
use Rattle.algo_rules.specs.Links.{first_of}
use Rattle.algo_rules.specs.Frontiers.{frontier_faults, unfed, repeat_fault}
use Rattle.body_check.specs.Lines.{all_used}
use Rattle.body_check.proofs.repetition.check_repeat.Given as goal

-- the lines that are left decide
abbrev pub invariant-loop-at : goal.invariant-loop-at
invariant-loop-at l =
    first_of (frontier_faults l.copies l.inner (all_used (take l.at l.lines)) (drop l.at l.lines) ++ unfed l.copies l.inner l.line l.lines ∷ [])
    ≡ repeat_fault l.copies l.inner l.line l.lines
