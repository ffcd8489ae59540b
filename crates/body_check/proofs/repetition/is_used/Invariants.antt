use Rattle.std.proofs.Common.{◌≡◌, drop}
use Rattle.algo_rules.specs.Among.{is_among}
use Rattle.body_check.specs.Lines.{all_used}
use Rattle.body_check.proofs.repetition.is_used.Given as goal

-- the lines that are left decide
abbrev pub invariant-loop-line : goal.invariant-loop-line
invariant-loop-line l = is_among l.name (all_used l.lines) ≡ is_among l.name (all_used (drop l.line-index l.lines))
