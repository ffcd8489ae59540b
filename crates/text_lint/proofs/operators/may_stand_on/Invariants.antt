use Rattle.std.proofs.Common.{◌≡◌, drop}
use Rattle.std.specs.List.{list_any}
use Rattle.text_lint.specs.Architecture.{lets_stand}
use Rattle.text_lint.proofs.operators.may_stand_on.Given as goal

-- the durations that are left decide
abbrev pub invariant-loop-line : goal.invariant-loop-line
invariant-loop-line l = list_any (lets_stand l.known l.operator) (drop l.line-index l.lines) ≡ list_any (lets_stand l.known l.operator) l.lines
