use Rattle.std.proofs.Common.{◌≡◌, drop, map}
use Rattle.algo_rules.specs.Frontiers.{has_value}
use Rattle.body_check.proofs.switch.has_value.Given as goal

-- the cases that are left decide
abbrev pub invariant-loop-case : goal.invariant-loop-case
invariant-loop-case l = has_value (map (λ c. c.value) l.cases) l.value ≡ has_value (map (λ c. c.value) (drop l.case-index l.cases)) l.value
