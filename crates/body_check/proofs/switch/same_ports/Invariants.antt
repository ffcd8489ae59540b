use Rattle.std.proofs.Common.{◌≡◌, drop}
use Rattle.algo_rules.specs.Ports.{same_ports}
use Rattle.body_check.proofs.switch.same_ports.Given as goal

-- the ports that are left decide
abbrev pub invariant-loop-at : goal.invariant-loop-at
invariant-loop-at l = same_ports (drop l.at l.ports) (drop l.at l.others) ≡ same_ports l.ports l.others
