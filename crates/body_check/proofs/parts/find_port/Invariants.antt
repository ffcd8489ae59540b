use Rattle.std.proofs.Common.{◌≡◌, ◌+◌, drop}
use Rattle.algo_rules.specs.Ports.{number_of}
use Rattle.body_check.proofs.parts.find_port.Given as goal

abbrev pub invariant-loop-at : goal.invariant-loop-at
invariant-loop-at l = l.at + number_of (drop l.at l.ports) l.name ≡ number_of l.ports l.name
