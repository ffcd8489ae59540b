use Rattle.std.proofs.Common.{◌≡◌, ◌++◌, drop}
use Rattle.body_check.proofs.body_ports.add_ports.Given as goal

abbrev pub invariant-loop-port : goal.invariant-loop-port
invariant-loop-port l = l.copies.items ++ drop l.port-index l.ports ≡ l.fn.copies.items ++ l.ports
