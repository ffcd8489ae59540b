use Rattle.std.proofs.Common.{◌≡◌, drop}
use Rattle.body_check.specs.Lines.{found_len}
use Rattle.body_check.proofs.lookup.port_len.Given as goal

-- the ports that are left decide
abbrev pub invariant-loop-port : goal.invariant-loop-port
invariant-loop-port l = found_len l.ports l.name ≡ found_len (drop l.port-index l.ports) l.name
