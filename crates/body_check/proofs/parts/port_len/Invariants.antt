use Rattle.std.proofs.Common.{◌≡◌, drop}
use Rattle.algo_rules.specs.Graphs.{port_len}
use Rattle.body_check.proofs.parts.port_len.Given as goal

abbrev pub invariant-loop-port : goal.invariant-loop-port
invariant-loop-port l = port_len (drop l.port-index l.ports) l.name ≡ port_len l.ports l.name
