use Rattle.std.proofs.Common.{◌≡◌, drop}
use Rattle.algo_laws.specs.Ports.{len_of}
use Rattle.algo_resolve.proofs.lookup.port_len.Given as goal

abbrev pub invariant-loop-port : goal.invariant-loop-port
invariant-loop-port l = len_of (drop l.port-index l.ports) l.name ≡ len_of l.ports l.name
