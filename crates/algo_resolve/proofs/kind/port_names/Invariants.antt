use Rattle.std.proofs.Common.{◌≡◌, ◌++◌, drop, map}
use Rattle.algo_resolve.proofs.kind.port_names.Given as goal

abbrev pub invariant-loop-port : goal.invariant-loop-port
invariant-loop-port l = l.names.items ++ map (λ x. x.name) (drop l.port-index l.ports) ≡ map (λ x. x.name) l.ports
