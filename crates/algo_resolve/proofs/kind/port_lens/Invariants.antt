use Rattle.std.proofs.Common.{◌≡◌, ◌++◌, drop, map}
use Rattle.algo_resolve.proofs.kind.port_lens.Given as goal

abbrev pub invariant-loop-port : goal.invariant-loop-port
invariant-loop-port l = l.lens.items ++ map (λ x. x.len) (drop l.port-index l.ports) ≡ map (λ x. x.len) l.ports
