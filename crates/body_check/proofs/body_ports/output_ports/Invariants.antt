use Rattle.std.proofs.Common.{◌≡◌, ◌++◌, drop, map}
use Rattle.body_check.proofs.body_ports.output_ports.Given as goal

abbrev pub invariant-loop-out : goal.invariant-loop-out
invariant-loop-out l = l.ports.items ++ map (λ o. o.port) (drop l.out-index l.outs) ≡ map (λ o. o.port) l.outs
