use Rattle.std.proofs.Common.{◌≡◌, drop, map}
use Rattle.algo_text.specs.Among.{is_among}
use Rattle.algo_lines.proofs.ports.has_port.Given as goal

abbrev pub invariant-loop-port : goal.invariant-loop-port
invariant-loop-port l = is_among l.name (map (λ p. p.name) l.ports) ≡ is_among l.name (map (λ p. p.name) (drop l.port-index l.ports))
