use Rattle.std.proofs.Common.{◌≡◌, ◌++◌, drop, map}
use Rattle.algo_print.specs.Canonical.{text_of, port_words}
use Rattle.algo_print.proofs.blocks.print_ports.Given as goal

abbrev pub invariant-loop-port : goal.invariant-loop-port
invariant-loop-port l = l.text.items ++ text_of (map (port_words l.key) (drop l.port-index l.ports)) ≡ l.initial.text.items ++ text_of (map (port_words l.key) l.ports)
