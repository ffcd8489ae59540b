use Rattle.std.proofs.Common.{◌≡◌, ◌+◌, drop}
use Rattle.body_text.specs.Ports.{port_number}
use Rattle.body_text.specs.Answers.{names_of}
use Rattle.body_text.proofs.read.Reader.port.Given as goal

abbrev pub invariant-loop-number : goal.invariant-loop-number
invariant-loop-number l = l.number + port_number (names_of (drop l.number l.self.ports.now)) l.name ≡ port_number (names_of l.self.ports.now) l.name
