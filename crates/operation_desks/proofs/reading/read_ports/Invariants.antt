use Rattle.std.proofs.Common.{◌≡◌, ◌+◌, ◌*◌, ◌^◌, ◌≤◌, take, drop, sum}
use Rattle.operation_desks.specs.Operation.{ReadsPorts}
use Rattle.operation_desks.proofs.ReadVectors.{lens}
use Rattle.operation_desks.proofs.reading.read_ports.Given as goal

abbrev pub invariant-loop-i : goal.invariant-loop-i
invariant-loop-i l = record {
  reads : ReadsPorts l.registers.values l.at l.first l.i l.initial.ins l.ins;
  after : l.next ≡ l.at + sum (take l.i (drop l.first (lens l.initial.ins)));
  bound : l.next ≤ l.at + l.i * 2 ^ 64;
}
