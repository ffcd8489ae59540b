use Rattle.std.proofs.Common.{◌≡◌, length}
use Rattle.std.specs.Prelude.{slice_set}
use Rattle.operation_desks.proofs.ReadVectors.{half_read}
use Rattle.operation_desks.proofs.reading.read_vector.Given as goal
use Rattle.syn_base.specs.Vectors.{vector_at}

abbrev pub invariant-loop-j : goal.invariant-loop-j
invariant-loop-j l = record {
  ins_are : l.ins ≡ slice_set l.initial.ins l.port (half_read l.registers.values l.at (vector_at l.initial.ins l.port) l.j);
  len_is : l.len ≡ length (vector_at l.initial.ins l.port);
}
