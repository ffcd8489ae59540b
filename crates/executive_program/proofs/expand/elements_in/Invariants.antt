use Rattle.std.proofs.Common.{◌≡◌, ◌*◌, ◌^◌, ◌≤◌}
use Rattle.interleavings.specs.Owners.{sum_below}
use Rattle.executive_program.specs.Steps.{len_at}
use Rattle.executive_program.proofs.expand.elements_in.Given as goal

abbrev pub invariant-loop-buffer : goal.invariant-loop-buffer
invariant-loop-buffer l = record {
  sum_is : l.total ≡ sum_below (len_at l.program l.list) l.buffer-index;
  bound : l.total ≤ l.buffer-index * 2 ^ 32;
}
