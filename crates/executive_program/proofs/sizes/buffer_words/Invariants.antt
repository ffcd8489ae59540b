use Rattle.std.proofs.Common.{◌≡◌, ◌-◌, ◌+◌, ◌*◌, ◌^◌, ◌≤◌, take}
use Rattle.std.specs.List.{sum_by}
use Rattle.executive_program.proofs.sizes.buffer_words.Given as goal

abbrev pub invariant-loop-buffer : goal.invariant-loop-buffer
invariant-loop-buffer l = record {
  sum_is : l.total ≡ sum_by (λ x. x.depth * x.len) (take l.buffer-index l.program.buffers);
  bound : l.total ≤ l.buffer-index * (2 ^ 64 - 2 ^ 33 + 1);
}
