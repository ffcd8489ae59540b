use Rattle.std.proofs.Common.{◌≡◌, ◌+◌, ◌++◌, vec_len}
use Rattle.interleavings.specs.Owners.{sum_below}
use Rattle.executive_program.specs.Blocks.{blocks}
use Rattle.executive_program.specs.Steps.{output_steps, len_at}
use Rattle.executive_program.proofs.expand.push_all_stores.Given as goal

abbrev pub invariant-loop-buffer : goal.invariant-loop-buffer
invariant-loop-buffer l = record {
  steps : l.out.items ≡ l.initial.out.items ++ blocks (output_steps l.program l.call.vertex l.call.loads l.call.micros l.outs) l.buffer-index;
  made : vec_len l.out ≡ l.begin + l.call.loads + sum_below (len_at l.program l.outs) l.buffer-index;
}
