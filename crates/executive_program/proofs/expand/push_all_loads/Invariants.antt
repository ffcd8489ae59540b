use Rattle.std.proofs.Common.{◌≡◌, ◌+◌, ◌++◌, vec_len}
use Rattle.interleavings.specs.Owners.{sum_below}
use Rattle.executive_program.specs.Blocks.{blocks}
use Rattle.executive_program.specs.Steps.{input_steps, len_at}
use Rattle.executive_program.proofs.expand.push_all_loads.Given as goal

abbrev pub invariant-loop-buffer : goal.invariant-loop-buffer
invariant-loop-buffer l = record {
  steps : l.out.items ≡ l.initial.out.items ++ blocks (input_steps l.program l.call.vertex l.call.loads l.call.micros l.ins) l.buffer-index;
  made : vec_len l.out ≡ l.begin + sum_below (len_at l.program l.ins) l.buffer-index;
}
