use Rattle.std.proofs.Common.{◌≡◌, ◌+◌, ◌++◌, vec_len}
use Rattle.executive_program.specs.Blocks.{blocks}
use Rattle.executive_program.specs.Steps.{store_step}
use Rattle.executive_program.proofs.expand.push_stores.Given as goal

abbrev pub invariant-loop-number : goal.invariant-loop-number
invariant-loop-number l = record {
  steps : l.out.items ≡ l.initial.out.items ++ blocks (store_step l.call.vertex l.call.loads l.call.micros l.buffer l.first) l.number;
  made : vec_len l.out ≡ vec_len l.initial.out + l.number;
}
