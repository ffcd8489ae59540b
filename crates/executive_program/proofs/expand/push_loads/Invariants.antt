use Rattle.std.proofs.Common.{◌≡◌, ◌+◌, ◌++◌, vec_len}
use Rattle.executive_program.specs.Blocks.{blocks}
use Rattle.executive_program.specs.Steps.{load_step}
use Rattle.executive_program.proofs.expand.push_loads.Given as goal

abbrev pub invariant-loop-number : goal.invariant-loop-number
invariant-loop-number l = record {
  steps : l.out.items ≡ l.initial.out.items ++ blocks (load_step l.call.vertex l.call.loads l.call.micros l.buffer l.first) l.number;
  made : vec_len l.out ≡ vec_len l.initial.out + l.number;
}
