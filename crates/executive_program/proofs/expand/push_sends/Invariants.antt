use Rattle.std.proofs.Common.{◌≡◌, ◌++◌}
use Rattle.executive_program.specs.Blocks.{blocks}
use Rattle.executive_program.specs.Steps.{send_step}
use Rattle.executive_program.proofs.expand.push_sends.Given as goal

abbrev pub invariant-loop-number : goal.invariant-loop-number
invariant-loop-number l = l.out.items ≡ l.initial.out.items ++ blocks (send_step l.medium l.buffer) l.number
