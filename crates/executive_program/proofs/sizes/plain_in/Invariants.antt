use Rattle.std.proofs.Common.{◌≡◌, ◌-◌, ◌^◌, min, take}
use Rattle.std.specs.List.{sum_by}
use Rattle.executive_program.specs.Sizes.{plain_of}
use Rattle.executive_program.proofs.sizes.plain_in.Given as goal

abbrev pub invariant-loop-instr : goal.invariant-loop-instr
invariant-loop-instr l = l.total ≡ min (sum_by (plain_of l.program) (take l.instr-index l.list)) (2 ^ 128 - 1)
