use Rattle.std.proofs.Common.{◌≡◌, ◌-◌, ◌^◌, min, take, get_or}
use Rattle.std.specs.List.{sum_by}
use Rattle.executive_program.specs.Sizes.{looks_of}
use Rattle.executive_program.proofs.sizes.looks_in.Given as goal

abbrev pub invariant-loop-instr : goal.invariant-loop-instr
invariant-loop-instr l = l.total ≡ min (sum_by (looks_of (λ q. get_or l.depths q 1)) (take l.instr-index l.list)) (2 ^ 128 - 1)
