use Rattle.std.proofs.Common.{◌≡◌, ◌-◌, ◌^◌, min, take}
use Rattle.std.specs.List.{sum_by}
use Rattle.executive_program.specs.Sizes.{plain_in}
use Rattle.executive_program.proofs.sizes.plain_prologues.Given as goal

abbrev pub invariant-loop-code : goal.invariant-loop-code
invariant-loop-code l = l.total ≡ min (sum_by (λ q. plain_in l.program q.prologue) (take l.code-index l.program.seqs)) (2 ^ 128 - 1)
