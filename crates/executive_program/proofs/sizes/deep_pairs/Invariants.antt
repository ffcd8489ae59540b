use Rattle.std.proofs.Common.{◌≡◌, ◌-◌, ◌^◌, min, take, None, false}
use Rattle.std.specs.List.{sum_by}
use Rattle.executive_program.specs.Sizes.{opened_after}
use Rattle.executive_program.proofs.sizes.deep_pairs.Given as goal

abbrev pub invariant-loop-code : goal.invariant-loop-code
invariant-loop-code l = l.total ≡ min (sum_by (λ q. opened_after None false q.prologue) (take l.code-index l.program.seqs)) (2 ^ 128 - 1)
