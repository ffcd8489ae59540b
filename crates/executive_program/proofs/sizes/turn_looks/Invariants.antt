use Rattle.std.proofs.Common.{◌≡◌, ◌-◌, ◌^◌, min, take, get_or}
use Rattle.std.specs.List.{sum_by}
use Rattle.executive_program.specs.Sizes.{looks_in}
use Rattle.executive_program.proofs.sizes.turn_looks.Given as goal

abbrev pub invariant-loop-code : goal.invariant-loop-code
invariant-loop-code l = l.total ≡ min (sum_by (λ q. looks_in (λ r. get_or l.depths r 1) q.turn) (take l.code-index l.program.seqs)) (2 ^ 128 - 1)
