use Rattle.std.proofs.Common.{◌≡◌, ◌-◌, ◌*◌, ◌^◌, min, take}
use Rattle.std.specs.List.{sum_by}
use Rattle.code_reader.proofs.counts.buffer_words.Given as goal

abbrev pub invariant-loop-size : goal.invariant-loop-size
invariant-loop-size l = l.total ≡ min (sum_by (λ s. s.depth * s.len) (take l.size-index l.sizes)) (2 ^ 128 - 1)
