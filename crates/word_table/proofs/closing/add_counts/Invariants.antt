use Rattle.std.specs.Prelude.{◌≡◌, ◌+◌, min, sum, take}
use Rattle.word_rule.specs.Driven.{last_number}
use Rattle.word_table.proofs.closing.add_counts.Given as goal

abbrev pub invariant-loop-count : goal.invariant-loop-count
invariant-loop-count l = l.number ≡ min (l.initial.number + sum (take l.count-index l.counts)) last_number
