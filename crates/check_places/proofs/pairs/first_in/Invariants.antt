use Rattle.std.proofs.Common.{◌≡◌, drop, nat_eq, not}
use Rattle.program_tables.specs.declared.mark_table.Mark.{Mark}
use Rattle.check_places.specs.First.{first_failing}
use Rattle.check_places.proofs.pairs.first_in.Given as goal

-- what is left gives the first
abbrev pub invariant-loop-mark : goal.invariant-loop-mark
invariant-loop-mark l = first_failing (λ (m : Mark). not (nat_eq m.sequence l.sequence)) (drop l.mark-index l.marks) ≡ first_failing (λ (m : Mark). not (nat_eq m.sequence l.sequence)) l.marks
