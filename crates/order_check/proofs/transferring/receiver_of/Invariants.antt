use Rattle.std.proofs.Common.{◌≡◌, ◌+◌, drop}
use Rattle.std.specs.List.{position_or_len}
use Rattle.executive_program.specs.Places.{receives_at}
use Rattle.order_check.proofs.transferring.receiver_of.Given as goal

-- the sequences that are left decide
abbrev pub invariant-loop-sequence : goal.invariant-loop-sequence
invariant-loop-sequence l = l.sequence + position_or_len (receives_at l.program l.crossing.medium l.crossing.number)
    (drop l.sequence l.program.seqs) ≡ position_or_len (receives_at l.program l.crossing.medium l.crossing.number) l.program.seqs
