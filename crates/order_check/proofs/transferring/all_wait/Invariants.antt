use Rattle.std.proofs.Common.{◌≡◌, drop}
use Rattle.program_walks.specs.Walks.{all_at}
use Rattle.order_check.specs.Transfers.{waits}
use Rattle.order_check.proofs.transferring.all_wait.Given as goal

-- the sequences that are left decide
abbrev pub invariant-loop-sequence : goal.invariant-loop-sequence
invariant-loop-sequence l = all_at (waits l.program l.order l.crossing.medium l.crossing.number l.ends.sender l.ends.receiver) l.sequence
    (drop l.sequence l.program.seqs) ≡ all_at (waits l.program l.order l.crossing.medium l.crossing.number l.ends.sender l.ends.receiver) 0 l.program.seqs
