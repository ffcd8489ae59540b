use Rattle.std.proofs.Common.{◌≡◌, drop}
use Rattle.executive_program.specs.Instructions.{readers_from}
use Rattle.program_walks.specs.Walks.{passed}
use Rattle.program_walks.specs.Opened.{opens}
use Rattle.program_walks.proofs.opening.after_readers.Given as goal

-- the sequences that are left decide
abbrev pub invariant-loop-sequence : goal.invariant-loop-sequence
invariant-loop-sequence l =
    passed (opens l.program) l.pair (readers_from l.sequence (drop l.sequence l.program.seqs) l.buffer) ≡ passed (opens l.program) l.first (readers_from 0 l.program.seqs l.buffer)
