use Rattle.std.proofs.Common.{◌≡◌, ◌+◌, drop}
use Rattle.std.specs.List.{list_any, position_or_len}
use Rattle.executive_program.specs.declared.program.SeqCode.{SeqCode}
use Rattle.executive_program.specs.Instructions.{writes}
use Rattle.program_walks.proofs.searches.writer_of.Given as goal

-- the sequences that are left decide
abbrev pub invariant-loop-sequence : goal.invariant-loop-sequence
invariant-loop-sequence l = l.sequence + position_or_len (λ (q : SeqCode). list_any (writes l.buffer) q.turn)
    (drop l.sequence l.program.seqs) ≡ position_or_len (λ (q : SeqCode). list_any (writes l.buffer) q.turn) l.program.seqs
