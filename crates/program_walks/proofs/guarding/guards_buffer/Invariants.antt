use Rattle.std.proofs.Common.{◌≡◌, ◌≤◌, drop, length}
use Rattle.executive_program.specs.Instructions.{readers_from}
use Rattle.program_walks.specs.Walks.{all_at}
use Rattle.program_walks.specs.Pairs.{guards}
use Rattle.program_walks.proofs.guarding.guards_buffer.Given as goal

-- the sequences that are left decide
abbrev pub invariant-loop-sequence : goal.invariant-loop-sequence
invariant-loop-sequence l = record {
  left : all_at (guards l.program l.order) l.pair (readers_from l.sequence (drop l.sequence l.program.seqs) l.buffer)
      ≡ all_at (guards l.program l.order) l.first (readers_from 0 l.program.seqs l.buffer);
  few : l.pair ≤ length l.program.pairs;
}
