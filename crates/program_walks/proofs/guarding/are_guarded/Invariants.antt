use Rattle.std.proofs.Common.{◌≡◌, ◌≤◌, true, length}
use Rattle.executive_program.specs.Blocks.{blocks}
use Rattle.executive_program.specs.Instructions.{readers_from}
use Rattle.program_walks.specs.Walks.{all_at}
use Rattle.program_walks.specs.Pairs.{guards}
use Rattle.program_walks.proofs.guarding.are_guarded.Given as goal

-- the pairs of the buffers before this one are right, and this many
abbrev pub invariant-loop-buffer : goal.invariant-loop-buffer
invariant-loop-buffer l = record {
  right : all_at (guards l.program l.order) 0 (blocks (readers_from 0 l.program.seqs) l.buffer) ≡ true;
  many : l.pair ≡ length (blocks (readers_from 0 l.program.seqs) l.buffer);
  few : l.pair ≤ length l.program.pairs;
}
