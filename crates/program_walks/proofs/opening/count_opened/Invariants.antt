use Rattle.std.proofs.Common.{◌≡◌}
use Rattle.std.specs.Prelude.{Some}
use Rattle.executive_program.specs.Blocks.{blocks}
use Rattle.executive_program.specs.Instructions.{readers_from}
use Rattle.program_walks.specs.Walks.{passed}
use Rattle.program_walks.specs.Opened.{opens}
use Rattle.program_walks.proofs.opening.count_opened.Given as goal

-- the pairs of the buffers before this one are opened, and this many
abbrev pub invariant-loop-buffer : goal.invariant-loop-buffer
invariant-loop-buffer l = passed (opens l.program) 0 (blocks (readers_from 0 l.program.seqs) l.buffer) ≡ Some l.pair
