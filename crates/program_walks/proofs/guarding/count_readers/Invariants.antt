use Rattle.std.proofs.Common.{◌≡◌, ◌+◌, ◌≤◌, drop, length}
use Rattle.executive_program.specs.Instructions.{readers_from}
use Rattle.program_walks.proofs.guarding.count_readers.Given as goal

-- the readers so far, and those that are left
abbrev pub invariant-loop-code : goal.invariant-loop-code
invariant-loop-code l = record {
  left : l.count + length (readers_from l.code-index (drop l.code-index l.program.seqs) l.buffer) ≡ length (readers_from 0 l.program.seqs l.buffer);
  few : l.count ≤ l.code-index;
}
