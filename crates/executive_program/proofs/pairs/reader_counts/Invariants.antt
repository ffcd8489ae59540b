use Rattle.std.proofs.Common.{◌≡◌, ℕ, ◌<◌, length, get_or, take}
use Rattle.std.specs.List.{count_by}
use Rattle.executive_program.specs.Instructions.{waits_for}
use Rattle.executive_program.proofs.pairs.reader_counts.Given as goal

abbrev pub invariant-loop-code : goal.invariant-loop-code
invariant-loop-code l = record {
  same : length l.counts.items ≡ length l.program.buffers;
  each : (b : ℕ) → b < length l.program.buffers → get_or l.counts.items b 0 ≡ count_by (waits_for b) (take l.code-index l.program.seqs);
}
