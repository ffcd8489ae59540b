use Rattle.std.proofs.Common.{◌≡◌, ℕ, ◌<◌, length, get_or}
use Rattle.sequence_build.specs.Touched.{readers_of}
use Rattle.sequence_build.proofs.touched.reader_counts.Given as goal

abbrev pub invariant-loop-buffer : goal.invariant-loop-buffer
invariant-loop-buffer l = record {
  many : length l.counts.items ≡ l.buffer;
  each : (b : ℕ) → b < l.buffer → get_or l.counts.items b 0 ≡ readers_of l.touched b;
}
