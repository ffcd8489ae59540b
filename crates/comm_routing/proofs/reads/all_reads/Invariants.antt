use Rattle.std.proofs.Common.{◌≡◌, ℕ, ◌≤◌, ◌*◌, ◌++◌, drop, length, map}
use Rattle.std.specs.Prelude.{All, slice_index_or}
use Rattle.comm_routing.specs.Start.{reads_of}
use Rattle.comm_routing.proofs.reads.all_reads.Given as goal

-- what is left completes the reads, and the marks so far are those of the operations before
abbrev pub invariant-loop-op : goal.invariant-loop-op
invariant-loop-op l = record {
  size : length l.marks.items ≡ length l.vertices * 64;
  low : (i : ℕ) → slice_index_or l.marks.items i 0 ≤ l.op;
  left : l.reads.items ++ map reads_of (drop l.op l.vertices) ≡ map reads_of l.vertices;
  short : All (λ r. length r ≤ 131072) l.reads.items;
}
