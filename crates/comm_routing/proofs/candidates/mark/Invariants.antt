use Rattle.std.proofs.Common.{◌≡◌, ℕ, ◌<◌, false, length}
use Rattle.std.specs.Prelude.{slice_index_or}
use Rattle.comm_routing.specs.Candidates.{is_candidate_in}
use Rattle.comm_routing.proofs.candidates.mark.Given as goal

abbrev pub invariant-loop-op : goal.invariant-loop-op
invariant-loop-op l = record {
  size : length l.flags ≡ length l.vertices;
  past : (v : ℕ) → v < l.op → slice_index_or l.flags v false ≡ is_candidate_in l.vertices l.board v;
}
