use Rattle.std.proofs.Common.{◌≡◌, ℕ, ◌<◌, false}
use Rattle.std.specs.Prelude.{slice_index_or}
use Rattle.archi_graph.specs.Archi.{reached_within}
use Rattle.archi_graph.proofs.joined.reached.Given as goal

abbrev pub invariant-loop-hops : goal.invariant-loop-hops
invariant-loop-hops l = (o : ℕ) → o < 16 → slice_index_or l.reached o false ≡ reached_within l.media l._hops o
