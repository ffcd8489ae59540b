use Rattle.std.proofs.Common.{◌≡◌, ℕ, ◌<◌, ◌||◌, ◌&&◌, false, take}
use Rattle.std.specs.Prelude.{slice_index_or}
use Rattle.std.specs.List.{list_any}
use Rattle.archi_graph.specs.Archi.{stands_at}
use Rattle.archi_graph.proofs.joined.one_hop_further.Given as goal

abbrev pub invariant-loop-medium : goal.invariant-loop-medium
invariant-loop-medium l =
    (o : ℕ) → o < 16 → slice_index_or l.far o false
    ≡ (slice_index_or l.near o false
    || list_any (λ m. stands_at m o && list_any (λ p. slice_index_or l.near p false) m.stands) (take l.medium-index l.media))
