use Rattle.std.proofs.Common.{◌≡◌, drop}
use Rattle.std.specs.List.{list_all}
use Rattle.archi_graph.specs.Archi.{names_of, occurs_once}
use Rattle.archi_graph.proofs.valid.are_media_alone.Given as goal

abbrev pub invariant-loop-medium : goal.invariant-loop-medium
invariant-loop-medium l = list_all (λ m. occurs_once (names_of l.operators l.media) m.name) (drop l.medium-index l.media) ≡ list_all (λ m. occurs_once (names_of l.operators l.media) m.name) l.media
