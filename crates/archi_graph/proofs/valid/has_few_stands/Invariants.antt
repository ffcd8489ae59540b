use Rattle.std.proofs.Common.{◌≡◌, ◌+◌, length, take}
use Rattle.std.specs.List.{sum_by}
use Rattle.archi_graph.proofs.valid.has_few_stands.Given as goal

-- the room that is left, and the stands so far
abbrev pub invariant-loop-medium : goal.invariant-loop-medium
invariant-loop-medium l = l.room + sum_by (λ m. length m.stands) (take l.medium-index l.media) ≡ 64
