use Rattle.std.proofs.Common.{◌≡◌, drop, map}
use Rattle.std.specs.List.{list_all}
use Rattle.algo_resolve.specs.Rounds.{idle_at, passing_view}
use Rattle.algo_resolve.proofs.passing.are_idle.Given as goal

abbrev pub invariant-loop-place : goal.invariant-loop-place
invariant-loop-place l = list_all (idle_at (map passing_view l.last)) (drop l.place-index l.places) ≡ list_all (idle_at (map passing_view l.last)) l.places
