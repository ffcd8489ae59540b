use Rattle.std.proofs.Common.{◌≡◌, [], map, true}
use Rattle.std.specs.Prelude.{replicate}
use Rattle.algo_resolve.specs.Rounds.{passed, passing_view}
use Rattle.algo_resolve.proofs.passing.first_round.Given as goal

abbrev pub invariant-loop : goal.invariant-loop
invariant-loop l = map passing_view l.first.items ≡ replicate l.counter (passed true [])
