use Rattle.std.proofs.Common.{◌≡◌, map}
use Rattle.std.specs.List.{range_with_len}
use Rattle.algo_resolve.specs.Rounds.{passing_view, round}
use Rattle.algo_resolve.proofs.passing.rounds.Given as goal

abbrev pub invariant-loop : goal.invariant-loop
invariant-loop l = record {
  made : map (map passing_view) l.rounds.items ≡ map (round l.checked.defs.now) (range_with_len 0 l.counter);
  newest : map passing_view l.last ≡ round l.checked.defs.now l.counter;
}
