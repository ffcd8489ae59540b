use Rattle.std.proofs.Common.{◌≡◌, ◌+◌, ◌≤◌, drop, map, max}
use Rattle.self_timed.specs.Table.{entry_in}
use Rattle.lower_bound.specs.Bound.{arrival}
use Rattle.lower_bound.specs.Turns.{at, most_date, most_transfer}
use Rattle.lower_bound.proofs.arrivals.last_of_guards.Given as goal
use Rattle.syn_base.specs.Numbers.{greatest}

-- the last so far, with what the guards that are left read, is that of all
abbrev pub invariant-loop-guard : goal.invariant-loop-guard
invariant-loop-guard l = record {
  last : max l.last (greatest (map (arrival l.durations.operators (entry_in l.durations) l.vertices l.media (at l.ends) l.operator) (map (λ g. g.source) (drop l.guard-index l.guards))))
      ≡ greatest (map (arrival l.durations.operators (entry_in l.durations) l.vertices l.media (at l.ends) l.operator) (map (λ g. g.source) l.guards));
  low : l.last ≤ most_date + most_transfer;
}
