use Rattle.std.proofs.Common.{◌≡◌, ◌+◌, ◌≤◌, drop, map, max}
use Rattle.self_timed.specs.Table.{entry_in}
use Rattle.lower_bound.specs.Bound.{arrival}
use Rattle.lower_bound.specs.Turns.{at, most_date, most_transfer}
use Rattle.lower_bound.proofs.arrivals.last_of_sources.Given as goal
use Rattle.syn_base.specs.Numbers.{greatest}

-- the last so far, with the sources that are left, is that of all
abbrev pub invariant-loop-source : goal.invariant-loop-source
invariant-loop-source l = record {
  last : max l.last (greatest (map (arrival l.durations.operators (entry_in l.durations) l.vertices l.media (at l.ends) l.operator) (drop l.source-index l.sources)))
      ≡ greatest (map (arrival l.durations.operators (entry_in l.durations) l.vertices l.media (at l.ends) l.operator) l.sources);
  low : l.last ≤ most_date + most_transfer;
}
