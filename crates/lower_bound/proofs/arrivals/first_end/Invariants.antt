use Rattle.std.proofs.Common.{◌≡◌, map}
use Rattle.std.specs.List.{range_with_len}
use Rattle.self_timed.specs.Table.{entry_in, least_of}
use Rattle.lower_bound.specs.Bound.{end_on}
use Rattle.lower_bound.specs.Turns.{at}
use Rattle.lower_bound.proofs.arrivals.first_end.Given as goal

-- the least of the operators before
abbrev pub invariant-loop-operator : goal.invariant-loop-operator
invariant-loop-operator l = l.first ≡ least_of (map (end_on l.durations.operators (entry_in l.durations) l.vertices l.media (at l.ends) l.op) (range_with_len 0 l.operator))
