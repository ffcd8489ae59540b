use Rattle.std.proofs.Common.{◌≡◌, drop, map, max}
use Rattle.lower_bound.specs.Turns.{at}
use Rattle.lower_bound.proofs.links.latest_of_guards.Given as goal
use Rattle.syn_base.specs.Numbers.{greatest}

-- the greatest date so far, with those of the guards that are left, is that of all
abbrev pub invariant-loop-guard : goal.invariant-loop-guard
invariant-loop-guard l = max l.latest (greatest (map (at l.ends) (map (λ g. g.source.vertex) (drop l.guard-index l.guards)))) ≡ greatest (map (at l.ends) (map (λ g. g.source.vertex) l.guards))
