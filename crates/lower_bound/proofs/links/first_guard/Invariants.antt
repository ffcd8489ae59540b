use Rattle.std.proofs.Common.{◌≡◌, drop, map}
use Rattle.lower_bound.specs.Chain.{first_at}
use Rattle.lower_bound.specs.Turns.{at}
use Rattle.lower_bound.proofs.links.first_guard.Given as goal

-- the first of the guards that are left is that of all
abbrev pub invariant-loop-guard : goal.invariant-loop-guard
invariant-loop-guard l = first_at (at l.ends) l.date (map (λ g. g.source.vertex) (drop l.guard-index l.guards)) ≡ first_at (at l.ends) l.date (map (λ g. g.source.vertex) l.guards)
