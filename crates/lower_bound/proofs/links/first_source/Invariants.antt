use Rattle.std.proofs.Common.{◌≡◌, drop, map}
use Rattle.lower_bound.specs.Chain.{first_at}
use Rattle.lower_bound.specs.Turns.{at}
use Rattle.lower_bound.proofs.links.first_source.Given as goal

-- the first of the sources that are left is that of all
abbrev pub invariant-loop-source : goal.invariant-loop-source
invariant-loop-source l = first_at (at l.ends) l.date (map (λ s. s.vertex) (drop l.source-index l.sources)) ≡ first_at (at l.ends) l.date (map (λ s. s.vertex) l.sources)
