use Rattle.std.proofs.Common.{◌≡◌, drop, map, max}
use Rattle.lower_bound.specs.Turns.{at}
use Rattle.lower_bound.proofs.links.latest_of_sources.Given as goal
use Rattle.syn_base.specs.Numbers.{greatest}

-- the greatest date so far, with those of the sources that are left, is that of all
abbrev pub invariant-loop-source : goal.invariant-loop-source
invariant-loop-source l = max l.latest (greatest (map (at l.ends) (map (λ s. s.vertex) (drop l.source-index l.sources)))) ≡ greatest (map (at l.ends) (map (λ s. s.vertex) l.sources))
