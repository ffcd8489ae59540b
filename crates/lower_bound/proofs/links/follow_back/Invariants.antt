use Rattle.std.proofs.Common.{◌≡◌, ◌++◌, ◌-◌, ◌<◌, length, map}
use Rattle.std.specs.Prelude.{IfSome}
use Rattle.self_timed.specs.Table.{entry_in}
use Rattle.lower_bound.specs.Chain.{back_within, chain_back, link_of}
use Rattle.lower_bound.proofs.links.follow_back.Given as goal

-- the links so far, with those that are left, are all
abbrev pub invariant-loop-link : goal.invariant-loop-link
invariant-loop-link l = record {
  way : l.links.items ++ map (link_of l.durations.operators (entry_in l.durations) l.vertices)
      (back_within l.durations.operators (entry_in l.durations) l.vertices (length l.vertices - l._link) l.next)
      ≡ map (link_of l.durations.operators (entry_in l.durations) l.vertices) (chain_back l.durations.operators (entry_in l.durations) l.vertices);
  within : IfSome l.next (λ v. v < length l.vertices);
}
