use Rattle.std.proofs.Common.{◌≡◌, ◌++◌, drop, map}
use Rattle.algo_laws.specs.Resolved.{feed_of}
use Rattle.algo_resolve.proofs.frontier.feeds.Given as goal

abbrev pub invariant-loop-port : goal.invariant-loop-port
invariant-loop-port l =
    l.feeds.items ++ map (λ p. feed_of l.inner l.outer l.lines p.name) (drop l.port-index l.inner.ins)
    ≡ map (λ p. feed_of l.inner l.outer l.lines p.name) l.inner.ins
