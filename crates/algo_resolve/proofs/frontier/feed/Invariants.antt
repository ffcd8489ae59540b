use Rattle.std.proofs.Common.{◌≡◌, drop}
use Rattle.algo_laws.specs.Resolved.{feed_of}
use Rattle.algo_resolve.proofs.frontier.feed.Given as goal

-- the lines that are left decide
abbrev pub invariant-loop-line : goal.invariant-loop-line
invariant-loop-line l = feed_of l.inner l.outer (drop l.line-index l.lines) l.name ≡ feed_of l.inner l.outer l.lines l.name
