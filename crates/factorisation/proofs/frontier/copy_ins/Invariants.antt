use Rattle.std.proofs.Common.{◌≡◌, ◌++◌, drop, map}
use Rattle.flat_laws.specs.Unrolled.{copy_sources}
use Rattle.factorisation.proofs.frontier.copy_ins.Given as goal

abbrev pub invariant-loop-feed : goal.invariant-loop-feed
invariant-loop-feed l =
    l.all.items ++ copy_sources l.copies.begin l.i (map (λ f. f.now) l.lines) (drop l.feed-index l.feeds) ≡ copy_sources l.copies.begin l.i (map (λ f. f.now) l.lines) l.feeds
