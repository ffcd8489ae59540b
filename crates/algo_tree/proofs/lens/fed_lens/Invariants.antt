use Rattle.std.proofs.Common.{◌≡◌, drop, ◌++◌, map}
use Rattle.algo_tree.specs.Typed.{fed_length}
use Rattle.algo_tree.proofs.lens.fed_lens.Given as goal

-- those that are left decide
abbrev pub invariant-loop-feed : goal.invariant-loop-feed
invariant-loop-feed l = l.fed.items ++ map (fed_length l.lens) (drop l.feed-index l.feeds) ≡ map (fed_length l.lens) l.feeds
