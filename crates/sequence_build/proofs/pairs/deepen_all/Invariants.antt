use Rattle.std.proofs.Common.{◌≡◌, drop}
use Rattle.sequence_build.specs.Pairs.{deepened}
use Rattle.sequence_build.proofs.pairs.deepen_all.Given as goal

-- what is left makes the whole
abbrev pub invariant-loop-pair : goal.invariant-loop-pair
invariant-loop-pair l = deepened l.depth (drop l.pair-index l.pairs) l.buffers ≡ deepened l.depth l.pairs l.fn.buffers
