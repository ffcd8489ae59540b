use Rattle.std.proofs.Common.{◌≡◌}
use Rattle.sequence_build.specs.Pairs.{pairs_below}
use Rattle.sequence_build.proofs.pairs.pairs_of.Given as goal

-- those of the buffers so far
abbrev pub invariant-loop-buffer : goal.invariant-loop-buffer
invariant-loop-buffer l = l.pairs.items ≡ pairs_below l.uses.items l.writes l.buffer
