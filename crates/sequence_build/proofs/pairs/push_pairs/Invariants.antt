use Rattle.std.proofs.Common.{◌≡◌, ◌++◌, drop}
use Rattle.sequence_build.specs.Pairs.{pairs_with}
use Rattle.sequence_build.proofs.pairs.push_pairs.Given as goal

-- what is left makes the whole
abbrev pub invariant-loop-found : goal.invariant-loop-found
invariant-loop-found l = l.pairs.items ++ pairs_with l.buffer l.write (drop l.found-index l.uses) ≡ l.fn.pairs.items ++ pairs_with l.buffer l.write l.uses
