use Rattle.std.proofs.Common.{◌≡◌, ◌++◌, length}
use Rattle.std.specs.Vec.Iter.{into_iter_items}
use Rattle.sequence_build.specs.Around.{codes_with}
use Rattle.sequence_build.proofs.around.guarded_codes.Given as goal

-- what is left makes the whole
abbrev pub invariant-loop-code : goal.invariant-loop-code
invariant-loop-code l = l.seqs.items ++ codes_with l.depth l.pairs (length l.seqs.items) (into_iter_items l.code-iterator) ≡ codes_with l.depth l.pairs 0 l.fn.codes.items
