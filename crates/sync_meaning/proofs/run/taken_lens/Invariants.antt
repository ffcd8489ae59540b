use Rattle.std.proofs.Common.{◌≡◌, ◌++◌, drop}
use Rattle.sync_meaning.specs.Ran.{taken_lens}
use Rattle.sync_meaning.proofs.run.taken_lens.Given as goal

abbrev pub invariant-loop-vertex : goal.invariant-loop-vertex
invariant-loop-vertex l = l.lens.items ++ taken_lens l.vertices (drop l.vertex-index l.vertices) ≡ taken_lens l.vertices l.vertices
