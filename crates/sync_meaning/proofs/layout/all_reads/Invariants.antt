use Rattle.std.proofs.Common.{◌≡◌, take, map}
use Rattle.sync_meaning.specs.Store.{lengths, lens_read}
use Rattle.sync_meaning.proofs.layout.all_reads.Given as goal

abbrev pub invariant-loop-vertex : goal.invariant-loop-vertex
invariant-loop-vertex l = map lengths l.reads.items ≡ map (lens_read l.vertices) (take l.vertex-index l.vertices)
