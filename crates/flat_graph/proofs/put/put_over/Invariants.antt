use Rattle.std.proofs.Common.{◌≡◌, take}
use Rattle.std.specs.Prelude.{slice_set}
use Rattle.flat_graph.specs.Put.{over}
use Rattle.flat_graph.proofs.put.put_over.Given as goal
use Rattle.syn_base.specs.Vectors.{vector_at}

-- the elements so far
abbrev pub invariant-loop-j : goal.invariant-loop-j
invariant-loop-j l = l.outs ≡ slice_set l.fn.outs 0 (over l.from (take l.j l.vector) (vector_at l.fn.outs 0))
