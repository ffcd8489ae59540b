use Rattle.std.proofs.Common.{◌≡◌, ◌++◌, take, drop}
use Rattle.std.specs.Prelude.{slice_set}
use Rattle.body_lang.specs.Expr.{view, value_of, vector_of}
use Rattle.flat_graph.proofs.put.put_value.Given as goal
use Rattle.syn_base.specs.Vectors.{vector_at}

-- the elements so far
abbrev pub invariant-loop-j : goal.invariant-loop-j
invariant-loop-j l =
    l.outs ≡ slice_set l.fn.outs l.port (take l.j (vector_of l.len (value_of (view l.e) l.ins)) ++ drop l.j (vector_at l.fn.outs l.port))
