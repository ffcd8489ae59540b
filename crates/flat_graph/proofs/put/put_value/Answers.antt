use Rattle.std.proofs.Common.{[], ◌++◌, take, drop, ap, sym, arith, ◌∙◌, rules, w64, FitsSigned}
use Rattle.std.proofs.lemmas.Int.{to_z-of_z}
use Rattle.syn_base.specs.Rows.{with_value}
use Rattle.std.specs.Prelude.{slice_set, pos}
use Rattle.std.proofs.lemmas.List.{get_or-set_same}
use Rattle.body_lang.specs.Expr.{view, value_of, vector_of}
use Rattle.flat_graph.proofs.Fill.{fill, in_front, all_written, one_written, length-vector_of, element_of}
use Rattle.flat_graph.proofs.put.put_value.Goals as goal
use Rattle.syn_base.specs.Vectors.{vector_at}

pub set-requires-clause-place : goal.set-requires-clause-place
set-requires-clause-place c =
    let j = c.loop-j.j in
    let target = vector_of c.args.len (value_of (view c.args.e.now) c.args.ins.now) in
    let initial = vector_at c.args.outs.now c.args.port in
    let long = length-vector_of c.args.len (value_of (view c.args.e.now) c.args.ins.now) in
    rw (c.loop-j.invariant, get_or-set_same c.args.outs.now c.args.port (take j target ++ drop j initial) [] c.requires.port) (in_front target initial j (omega arith) (omega arith))

pub loop-j-preserved : goal.loop-j-preserved
loop-j-preserved c =
    let j = c.loop-j.j in
    let f = value_of (view c.args.e.now) c.args.ins.now in
    let target = vector_of c.args.len f in
    let initial = vector_at c.args.outs.now c.args.port in
    let long = length-vector_of c.args.len f in
    let fits : FitsSigned w64 c.value.result = search rules in
    c.set.ensures
    ∙ ap (λ x. with_value c.loop-j.outs c.args.port j x) (to_z-of_z w64 c.value.result fits)
    ∙ ap (λ vs. slice_set vs c.args.port (slice_set (vector_at vs c.args.port) j c.value.result)) c.loop-j.invariant
    ∙ one_written c.args.outs.now c.args.port c.requires.port (take j target ++ drop j initial) _ j c.value.result
    (fill target initial j (pos 0) c.value.result (omega arith) (omega arith) (c.value.ensures ∙ sym (element_of c.args.len f j c.loop-j-test.true)))

pub returns : goal.returns
returns c =
    let f = value_of (view c.args.e.now) c.args.ins.now in
    let target = vector_of c.args.len f in
    let initial = vector_at c.args.outs.now c.args.port in
    let long = length-vector_of c.args.len f in
    c.loop-j.invariant ∙ ap (slice_set c.args.outs.now c.args.port) (all_written target initial c.loop-j.j (omega arith) (omega arith))
