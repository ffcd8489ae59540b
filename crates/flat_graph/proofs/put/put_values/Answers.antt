use Rattle.std.proofs.Common.{◌≡◌, [], map, ap, sym, arith, ◌∙◌}
use Rattle.std.specs.Prelude.{slice_index_or, slice_set}
use Rattle.std.proofs.lemmas.List.{length-map, get_or-map}
use Rattle.body_lang.specs.Expr.{view, function_outputs, value_of, vector_of}
use Rattle.flat_graph.proofs.Fill.{fill, in_front, all_written, len_at_seam, count_of_lens, function_at}
use Rattle.flat_graph.proofs.KindLens.{function_lens}
use Rattle.flat_graph.proofs.put.put_values.Goals as goal

pub put_value-requires-clause-port : goal.put_value-requires-clause-port
put_value-requires-clause-port c =
    let target = function_outputs c.args.lens.now (map view c.args.body.now) c.args.ins.now in
    let long = count_of_lens c.args.outs.now c.args.lens.now c.requires.lens in
    let many = count_of_lens target c.args.lens.now (function_lens c.args.lens.now (map view c.args.body.now) c.args.ins.now) in
    rw c.loop-port.invariant (in_front target c.args.outs.now c.loop-port.port (omega arith) (omega arith))

pub put_value-requires-clause-len : goal.put_value-requires-clause-len
put_value-requires-clause-len c =
    let target = function_outputs c.args.lens.now (map view c.args.body.now) c.args.ins.now in
    let many = count_of_lens target c.args.lens.now (function_lens c.args.lens.now (map view c.args.body.now) c.args.ins.now) in
    rw c.loop-port.invariant (len_at_seam target c.args.outs.now c.args.lens.now c.loop-port.port (omega arith) (omega arith) c.requires.lens)

pub loop-port-preserved : goal.loop-port-preserved
loop-port-preserved c =
    let port = c.loop-port.port in
    let es = map view c.args.body.now in
    let e = c.index-body-port.result in
    let target = function_outputs c.args.lens.now es c.args.ins.now in
    let long = count_of_lens c.args.outs.now c.args.lens.now c.requires.lens in
    let many = count_of_lens target c.args.lens.now (function_lens c.args.lens.now es c.args.ins.now) in
    let bodies = length-map c.args.body.now view in
    let here : slice_index_or es port (view e) ≡ view e = get_or-map view c.args.body.now port e (view e) c.loop-port-test.true ∙ ap view (sym c.index-body-port.is) in
    let vector = vector_of (slice_index_or c.args.lens.now port 0) (value_of (view e) c.args.ins.now) in
    let is_here : vector ≡ slice_index_or target port [] =
    ap (λ x. vector_of (slice_index_or c.args.lens.now port 0) (value_of x c.args.ins.now)) (sym here)
    ∙ sym (function_at c.args.lens.now es c.args.ins.now port (view e) (omega arith) (omega arith)) in
    c.put_value.ensures
    ∙ ap (λ vs. slice_set vs port vector) c.loop-port.invariant
    ∙ fill target c.args.outs.now port [] vector (omega arith) (omega arith) is_here

pub returns : goal.returns
returns c =
    let target = function_outputs c.args.lens.now (map view c.args.body.now) c.args.ins.now in
    let long = count_of_lens c.args.outs.now c.args.lens.now c.requires.lens in
    let many = count_of_lens target c.args.lens.now (function_lens c.args.lens.now (map view c.args.body.now) c.args.ins.now) in
    c.loop-port.invariant ∙ all_written target c.args.outs.now c.loop-port.port (omega arith) (omega arith)
