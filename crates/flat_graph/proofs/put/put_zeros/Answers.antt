use Rattle.std.proofs.Common.{[], map, ap, sym, arith, ◌∙◌}
use Rattle.std.specs.Prelude.{slice_set}
use Rattle.std.proofs.lemmas.List.{length-map, get_or-map}
use Rattle.flat_graph.proofs.Fill.{fill, count_of_lens}
use Rattle.flat_graph.proofs.put.put_zeros.Goals as goal
use Rattle.syn_base.specs.Vectors.{zeros}

pub loop-port-preserved : goal.loop-port-preserved
loop-port-preserved c =
    let target = map zeros c.args.lens.now in
    let port = c.loop-port.port in
    let many = length-map c.args.lens.now zeros in
    let long = count_of_lens c.args.outs.now c.args.lens.now c.requires.lens in
    c.set_vector.ensures
    ∙ ap (λ vs. slice_set vs port c.zero_vector.result.now) c.loop-port.invariant
    ∙ fill target c.args.outs.now port [] c.zero_vector.result.now (omega arith) (omega arith) (c.zero_vector.ensures ∙ sym (get_or-map zeros c.args.lens.now port 0 [] c.loop-port-test.true))
