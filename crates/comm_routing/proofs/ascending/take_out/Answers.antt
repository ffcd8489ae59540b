use Rattle.std.proofs.Common.{◌+◌, ◌++◌, ap, arith, drop, length, refl, take, ◌∙◌}
use Rattle.std.proofs.lemmas.List.{length-set}
use Rattle.comm_routing.specs.Ascending.{without_place}
use Rattle.comm_routing.proofs.Ordered.{other_left, this_gone}
use Rattle.comm_routing.proofs.ascending.take_out.Goals as goal
use Rattle.comm_routing.proofs.ascending.take_out.Goals.{then-other-op, else-other-op}

pub loop-place-preserved : goal.loop-place-preserved
loop-place-preserved c =
    let l = c.loop-place in
    let size = c.loop-place.invariant.size in
    let within = c.loop-place.invariant.within in
    let more = c.loop-place-test.true in
    let room = c.requires in
    elim c.if-other-op.branch [
      | then-other-op w ↦ (let e = w.left-is in record {
        size = ap length w.ready-is ∙ length-set c.loop-place.ready c.loop-place.left _ ∙ size;
        within = omega arith;
        left = (λ i. take c.if-other-op.left (w.ready-is i) ++ without_place c.args.op (drop (c.loop-place.place + 1) (take c.args.count (w.ready-is i))))
            ∙ other_left c.loop-place.ready c.loop-place.left c.if-other-op.left c.loop-place.place
            (c.loop-place.place + 1) c.args.count c.args.op _ within more (omega arith) (omega arith) (omega arith) refl w.if-other-op.true
            ∙ c.loop-place.invariant.left;
      })
      | else-other-op w ↦ (let e = w.left-is in record {
        size = ap length w.ready-is ∙ size;
        within = omega arith;
        left = (λ i. take (w.left-is i) (w.ready-is i) ++ without_place c.args.op (drop (c.loop-place.place + 1) (take c.args.count (w.ready-is i))))
            ∙ this_gone c.loop-place.ready c.loop-place.left c.loop-place.place (c.loop-place.place + 1) c.args.count c.args.op _ more (omega arith) (omega arith) refl w.if-other-op.false
            ∙ c.loop-place.invariant.left;
      })
    ]
