use Rattle.std.proofs.Common.{◌≡◌, sym, ◌∙◌}
use Rattle.self_timed.specs.Table.{entry_in}
use Rattle.lower_bound.specs.Bound.{end_on}
use Rattle.lower_bound.specs.Turns.{at}
use Rattle.lower_bound.proofs.Lesser.{least_more}
use Rattle.lower_bound.proofs.arrivals.first_end.Goals as goal
use Rattle.syn_base.specs.Numbers.{lesser}

pub loop-operator-preserved : goal.loop-operator-preserved
loop-operator-preserved c =
    let d = c.args.durations.now in
    c.lesser-first.ensures
    ∙ (λ i. lesser (c.loop-operator.invariant i) (c.end_on-end.ensures i))
    ∙ sym (least_more (end_on d.operators (entry_in d) c.args.vertices.now c.args.media.now (at c.args.ends.now) c.args.op) c.loop-operator.operator)
