-- One more decision.
use Rattle.std.proofs.Common.{List, subst}
use Rattle.std.specs.List.{flat_map}
use Rattle.sequence_build_laws.specs.Acts.{Copy, acts_of, made_by}
use Rattle.sequence_build.proofs.Adding.{makes_next, MakesUp}
use Rattle.sequence_build.proofs.Appending.{acts_left}
use Rattle.sequence_build.proofs.made.made_of.Goals as goal

pub loop-decision-preserved : goal.loop-decision-preserved
loop-decision-preserved c =
    let vs = c.args.vertices.now in
    let ds = c.args.decisions.now in
    makes_next
    (subst (λ (l : List Copy). MakesUp vs c.new-made.result c.loop-decision.made l (flat_map (made_by vs) (acts_of ds)))
    (acts_left (made_by vs) ds c.loop-decision.decision-index c.decision-item.result c.loop-decision-test.true c.decision-item.is)
    c.loop-decision.invariant)
    c.in_ok-take.ensures
