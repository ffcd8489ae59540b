-- One more decision.
use Rattle.std.proofs.Common.{map, ap, ◌∙◌}
use Rattle.sequence_build_laws.specs.Acts.{carry}
use Rattle.sequence_build.specs.Plain.{numbering}
use Rattle.sequence_build.specs.Counted.{longest}
use Rattle.sequence_build.proofs.Micros.{wire_more}
use Rattle.sequence_build.proofs.counted.wire_len.Goals as goal

pub loop-decision-preserved : goal.loop-decision-preserved
loop-decision-preserved c =
    wire_more c.args.bare.now (numbering c.args.site.now) c.args.medium c.args.decisions.now c.loop-decision.decision-index c.decision-item.result c.longest_carried.result c.loop-decision.longest _ _
    c.loop-decision-test.true c.decision-item.is
    (c.longest_carried.ensures ∙ ap
    (λ l. longest c.args.bare.now (numbering c.args.site.now) c.args.medium
    (map carry l)) c.as_slice.ensures) c.max-longest.ensures c.loop-decision.invariant
