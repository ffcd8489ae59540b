-- One more decision.
use Rattle.std.proofs.Common.{List, [], ◌∷◌, drop, ◌+◌, ◌∙◌, ap, arith}
use Rattle.std.specs.List.{flat_map}
use Rattle.sequence_build_laws.specs.Acts.{acts_of}
use Rattle.sequence_build_laws.specs.Serial.{Step, projection}
use Rattle.sequence_build.specs.Plain.{loop_at, steps_at}
use Rattle.sequence_build_laws.proofs.Guarded.{projection-append}
use Rattle.sequence_build.proofs.Appending.{appended, acts_left}
use Rattle.sequence_build.proofs.site.Site.loops.Goals as goal

pub loop-decision-preserved : goal.loop-decision-preserved
loop-decision-preserved c =
    let ds = c.args.decisions.now in
    let k = c.loop-decision.decision-index in
    let d = c.decision-item.result in
    let one = flat_map (steps_at c.args.self.now) (acts_of (d ∷ [])) in
    let rest = flat_map (steps_at c.args.self.now) (acts_of (drop (k + 1) ds)) in
    record {
      many = c.take.ensures.many ∙ c.loop-decision.invariant.many;
      left = λ s h.
          let there = c.take.ensures.many in
          appended (projection one s) (projection rest s) (projection (flat_map (steps_at c.args.self.now) (acts_of (drop k ds))) s)
          (loop_at c.loop-decision.loops.items s) (loop_at c.take.new.loops.items s) _
          (ap (λ (l : List Step). projection l s) (acts_left (steps_at c.args.self.now) ds k d c.loop-decision-test.true c.decision-item.is) ∙ projection-append one rest s)
          (c.in_ok-take.ensures.adds s (omega arith)) (c.loop-decision.invariant.left s (omega arith));
    }
