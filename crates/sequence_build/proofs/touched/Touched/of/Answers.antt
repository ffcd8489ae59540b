-- One more decision.
use Rattle.std.proofs.Common.{List, subst, arith}
use Rattle.std.specs.List.{flat_map}
use Rattle.std.proofs.lemmas.List.{at_drop_all}
use Rattle.sequence_build_laws.specs.declared.Decision.{Decision}
use Rattle.sequence_build_laws.specs.Acts.{acts_of}
use Rattle.sequence_build_laws.specs.Serial.{Step}
use Rattle.sequence_build.specs.Plain.{steps_at}
use Rattle.sequence_build.proofs.Appending.{acts_left}
use Rattle.sequence_build.proofs.Touching.{noted_all, notes_all, notes_next, NotesUp}
use Rattle.sequence_build.proofs.touched.Touched.of.Goals as goal

pub loop-decision-preserved : goal.loop-decision-preserved
loop-decision-preserved c =
    let ds = c.args.decisions.now in
    notes_next
    (subst (λ (l : List Step). NotesUp c.in_ok-touched.touched c.loop-decision.touched l (flat_map (steps_at c.args.site.now) (acts_of ds)))
    (acts_left (steps_at c.args.site.now) ds c.loop-decision.decision-index c.decision-item.result c.loop-decision-test.true c.decision-item.is) c.loop-decision.invariant)
    c.in_ok-take.ensures

pub returns : goal.returns
returns c =
    let ds = c.args.decisions.now in
    noted_all c.args.width c.args.site.now.copies (flat_map (steps_at c.args.site.now) (acts_of ds)) c.in_ok-touched.touched c.loop-decision.touched
    c.in_ok-touched.ensures.width c.in_ok-touched.ensures.reads c.in_ok-touched.ensures.writes
    (notes_all (subst (λ (l : List Step). NotesUp c.in_ok-touched.touched c.loop-decision.touched l (flat_map (steps_at c.args.site.now) (acts_of ds)))
    (at_drop_all (λ (xs : List Decision). flat_map (steps_at c.args.site.now) (acts_of xs)) ds c.loop-decision.decision-index (omega (arith, c.loop-decision-test.false))) c.loop-decision.invariant))
