-- Part by part.
use Rattle.std.proofs.Common.{◌∙◌}
use Rattle.sequence_build_laws.specs.MicroSteps.{first_of}
use Rattle.check_places.proofs.calls.call_place_at.Goals as goal

pub returns : goal.returns
returns c = c.first_of-2.ensures ∙ (λ i. first_of (c.again_place.ensures i) ((c.first_of.ensures ∙ (λ j. first_of (c.thread_place.ensures j) (c.twin_place.ensures j))) i))
