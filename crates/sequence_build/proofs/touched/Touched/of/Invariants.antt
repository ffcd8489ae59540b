use Rattle.std.proofs.Common.{drop}
use Rattle.std.specs.List.{flat_map}
use Rattle.sequence_build_laws.specs.Acts.{acts_of}
use Rattle.sequence_build.specs.Plain.{steps_at}
use Rattle.sequence_build.proofs.touched.Touched.of.Given as goal
use Rattle.sequence_build.proofs.Touching.{NotesUp}

-- what is left makes the whole
abbrev pub invariant-loop-decision : goal.invariant-loop-decision
invariant-loop-decision l = NotesUp l.initial.touched l.touched (flat_map (steps_at l.site) (acts_of (drop l.decision-index l.decisions))) (flat_map (steps_at l.site) (acts_of l.decisions))
