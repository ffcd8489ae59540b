use Rattle.std.proofs.Common.{drop}
use Rattle.std.specs.List.{flat_map}
use Rattle.sequence_build_laws.specs.Acts.{acts_of, made_by}
use Rattle.sequence_build.proofs.made.made_of.Given as goal
use Rattle.sequence_build.proofs.Adding.{MakesUp}

-- what is left makes the whole
abbrev pub invariant-loop-decision : goal.invariant-loop-decision
invariant-loop-decision l = MakesUp l.vertices l.initial.made l.made (flat_map (made_by l.vertices) (acts_of (drop l.decision-index l.decisions))) (flat_map (made_by l.vertices) (acts_of l.decisions))
