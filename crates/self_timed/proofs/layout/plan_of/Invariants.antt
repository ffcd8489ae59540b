use Rattle.std.proofs.Common.{◌≡◌, drop}
use Rattle.sequence_build_laws.specs.Acts.{acts_of}
use Rattle.self_timed.specs.Laid.{HasShape, after_all, started}
use Rattle.self_timed.proofs.layout.plan_of.Given as goal

-- what is left of the decisions completes the acts
abbrev pub invariant-loop-decision : goal.invariant-loop-decision
invariant-loop-decision l = record {
  shape : HasShape l.layout.vertices l.layout.makers;
  vertices : l.layout.vertices ≡ l.vertices;
  left : after_all (started l.vertices) (acts_of l.decisions) ≡ after_all l.layout (acts_of (drop l.decision-index l.decisions));
}
