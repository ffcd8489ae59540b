use Rattle.std.proofs.Common.{◌≡◌, ℕ, ◌<◌, ◌++◌, drop, length, vec_len}
use Rattle.std.specs.List.{flat_map}
use Rattle.sequence_build_laws.specs.Acts.{acts_of}
use Rattle.sequence_build_laws.specs.Serial.{projection}
use Rattle.sequence_build.specs.Plain.{loop_at, steps_at}
use Rattle.sequence_build.proofs.site.Site.loops.Given as goal

-- what is left makes the whole
abbrev pub invariant-loop-decision : goal.invariant-loop-decision
invariant-loop-decision l = record {
  many : vec_len l.loops ≡ length l.self.sequences.now;
  left : (s : ℕ) → s < vec_len l.loops → loop_at l.loops.items s
      ++ projection (flat_map (steps_at l.self) (acts_of (drop l.decision-index l.decisions))) s
      ≡ projection (flat_map (steps_at l.self) (acts_of l.decisions)) s;
}
