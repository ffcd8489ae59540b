use Rattle.std.proofs.Common.{◌≡◌, drop, vec_len}
use Rattle.sequence_build.specs.Plain.{waits_from}
use Rattle.sequence_build.proofs.site.Site.wait_all.Given as goal
use Rattle.sequence_build.proofs.Adding.{ComesTo}

-- what is left makes the whole
abbrev pub invariant-loop-place : goal.invariant-loop-place
invariant-loop-place l = record {
  many : vec_len l.loops ≡ vec_len l.fn.loops;
  left : ComesTo l.fn.loops.items l.loops.items (waits_from l.transfer l.place (drop l.place l.self.sequences.now)) (waits_from l.transfer 0 l.self.sequences.now);
}
