use Rattle.std.proofs.Common.{◌≡◌, max, drop}
use Rattle.sequence_build_laws.specs.Acts.{acts_of}
use Rattle.sequence_build.specs.Plain.{numbering}
use Rattle.sequence_build.specs.Counted.{longest}
use Rattle.sequence_build.proofs.counted.wire_len.Given as goal

abbrev pub invariant-loop-decision : goal.invariant-loop-decision
invariant-loop-decision l = max l.longest (longest l.bare (numbering l.site) l.medium (acts_of (drop l.decision-index l.decisions))) ≡ longest l.bare (numbering l.site) l.medium (acts_of l.decisions)
