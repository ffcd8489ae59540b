use Rattle.std.proofs.Common.{◌≡◌, ◌+◌, drop}
use Rattle.std.specs.List.{position_or_len}
use Rattle.sequence_build_laws.specs.Serial.{same_seq}
use Rattle.sequence_build.proofs.site.find.Given as goal

-- the first is not among those before
abbrev pub invariant-loop-place : goal.invariant-loop-place
invariant-loop-place l = l.place + position_or_len (same_seq l.seq) (drop l.place l.sequences) ≡ position_or_len (same_seq l.seq) l.sequences
