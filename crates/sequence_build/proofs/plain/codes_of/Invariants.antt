use Rattle.std.proofs.Common.{◌≡◌, ◌+◌, ◌++◌, drop, length}
use Rattle.std.specs.Vec.Iter.{into_iter_items}
use Rattle.sequence_build.specs.Plain.{codes_from}
use Rattle.sequence_build.proofs.plain.codes_of.Given as goal

-- what is left makes the whole
abbrev pub invariant-loop-turn : goal.invariant-loop-turn
invariant-loop-turn l = record {
  count : l.place + length (into_iter_items l.turn-iterator) ≡ length l.sequences;
  left : l.codes.items ++ codes_from (into_iter_items l.turn-iterator) (drop l.place l.sequences) ≡ codes_from l.fn.loops.items l.sequences;
}
