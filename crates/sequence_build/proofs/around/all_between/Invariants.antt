use Rattle.std.proofs.Common.{◌≡◌, ◌+◌, ◌++◌, length}
use Rattle.std.specs.Vec.Iter.{into_iter_items}
use Rattle.sequence_build.specs.Around.{all_between}
use Rattle.sequence_build.proofs.around.all_between.Given as goal

-- what is left makes the whole
abbrev pub invariant-loop-instr : goal.invariant-loop-instr
invariant-loop-instr l = record {
  count : l.at + length (into_iter_items l.instr-iterator) ≡ length l.fn.turn.items;
  left : l.out.items ++ all_between l.around l.at (into_iter_items l.instr-iterator) ≡ all_between l.around 0 l.fn.turn.items;
}
