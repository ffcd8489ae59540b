use Rattle.std.proofs.Common.{◌≡◌, ℕ, ◌<◌, cond, true, false, length, get_or, take}
use Rattle.std.specs.List.{list_any}
use Rattle.executive_program.specs.Instructions.{reads}
use Rattle.executive_program.proofs.pairs.mark_all_reads.Given as goal

abbrev pub invariant-loop-instr : goal.invariant-loop-instr
invariant-loop-instr l = record {
  same : length l.marks ≡ length l.initial.marks;
  each : (b : ℕ) → b < length l.initial.marks → get_or l.marks b false ≡ cond (list_any (reads b) (take l.instr-index l.list)) true (get_or l.initial.marks b false);
}
