use Rattle.std.proofs.Common.{◌≡◌, ℕ, ◌<◌, cond, false, length, get_or, take}
use Rattle.std.specs.List.{list_any}
use Rattle.executive_program.specs.Instructions.{writes}
use Rattle.executive_program.proofs.pairs.unmark_all_writes.Given as goal

abbrev pub invariant-loop-instr : goal.invariant-loop-instr
invariant-loop-instr l = record {
  same : length l.marks ≡ length l.initial.marks;
  each : (b : ℕ) → b < length l.initial.marks → get_or l.marks b false ≡ cond (list_any (writes b) (take l.instr-index l.list)) false (get_or l.initial.marks b false);
}
