use Rattle.std.specs.Prelude.{◌≡◌, ◌<◌, ℕ, cond, length, drop, slice_index_or}
use Rattle.std.specs.List.{list_any}
use Rattle.executive_program.specs.Places.{calls}
use Rattle.word_table.proofs.owners.put_calls.Given as goal

abbrev pub invariant-loop-instr : goal.invariant-loop-instr
invariant-loop-instr l = (length l.callers.items ≡ length l.initial.callers.items)
    × ((v : ℕ) → v < length l.initial.callers.items
    → cond (list_any (calls v) (drop l.instr-index l.turn)) l.seq (slice_index_or l.callers.items v 0)
    ≡ cond (list_any (calls v) l.turn) l.seq (slice_index_or l.initial.callers.items v 0))
