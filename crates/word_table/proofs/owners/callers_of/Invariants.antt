use Rattle.std.specs.Prelude.{◌≡◌, ◌<◌, ◌+◌, ◌-◌, ℕ, length, drop, slice_index_or}
use Rattle.std.specs.List.{list_any, position_or_len}
use Rattle.executive_program.specs.Places.{calls}
use Rattle.word_table.proofs.owners.callers_of.Given as goal

abbrev pub invariant-loop-k : goal.invariant-loop-k
invariant-loop-k l = (length l.callers.items ≡ l.operations)
    × ((v : ℕ) → v < l.operations → slice_index_or l.callers.items v 0 ≡ (l.count - l.k) + position_or_len (λ q. list_any (calls v) q.turn) (drop (l.count - l.k) l.seqs))
