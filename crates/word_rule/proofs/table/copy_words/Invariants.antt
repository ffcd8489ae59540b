use Rattle.std.specs.Prelude.{◌≡◌, ◌<◌, ◌+◌, ℕ, length, slice_index_or}
use Rattle.std.specs.Mem.Slots.{slots_items}
use Rattle.word_rule.proofs.table.copy_words.Given as goal

abbrev pub invariant-loop-i : goal.invariant-loop-i
invariant-loop-i l = (length l.words.items ≡ l.len) × ((k : ℕ) → k < l.i → slice_index_or l.words.items k 0 ≡ slice_index_or (slots_items l.closed.words) (k + 1) 0)
