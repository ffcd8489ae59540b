use Rattle.std.specs.Prelude.{◌≡◌, ◌<◌, ◌%◌, ℕ, length, slice_index_or}
use Rattle.word_table.proofs.closing.take_counts.Given as goal

abbrev pub invariant-loop-s : goal.invariant-loop-s
invariant-loop-s l = (length l.counts.items ≡ length l.initial.counts.items)
    × ((t : ℕ) → t < l.s → t % l.groups ≡ l.group → slice_index_or l.counts.items t 0 ≡ slice_index_or l.others t 0)
    × ((t : ℕ) → (t % l.groups ≡ l.group → ⊥) → slice_index_or l.counts.items t 0 ≡ slice_index_or l.initial.counts.items t 0)
