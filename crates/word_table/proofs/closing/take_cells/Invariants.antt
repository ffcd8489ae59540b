use Rattle.std.specs.Prelude.{◌≡◌, ◌<◌, ◌≤◌, ◌%◌, ℕ, Some, length, map, take, slice_get}
use Rattle.word_table.proofs.closing.take_cells.Given as goal
use Rattle.syn_base.specs.Vectors.{vector_at}

abbrev pub invariant-loop-cell : goal.invariant-loop-cell
invariant-loop-cell l = (length l.cells.items ≡ length l.initial.cells.items)
    × (l.others.items ≡ take (length l.others.items) l.initial.others.items)
    × (length l.others.items ≤ length l.initial.others.items)
    × ((d s : ℕ) → length l.others.items ≤ d → d < length l.initial.cells.items → slice_get l.owners d ≡ Some s → s % l.groups ≡ l.group
    → vector_at l.cells.items d ≡ vector_at (map (λ c. c.items) l.initial.others.items) d)
    × ((d s : ℕ) → slice_get l.owners d ≡ Some s → (s % l.groups ≡ l.group → ⊥) → vector_at l.cells.items d ≡ vector_at l.initial.cells.items d)

abbrev pub decreases-loop-cell : goal.decreases-loop-cell
decreases-loop-cell l = length l.others.items
