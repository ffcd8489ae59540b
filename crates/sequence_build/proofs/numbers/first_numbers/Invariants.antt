use Rattle.std.proofs.Common.{◌≡◌, ℕ, ◌+◌, ◌<◌, ◌≤◌, nat_eq, length, slice_index_or, drop}
use Rattle.std.specs.List.{position_or_len}
use Rattle.sequence_build.proofs.numbers.first_numbers.Given as goal

-- of each place, the first of those from this number on
abbrev pub invariant-loop-number : goal.invariant-loop-number
invariant-loop-number l = (length l.table.items ≡ l.size) × (l.number ≤ length l.places)
    × ((k : ℕ) → k < l.size → slice_index_or l.table.items k 0 ≡ l.number + position_or_len (nat_eq k) (drop l.number l.places))
