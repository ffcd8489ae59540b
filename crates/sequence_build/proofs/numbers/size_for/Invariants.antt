use Rattle.std.proofs.Common.{◌≡◌, ℕ, ◌+◌, ◌≤◌, nat_eq, length, drop}
use Rattle.std.specs.List.{position_or_len}
use Rattle.sequence_build.proofs.numbers.size_for.Given as goal

-- beyond the size, none of those from this number on
abbrev pub invariant-loop-number : goal.invariant-loop-number
invariant-loop-number l = (l.number ≤ length l.places) × ((k : ℕ) → l.size ≤ k → l.number + position_or_len (nat_eq k) (drop l.number l.places) ≡ length l.places)
