use Rattle.std.proofs.Common.{◌≡◌, ℕ, ◌+◌, ◌<◌, ◌≤◌, length, get_or}
use Rattle.executive_program.specs.Meaning.{delay_number}
use Rattle.operation_desks.proofs.laying.delay_numbers.Given as goal

-- the numbers of the operations before this one, and its own
abbrev pub invariant-loop-v : goal.invariant-loop-v
invariant-loop-v l = (l.number ≡ delay_number l.vertices l.v) × (l.number ≤ l.v) × (length l.numbers.items ≡ l.v + 1)
    × ((k : ℕ) → k < length l.numbers.items → get_or l.numbers.items k 0 ≡ delay_number l.vertices k)
