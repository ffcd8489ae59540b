-- Counts of faults.
use Rattle.std.specs.Prelude.{ℕ, ◌+◌, ◌-◌, ◌^◌, ◌≤◌, min}

-- The last value of a count, where it stands still.
abbrev pub last_count : ℕ
last_count = 2 ^ 64 - 1

-- The count after one more.
abbrev pub raised : ℕ → ℕ
raised count = min (count + 1) last_count

-- A count rose, or stands at its last value.
abbrev pub Rose : ℕ → ℕ → Type 0
Rose old new = raised old ≤ new
