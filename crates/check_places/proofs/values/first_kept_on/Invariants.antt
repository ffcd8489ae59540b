use Rattle.std.proofs.Common.{◌≡◌, ℕ, ◌<◌, None}
use Rattle.check_places.specs.Buffers.{kept_place}
use Rattle.check_places.proofs.values.first_kept_on.Given as goal

-- none before gives a place
abbrev pub invariant-loop-number : goal.invariant-loop-number
invariant-loop-number l = (t : ℕ) → t < l.number → kept_place l.carried.program.now l.fn.medium t ≡ None
