use Rattle.std.proofs.Common.{◌≡◌, ℕ, ◌<◌, None}
use Rattle.check_places.specs.Transfers.{first_on}
use Rattle.check_places.specs.Buffers.{kept_place}
use Rattle.check_places.proofs.values.first_kept.Given as goal

-- none before gives a place
abbrev pub invariant-loop-medium : goal.invariant-loop-medium
invariant-loop-medium l = (m : ℕ) → m < l.medium → first_on l.carried.program.now (kept_place l.carried.program.now) m ≡ None
