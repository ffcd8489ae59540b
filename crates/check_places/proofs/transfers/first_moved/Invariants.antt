use Rattle.std.proofs.Common.{◌≡◌, ℕ, ◌<◌, None}
use Rattle.check_places.specs.Transfers.{first_on, moved_place}
use Rattle.check_places.proofs.transfers.first_moved.Given as goal

-- none before gives a place
abbrev pub invariant-loop-medium : goal.invariant-loop-medium
invariant-loop-medium l = (m : ℕ) → m < l.medium → first_on l.program (moved_place l.program) m ≡ None
