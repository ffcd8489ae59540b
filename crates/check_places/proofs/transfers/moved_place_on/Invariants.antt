use Rattle.std.proofs.Common.{◌≡◌, ℕ, ◌<◌, None}
use Rattle.check_places.specs.Transfers.{moved_place}
use Rattle.check_places.proofs.transfers.moved_place_on.Given as goal

-- none before gives a place
abbrev pub invariant-loop-number : goal.invariant-loop-number
invariant-loop-number l = (t : ℕ) → t < l.number → moved_place l.program l.fn.medium t ≡ None
