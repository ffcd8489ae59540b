use Rattle.std.proofs.Common.{◌≡◌, ℕ, ◌<◌, None}
use Rattle.check_places.specs.Buffers.{made_place}
use Rattle.check_places.proofs.values.first_made.Given as goal

-- none before gives a place
abbrev pub invariant-loop-buffer : goal.invariant-loop-buffer
invariant-loop-buffer l = (b : ℕ) → b < l.buffer → made_place l.carried.program.now b ≡ None
