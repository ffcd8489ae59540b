use Rattle.std.proofs.Common.{◌≡◌, ℕ, ◌<◌, None}
use Rattle.check_places.specs.Buffers.{buffer_place}
use Rattle.check_places.proofs.buffers.written_place.Given as goal

-- none before gives a place
abbrev pub invariant-loop-buffer : goal.invariant-loop-buffer
invariant-loop-buffer l = (b : ℕ) → b < l.buffer → buffer_place l.program b ≡ None
