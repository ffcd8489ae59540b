use Rattle.std.proofs.Common.{◌≡◌, ℕ, ◌<◌, true}
use Rattle.program_walks.specs.Buffers.{is_buffer}
use Rattle.program_tables.proofs.buffers.are_buffers.Given as goal

abbrev pub invariant-loop-buffer : goal.invariant-loop-buffer
invariant-loop-buffer l = (b : ℕ) → b < l.buffer → is_buffer l.program b ≡ true
