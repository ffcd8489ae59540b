use Rattle.std.proofs.Common.{◌≡◌, ℕ, ◌<◌, cond, nat_eq, drop, length, Some}
use Rattle.std.specs.List.{list_any}
use Rattle.sequence_build.specs.Uses.{write_at}
use Rattle.sequence_build.proofs.uses.note_writes.Given as goal

-- what is left to be noted makes the whole
abbrev pub invariant-loop-buffer : goal.invariant-loop-buffer
invariant-loop-buffer l = record {
  many : length l.places ≡ length l.fn.places;
  left : (b : ℕ) → b < length l.fn.places
      → cond (list_any (λ c. nat_eq c b) (drop l.buffer-index l.outs)) (Some l.place) (write_at l.places b)
      ≡ cond (list_any (λ c. nat_eq c b) l.outs) (Some l.place) (write_at l.fn.places b);
}
