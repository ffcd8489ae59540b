use Rattle.std.proofs.Common.{◌≡◌, ℕ, ◌<◌, cond, nat_eq, drop, vec_len}
use Rattle.std.specs.List.{list_any}
use Rattle.sequence_build.specs.Uses.{noted, uses_at}
use Rattle.sequence_build.proofs.uses.note_reads.Given as goal

-- what is left to be noted makes the whole
abbrev pub invariant-loop-buffer : goal.invariant-loop-buffer
invariant-loop-buffer l = record {
  many : vec_len l.uses ≡ vec_len l.fn.uses;
  left : (b : ℕ) → b < vec_len l.fn.uses → cond (list_any (λ c. nat_eq c b) (drop l.buffer-index l.ins)) (noted l.place.sequence l.place.at (uses_at l.uses.items b)) (uses_at l.uses.items b)
      ≡ cond (list_any (λ c. nat_eq c b) l.ins) (noted l.place.sequence l.place.at (uses_at l.fn.uses.items b)) (uses_at l.fn.uses.items b);
}
