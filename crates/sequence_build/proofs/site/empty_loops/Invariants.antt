use Rattle.std.proofs.Common.{◌≡◌, ℕ, [], vec_len}
use Rattle.sequence_build.specs.Plain.{loop_at}
use Rattle.sequence_build.proofs.site.empty_loops.Given as goal

-- none has an instruction
abbrev pub invariant-loop : goal.invariant-loop
invariant-loop l = record {
  many : vec_len l.loops ≡ l.counter;
  none : (s : ℕ) → loop_at l.loops.items s ≡ [];
}
