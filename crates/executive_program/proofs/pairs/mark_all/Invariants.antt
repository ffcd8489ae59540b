use Rattle.std.proofs.Common.{◌≡◌, ℕ, ◌<◌, cond, false, nat_eq, length, get_or, take}
use Rattle.std.specs.List.{list_any}
use Rattle.executive_program.proofs.pairs.mark_all.Given as goal

abbrev pub invariant-loop-buffer : goal.invariant-loop-buffer
invariant-loop-buffer l = record {
  same : length l.marks ≡ length l.initial.marks;
  each : (b : ℕ) → b < length l.initial.marks → get_or l.marks b false ≡ cond (list_any (λ c. nat_eq c b) (take l.buffer-index l.buffers)) l.mark (get_or l.initial.marks b false);
}
