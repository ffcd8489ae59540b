use Rattle.std.proofs.Common.{◌≡◌, ℕ, ◌+◌, ◌<◌, ◌≤◌, cond, false, length, get_or}
use Rattle.executive_program.proofs.pairs.add_marks.Given as goal

abbrev pub invariant-loop-b : goal.invariant-loop-b
invariant-loop-b l = record {
  same : length l.counts ≡ length l.initial.counts;
  done : (b : ℕ) → b < l.b → get_or l.counts b 0 ≡ get_or l.initial.counts b 0 + cond (get_or l.marks b false) 1 0;
  rest : (b : ℕ) → l.b ≤ b → get_or l.counts b 0 ≡ get_or l.initial.counts b 0;
}
