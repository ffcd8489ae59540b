use Rattle.std.proofs.Common.{◌≡◌, ℕ, ◌<◌, false, length}
use Rattle.executive_run.specs.Sharing.{meet}
use Rattle.executive_run.proofs.busy.keeps_apart.Given as goal

abbrev pub invariant-loop-s : goal.invariant-loop-s
invariant-loop-s l = (k t : ℕ) → k < l.s → t < length l.seqs → meet l.seqs l.few l.many k t ≡ false
