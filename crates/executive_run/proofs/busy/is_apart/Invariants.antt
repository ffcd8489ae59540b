use Rattle.std.proofs.Common.{◌≡◌, ℕ, ◌<◌, false}
use Rattle.executive_run.specs.Sharing.{meet}
use Rattle.executive_run.proofs.busy.is_apart.Given as goal

abbrev pub invariant-loop-t : goal.invariant-loop-t
invariant-loop-t l = (k : ℕ) → k < l.t → meet l.seqs l.few l.many l.s k ≡ false
