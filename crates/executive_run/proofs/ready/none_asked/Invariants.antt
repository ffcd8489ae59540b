use Rattle.std.proofs.Common.{◌≡◌, vec_len}
use Rattle.executive_run.proofs.ready.none_asked.Given as goal

abbrev pub invariant-sequences : goal.invariant-sequences
invariant-sequences l = vec_len l.asked ≡ l._sequence
