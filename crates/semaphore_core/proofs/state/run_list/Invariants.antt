use Rattle.std.proofs.Common.{◌≡◌, take}
use Rattle.semaphore_core.specs.Core.{run_from}
use Rattle.semaphore_core.specs.Held.{IsOpened}
use Rattle.semaphore_core.proofs.state.run_list.Given as goal

abbrev pub invariant-loop-seq : goal.invariant-loop-seq
invariant-loop-seq l = record {
  runs : l.state ≡ record l.initial.state { core = run_from l.job l.initial.state.core (take l.seq-index l.list) };
  opened : IsOpened l.job l.state;
}
