use Rattle.std.proofs.Common.{◌≡◌, drop}
use Rattle.std.specs.List.{list_all}
use Rattle.macro_check.specs.Tabled.{other_waits}
use Rattle.macro_check.proofs.moving.all_wait.Given as goal

abbrev pub invariant-loop-mark : goal.invariant-loop-mark
invariant-loop-mark l = list_all (other_waits l.program l.number l.moved.sender l.moved.receiver) (drop l.mark-index l.communicators)
    ≡ list_all (other_waits l.program l.number l.moved.sender l.moved.receiver) l.communicators
