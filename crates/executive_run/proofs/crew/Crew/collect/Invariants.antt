use Rattle.std.proofs.Common.{◌≡◌, ◌≤◌, vec_len, vec_capacity}
use Rattle.executive_run.specs.Each.{Each}
use Rattle.executive_run.proofs.Driving.{IsDrivenAt}
use Rattle.executive_run.proofs.crew.Crew.collect.Given as goal

abbrev pub invariant-loop-number : goal.invariant-loop-number
invariant-loop-number g l =
    (vec_len l.done ≡ l.number)
    × (l.self.fabric.now.groups ≤ vec_capacity l.done)
    × Each (IsDrivenAt l.self.fabric.now) l.done.items
