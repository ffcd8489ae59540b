use Rattle.std.proofs.Common.{◌≡◌, ◌+◌, ◌≤◌, vec_len, vec_capacity}
use Rattle.std.specs.Vec.Iter.{into_iter_items, into_iter_len}
use Rattle.executive_run.specs.Each.{Each}
use Rattle.executive_run.proofs.Driving.{IsDone, IsDrivenAt}
use Rattle.executive_run.proofs.together.drivers_of.Given as goal

-- the groups that are left are those after the drivers that were taken
abbrev pub invariant-loop-group : goal.invariant-loop-group
invariant-loop-group l =
    (vec_len l.drivers + into_iter_len l.group-iterator ≡ l.fabric.groups)
    × (l.fabric.groups ≤ vec_capacity l.drivers)
    × Each (IsDone l.fabric) l.drivers.items
    × Each (λ k. IsDrivenAt l.fabric (vec_len l.drivers + k)) (into_iter_items l.group-iterator)
