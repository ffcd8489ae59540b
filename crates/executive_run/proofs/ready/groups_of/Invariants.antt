use Rattle.std.proofs.Common.{◌≡◌, ◌+◌, vec_len}
use Rattle.std.specs.Vec.Iter.{into_iter_items, into_iter_len}
use Rattle.executive_run.specs.Each.{Each}
use Rattle.executive_run.specs.Groups.{Belongs}
use Rattle.executive_run.proofs.Driving.{IsNext}
use Rattle.executive_run.proofs.ready.groups_of.Given as goal

-- the drivers that are left are of the groups after those that were made
abbrev pub invariant-loop-driver : goal.invariant-loop-driver
invariant-loop-driver l =
    (vec_len l.groups + into_iter_len l.driver-iterator ≡ l.fabric.groups)
    × Each (Belongs l.fabric) l.groups.items
    × Each (λ k. IsNext l.fabric (vec_len l.groups + k)) (into_iter_items l.driver-iterator)
