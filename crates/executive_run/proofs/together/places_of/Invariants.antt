use Rattle.std.proofs.Common.{◌≡◌, ◌+◌, ◌≤◌, vec_len, vec_capacity}
use Rattle.std.specs.Vec.Iter.{into_iter_items, into_iter_len}
use Rattle.executive_run.specs.Each.{Each}
use Rattle.executive_run.specs.Groups.{Belongs}
use Rattle.executive_run.specs.Places.{IsPlaceOf}
use Rattle.executive_run.proofs.together.places_of.Given as goal

-- the groups that are left are those after the places that were made
abbrev pub invariant-loop-group : goal.invariant-loop-group
invariant-loop-group l =
    (vec_len l.places + into_iter_len l.group-iterator ≡ l.fabric.groups)
    × (l.fabric.groups ≤ vec_capacity l.places)
    × Each (IsPlaceOf l.fabric) l.places.items
    × Each (λ k. Belongs l.fabric (vec_len l.places + k)) (into_iter_items l.group-iterator)
