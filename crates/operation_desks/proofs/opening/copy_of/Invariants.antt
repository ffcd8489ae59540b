use Rattle.std.proofs.Common.{◌≡◌, take, map}
use Rattle.operation_desks.proofs.opening.copy_of.Given as goal

abbrev pub invariant-loop-list : goal.invariant-loop-list
invariant-loop-list l = map (λ c. c.items) l.all.items ≡ take l.list-index l.lists
