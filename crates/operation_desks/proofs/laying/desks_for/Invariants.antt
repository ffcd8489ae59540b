use Rattle.std.proofs.Common.{map, get_or, false}
use Rattle.std.specs.Option.{option_map}
use Rattle.operation_desks.specs.Desk.{lens_of_desk}
use Rattle.operation_desks.specs.Desk.{AreDesks}
use Rattle.operation_desks.proofs.laying.desks_for.Given as goal

abbrev pub invariant-loop-v : goal.invariant-loop-v
invariant-loop-v l = AreDesks l.flat (λ v. get_or l.mine v false) l.v (map (option_map lens_of_desk) l.desks.items)
