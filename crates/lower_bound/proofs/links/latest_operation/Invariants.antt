use Rattle.std.proofs.Common.{◌≡◌, ◌-◌, length}
use Rattle.std.specs.List.{range_with_len}
use Rattle.lower_bound.specs.Chain.{first_at}
use Rattle.lower_bound.specs.Turns.{at}
use Rattle.lower_bound.proofs.links.latest_operation.Given as goal

-- the first of the operations that are left is that of all
abbrev pub invariant-loop-op : goal.invariant-loop-op
invariant-loop-op l = first_at (at l.ends) l.latest (range_with_len 0 (length l.ends)) ≡ first_at (at l.ends) l.latest (range_with_len l.op (length l.ends - l.op))
