use Rattle.std.proofs.Common.{◌≡◌, ◌++◌, take, drop}
use Rattle.flat_laws.specs.Guarded.{own_guards as guards_owned}
use Rattle.conditioning.proofs.conditions.are_own.Given as goal

abbrev pub invariant-loop-at : goal.invariant-loop-at
invariant-loop-at l = take l.at l.guards ++ guards_owned l.at (drop l.at l.guards) ≡ guards_owned 0 l.guards
