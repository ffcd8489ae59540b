use Rattle.std.proofs.Common.{drop}
use Rattle.hierarchy.proofs.Staying.{StayGuarded}
use Rattle.hierarchy.proofs.unchanged.+has_no_case.Given as goal

abbrev pub invariant-loop-inner : goal.invariant-loop-inner
invariant-loop-inner l = StayGuarded (drop l.inner-index l.inner-items) → StayGuarded l.inner-items
