use Rattle.std.proofs.Common.{drop}
use Rattle.hierarchy.proofs.Staying.{StayUnrolled}
use Rattle.hierarchy.proofs.unchanged.+has_no_repeat.Given as goal

abbrev pub invariant-loop-inner : goal.invariant-loop-inner
invariant-loop-inner l = StayUnrolled (drop l.inner-index l.inner-items) → StayUnrolled l.inner-items
