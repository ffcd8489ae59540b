use Rattle.std.proofs.Common.{◌≡◌, ◌++◌, drop, map}
use Rattle.macro_check.specs.Carrying.{further_in}
use Rattle.macro_check.proofs.carrying.further_each.Given as goal

abbrev pub invariant-loop-origin : goal.invariant-loop-origin
invariant-loop-origin l = l.all.items ++ map (further_in l.others) (drop l.origin-index l.first) ≡ map (further_in l.others) l.first
