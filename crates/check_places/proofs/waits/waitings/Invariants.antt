use Rattle.std.proofs.Common.{◌≡◌, ◌++◌, drop, map}
use Rattle.macro_check.specs.Awaiting.{place_of}
use Rattle.check_places.specs.Waits.{waitings}
use Rattle.check_places.proofs.waits.waitings.Given as goal

-- what was made and what is left make the whole
abbrev pub invariant-loop-stop : goal.invariant-loop-stop
invariant-loop-stop l = l.all.items ++ waitings l.program (map place_of (drop l.stop-index l.stops)) ≡ waitings l.program (map place_of l.stops)
