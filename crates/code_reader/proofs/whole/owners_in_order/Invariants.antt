use Rattle.std.proofs.Common.{◌≡◌, map, take}
use Rattle.macro_code.specs.ReadText.{at_place}
use Rattle.code_reader.proofs.whole.owners_in_order.Given as goal

abbrev pub invariant-loop-place : goal.invariant-loop-place
invariant-loop-place l = l.ordered.items ≡ map (at_place l.owners 0) (take l.place-index l.places)
