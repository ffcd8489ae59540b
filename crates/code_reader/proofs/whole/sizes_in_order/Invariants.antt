use Rattle.std.proofs.Common.{◌≡◌, map, take}
use Rattle.macro_code.specs.ReadText.{at_place, no_size}
use Rattle.code_reader.proofs.whole.sizes_in_order.Given as goal

abbrev pub invariant-loop-place : goal.invariant-loop-place
invariant-loop-place l = l.ordered.items ≡ map (at_place l.sizes no_size) (take l.place-index l.places)
