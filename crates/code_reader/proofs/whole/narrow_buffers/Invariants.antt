use Rattle.std.proofs.Common.{◌≡◌, map, take}
use Rattle.macro_code.specs.ReadText.{sized}
use Rattle.code_reader.proofs.whole.narrow_buffers.Given as goal

abbrev pub invariant-loop-size : goal.invariant-loop-size
invariant-loop-size l = l.buffers.items ≡ map sized (take l.size-index l.sizes)
