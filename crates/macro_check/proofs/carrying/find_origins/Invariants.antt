use Rattle.std.proofs.Common.{◌≡◌, map}
use Rattle.std.specs.List.{range_with_len}
use Rattle.macro_check.specs.Carrying.{follow}
use Rattle.macro_check.proofs.carrying.find_origins.Given as goal

abbrev pub invariant-loop-buffer : goal.invariant-loop-buffer
invariant-loop-buffer l = l.all.items ≡ map (follow l.program 1) (range_with_len 0 l.buffer)
