use Rattle.std.proofs.Common.{◌≡◌, ◌+◌, take}
use Rattle.std.specs.Prelude.{sum}
use Rattle.flat_graph.proofs.lengths.adds_up.Given as goal

-- what is left, and the parts so far
abbrev pub invariant-loop-part : goal.invariant-loop-part
invariant-loop-part l = l.left + sum (take l.part-index l.parts) ≡ l.len
