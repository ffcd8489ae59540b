use Rattle.std.proofs.Common.{◌≡◌, ◌++◌}
use Rattle.load_texts.specs.Algorithm.{references_of_layers}
use Rattle.load_texts.proofs.layers.append_references_of_layers.Given as goal

-- the references of the layers so far are appended
abbrev pub invariant-loop-below : goal.invariant-loop-below
invariant-loop-below l = l.out.items ≡ l.fn.out.items ++ references_of_layers l.below
