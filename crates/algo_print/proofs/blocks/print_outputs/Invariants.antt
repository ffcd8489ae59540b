use Rattle.std.proofs.Common.{◌≡◌, ◌++◌, drop, map}
use Rattle.algo_print.specs.Canonical.{text_of, output_words}
use Rattle.algo_print.proofs.blocks.print_outputs.Given as goal

abbrev pub invariant-loop-output : goal.invariant-loop-output
invariant-loop-output l = l.text.items ++ text_of (map (output_words l.ins) (drop l.output-index l.outputs)) ≡ l.initial.text.items ++ text_of (map (output_words l.ins) l.outputs)
