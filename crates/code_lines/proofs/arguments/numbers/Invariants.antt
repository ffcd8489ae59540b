use Rattle.std.proofs.Common.{◌≡◌, map}
use Rattle.macro_code.specs.Forms.{each_in, number_in}
use Rattle.code_lines.proofs.Each.{behind, left}
use Rattle.code_lines.proofs.arguments.numbers.Given as goal

abbrev pub invariant-loop-word : goal.invariant-loop-word
invariant-loop-word l = behind l.numbers.items (left number_in l.words l.word-index) ≡ each_in number_in (map (λ w. w.now) l.words)
