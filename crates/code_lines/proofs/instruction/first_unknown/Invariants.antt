use Rattle.std.proofs.Common.{◌≡◌, map, drop}
use Rattle.macro_code.specs.ReadText.{first_unknown}
use Rattle.code_lines.proofs.instruction.first_unknown.Given as goal

abbrev pub invariant-loop-word : goal.invariant-loop-word
invariant-loop-word l = first_unknown l.here (map (λ w. w.now) (drop l.word-index l.words)) ≡ first_unknown l.here (map (λ w. w.now) l.words)
