use Rattle.std.proofs.Common.{◌≡◌, ◌++◌, drop}
use Rattle.std.specs.List.{flat_map}
use Rattle.macro_code.specs.Text.{main_text, names_of}
use Rattle.macro_code.proofs.processor.append_mains.Given as goal

-- what is there, with what is left, is the whole
abbrev pub invariant-loop-code : goal.invariant-loop-code
invariant-loop-code l = l.out.items ++ flat_map (main_text (names_of l.named) l.seqs l.operator) (drop l.code-index l.seqs)
    ≡ l.fn.out.items ++ flat_map (main_text (names_of l.named) l.seqs l.operator) l.seqs
