-- One more sequence.
use Rattle.std.proofs.Common.{◌++◌, ap, ◌∙◌}
use Rattle.executive_program.specs.declared.program.SeqCode.{SeqCode}
use Rattle.macro_code.specs.Text.{medium_line}
use Rattle.macro_code.specs.Text.{names_of}
use Rattle.macro_code.proofs.Appending.{each}
use Rattle.macro_code.proofs.processor.append_medium_lines.Goals as goal

pub loop-code-preserved : goal.loop-code-preserved
loop-code-preserved c =
    each (medium_line (names_of c.args.named.now) c.args.name c.args.operator) c.args.seqs.now c.loop-code.code-index c.code-item.result
    c.loop-code.out.items c.append_medium_line.new.out.items _ c.loop-code-test.true
    (c.in_ok-append_medium_line.ensures ∙ ap (λ (x : SeqCode). c.loop-code.out.items ++ medium_line (names_of c.args.named.now) c.args.name c.args.operator x) c.code-item.is) c.loop-code.invariant
