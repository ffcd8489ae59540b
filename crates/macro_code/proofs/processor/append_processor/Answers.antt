use Rattle.std.proofs.Common.{◌≡◌, List, [], ◌∷◌, ◌++◌, OnOk, ap, subst, ◌∙◌}
use Rattle.executive_program.specs.declared.program.SeqCode.{SeqCode}
use Rattle.macro_code.specs.declared.macros.Macro.TheVariants.{Processor}
use Rattle.syn_base.specs.Bytes.{Bytes}
use Rattle.macro_code.specs.Text.{declarations, line, names_of, operator_name, sequences_text}
use Rattle.macro_code.proofs.Parts.{with_part}
use Rattle.macro_code.proofs.processor.append_processor.Goals as goal

pub returns : goal.returns
returns c =
    let names = names_of c.args.named.now in
    let program = c.args.program.now in
    let head = line Processor (operator_name names c.args.operator ∷ []) in
    let declared = declarations c.args.operator program.pairs program.buffers in
    let sequences = sequences_text names program.seqs c.args.operator in
    let told = λ (q : List SeqCode). OnOk c.append_sequences.result (c.append_sequences.new.out.items ≡ c.append_declarations.new.out.items ++ sequences_text names q c.args.operator) in
    let last = subst told c.as_slice.ensures c.append_sequences.ensures in
    with_part c.append_sequences.result c.args.out.now.items c.append_line.new.out.items c.append_sequences.new.out.items head (declared ++ sequences)
    (c.in_ok-append_line.ensures ∙ ap (λ (w : Bytes). c.args.out.now.items ++ line Processor (w ∷ [])) c.operator.ensures)
    (with_part c.append_sequences.result c.append_line.new.out.items c.append_declarations.new.out.items c.append_sequences.new.out.items declared sequences c.in_ok-append_declarations.ensures last)
