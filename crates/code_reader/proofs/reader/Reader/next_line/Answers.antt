use Rattle.std.proofs.Common.{[], ◌∷◌, Result, sym, subst}
use Rattle.macro_code.specs.Refusals.{CodeRefusal}
use Rattle.macro_code.specs.ReadText.{Reading}
use Rattle.text_lines.specs.Refusals.{Steps}
use Rattle.code_reader.specs.Read.{reading}
use Rattle.code_reader.proofs.NextLine.{clean_line, foreign_line}
use Rattle.code_reader.proofs.reader.Reader.next_line.Goals as goal

pub returns-in_default : goal.returns-in_default
returns-in_default c =
    rw c.bad_line.ensures
    (foreign_line c.args.known.now.operations c.args.known.now.archi (reading c.args.self.now) c.args.line c.args.text.now c.in_default.ensures)

pub returns-in-Blank : goal.returns-in-Blank
returns-in-Blank c =
    clean_line c.args.known.now.operations c.args.known.now.archi (reading c.args.self.now) c.args.line c.args.text.now c.in-Some.code.now [] c.in-Some.ensures c.in-Blank.ensures

pub returns-in-One : goal.returns-in-One
returns-in-One c =
    subst (λ (read : Result Reading CodeRefusal). Steps c.word_line.result (reading c.word_line.new.self) read)
    (sym (clean_line c.args.known.now.operations c.args.known.now.archi (reading c.args.self.now) c.args.line c.args.text.now c.in-Some.code.now
    (c.in-One.word.now ∷ []) c.in-Some.ensures c.in-One.ensures))
    c.word_line.ensures

pub returns-in-Two : goal.returns-in-Two
returns-in-Two c =
    subst (λ (read : Result Reading CodeRefusal). Steps c.op_line.result (reading c.op_line.new.self) read)
    (sym (clean_line c.args.known.now.operations c.args.known.now.archi (reading c.args.self.now) c.args.line c.args.text.now c.in-Some.code.now
    (c.in-Two.op.now ∷ c.in-Two.word.now ∷ []) c.in-Some.ensures c.in-Two.ensures))
    c.op_line.ensures
