use Rattle.std.proofs.Common.{get_or, sym}
use Rattle.std.proofs.lemmas.Bool.{eq-eqb, ne_eqb}
use Rattle.code_lines.proofs.LineParts.{clean_to, clean_whole, foreign_before}
use Rattle.code_lines.proofs.word.clean_code.Goals as goal

pub returns-in-None : goal.returns-in-None
returns-in-None c = clean_whole c.args.line.now (sym c.in-None.ensures.place)

pub returns-in-Some : goal.returns-in-Some
returns-in-Some c = clean_to c.args.line.now c.in-Some.place (sym c.in-Some.ensures.place) c.in-Some.ensures.within (eq-eqb (get_or c.args.line.now c.in-Some.place 0) 35 c.if-line-place-eq35.true)

pub returns-in-Some-2 : goal.returns-in-Some-2
returns-in-Some-2 c = foreign_before c.args.line.now c.in-Some.place (sym c.in-Some.ensures.place) c.in-Some.ensures.within
    (ne_eqb (get_or c.args.line.now c.in-Some.place 0) 35 c.if-line-place-eq35.false)
