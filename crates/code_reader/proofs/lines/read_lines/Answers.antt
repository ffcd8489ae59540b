use Rattle.std.proofs.Common.{sym, ◌∙◌, ap, arith, length}
use Rattle.std.proofs.lemmas.Result.{err_from_is_err_and}
use Rattle.text_lines.proofs.Pieces.{lines_of-next}
use Rattle.code_reader.proofs.Following.{line_read, line_refused}
use Rattle.code_reader.proofs.lines.read_lines.Goals as goal

pub loop-from-preserved : goal.loop-from-preserved
loop-from-preserved c = record {
  rest = sym (line_read c.args.known.now.operations c.args.known.now.archi _ _ _ _ _ _
      (lines_of-next _ _ _ c.loop-from-test.true c.line_end-to.ensures.next) c.in_ok-next_line.ensures) ∙ c.loop-from.invariant.rest;
  counted = omega (arith, ap length (lines_of-next _ _ _ c.loop-from-test.true c.line_end-to.ensures.next));
  within = omega arith;
}

pub returns-in_err-next_line : goal.returns-in_err-next_line
returns-in_err-next_line c =
    let p = err_from_is_err_and c.from_residual.result c.from_residual.ensures.1 in
    rw (p.1, p.2) (line_refused c.args.known.now.operations c.args.known.now.archi _ _ _ _ _ _ _
    (lines_of-next _ _ _ c.loop-from-test.true c.line_end-to.ensures.next) c.in_err-next_line.ensures c.loop-from.invariant.rest)
