use Rattle.std.proofs.Common.{sym, ◌∙◌, refl, arith, ap, length}
use Rattle.std.proofs.lemmas.Result.{err_from_is_err_and}
use Rattle.text_lines.proofs.Pieces.{lines_of-next}
use Rattle.algo_reader.proofs.Settled.{line_read, line_refused}
use Rattle.algo_reader.proofs.reader.read_algo.Goals as goal

pub loop-from-init : goal.loop-from-init
loop-from-init c = record {
  rest = rw c.new-reader.ensures refl;
  counted = omega arith;
  within = omega arith;
}

pub loop-from-preserved : goal.loop-from-preserved
loop-from-preserved c = record {
  rest = sym (line_read _ _ _ _ _ _ (lines_of-next _ _ _ c.loop-from-test.true c.line_end-to.ensures.next) c.in_ok-next_line.ensures) ∙ c.loop-from.invariant.rest;
  counted = omega (arith, ap length (lines_of-next _ _ _ c.loop-from-test.true c.line_end-to.ensures.next));
  within = omega arith;
}

pub returns-in_err-next_line : goal.returns-in_err-next_line
returns-in_err-next_line c =
    let p = err_from_is_err_and c.from_residual.result c.from_residual.ensures.1 in
    rw (p.1, p.2) (line_refused _ _ _ _ _ _ _ (lines_of-next _ _ _ c.loop-from-test.true c.line_end-to.ensures.next) c.in_err-next_line.ensures c.loop-from.invariant.rest)
