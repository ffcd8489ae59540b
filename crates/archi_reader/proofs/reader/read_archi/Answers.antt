use Rattle.std.proofs.Common.{sym, ◌∙◌, ◌-◌, take, drop, arith, ap, length}
use Rattle.std.proofs.lemmas.Result.{err_from_is_err_and}
use Rattle.text_lines.proofs.Pieces.{lines_of-next}
use Rattle.archi_reader.proofs.Following.{line_read, line_refused, sound_next}
use Rattle.archi_reader.proofs.reader.read_archi.Goals as goal

pub loop-from-preserved : goal.loop-from-preserved
loop-from-preserved c = record {
  rest = sym (line_read _ _ _ _ _ _ (lines_of-next _ _ _ c.loop-from-test.true c.line_end-to.ensures.next) c.in_ok-next_line.ensures) ∙ c.loop-from.invariant.rest;
  counted = omega (arith, ap length (lines_of-next _ _ _ c.loop-from-test.true c.line_end-to.ensures.next));
  within = omega arith;
  sound = sound_next _ _ c.loop-from.number (take (c.line_end-to.result - c.loop-from.from) (drop c.loop-from.from c.args.bytes.now)) c.loop-from.invariant.sound c.in_ok-next_line.ensures;
}

pub returns-in_err-next_line : goal.returns-in_err-next_line
returns-in_err-next_line c =
    let p = err_from_is_err_and c.from_residual-in_err-next_line.result c.from_residual-in_err-next_line.ensures.1 in
    rw (p.1, p.2) (line_refused _ _ _ _ _ _ _ (lines_of-next _ _ _ c.loop-from-test.true c.line_end-to.ensures.next) c.in_err-next_line.ensures c.loop-from.invariant.rest)
