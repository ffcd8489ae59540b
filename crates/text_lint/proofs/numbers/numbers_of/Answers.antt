use Rattle.std.proofs.Common.{arith}
use Rattle.text_lines.proofs.Pieces.{lines_of-next}
use Rattle.text_lint.proofs.Numbering.{line_more}
use Rattle.text_lint.proofs.numbers.numbers_of.Goals as goal

pub loop-from-preserved : goal.loop-from-preserved
loop-from-preserved c = record {
  whole = line_more _ _ _ _ _ _ _ _ (lines_of-next _ _ _ c.loop-from-test.true c.line_end-to.ensures.next) c.in_ok-append_if_begins.ensures c.loop-from.invariant.whole;
  counted = omega arith;
  within = omega arith;
}
