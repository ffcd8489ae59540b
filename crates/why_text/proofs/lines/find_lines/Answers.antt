use Rattle.std.proofs.Common.{sym, ◌∙◌, arith}
use Rattle.text_lines.proofs.Pieces.{lines_of-next}
use Rattle.why_text.proofs.Seeing.{line_seen}
use Rattle.why_text.proofs.lines.find_lines.Goals as goal

pub loop-from-preserved : goal.loop-from-preserved
loop-from-preserved c = record {
  rest = sym (line_seen _ _ _ _ _ _ _ (lines_of-next _ _ _ c.loop-from-test.true c.line_end-to.ensures.next) c.in_ok-head.ensures c.in_ok-see.ensures) ∙ c.loop-from.invariant.rest;
  low = omega arith;
  within = omega arith;
}
