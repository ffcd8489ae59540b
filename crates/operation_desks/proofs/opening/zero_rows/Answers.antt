-- One more row.
use Rattle.std.proofs.Common.{◌∙◌, ap}
use Rattle.syn_base.specs.Rows.{Reactions}
use Rattle.operation_desks.proofs.ZeroRows.{row_more}
use Rattle.operation_desks.proofs.opening.zero_rows.Goals as goal

pub loop-preserved : goal.loop-preserved
loop-preserved c = record {
  lens = ap (λ (r : Reactions). r.lens) c.in_ok-push.ensures.ok ∙ c.loop.invariant.lens;
  reactions = row_more c.args.lens.now c.loop.rows.lens c.as_slice.result.now c.in_ok-addressable.field-0 c.loop.counter c.loop.rows.reactions c.push.new.self.reactions c.loop.invariant.lens
      (c.as_slice.ensures ∙ c.in_ok-row.ensures) (c.in_ok-addressable.ensures ∙ c.sum_of.ensures) c.loop.invariant.reactions (ap (λ (r : Reactions). r.reactions) c.in_ok-push.ensures.ok);
}
