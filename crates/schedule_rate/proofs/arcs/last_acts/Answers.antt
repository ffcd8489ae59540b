use Rattle.std.proofs.Common.{◌+◌, sym, subst, arith}
use Rattle.self_timed.specs.declared.layout.Step.{Step}
use Rattle.self_timed.specs.declared.line.Ends.{Ends}
use Rattle.self_timed.specs.Lines.{IsLine}
use Rattle.schedule_rate.specs.Filling.{AreLow}
use Rattle.schedule_rate.proofs.Stepping.{lasts_more, low_more}
use Rattle.schedule_rate.proofs.arcs.last_acts.Goals as goal

pub loop-act-preserved : goal.loop-act-preserved
loop-act-preserved c =
    let lined : IsLine c.index-steps-act.result.line = subst (λ (st : Step). IsLine st.line) (sym c.index-steps-act.is) (c.requires.lined c.loop-act.act c.index-steps-act.result c.loop-act-test.true) in
    record {
      are = lasts_more c.args.steps.now c.loop-act.act c.index-steps-act.result c.index-steps-act.is c.loop-act-test.true c.loop-act.last c.note.new.self _ c.note.ensures c.loop-act.invariant.are;
      low = subst (λ (e : Ends). AreLow (c.loop-act.act + 1) e) (sym c.note.ensures)
          (low_more c.loop-act.act (c.loop-act.act + 1) c.loop-act.last c.index-steps-act.result.line (c.loop-act.act + 1) lined (omega arith) (omega arith) c.loop-act.invariant.low);
    }
