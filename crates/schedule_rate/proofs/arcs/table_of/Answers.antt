use Rattle.std.proofs.Common.{◌≡◌, ◌+◌, ◌<◌, [], length, sym, subst, arith, ◌∙◌}
use Rattle.std.proofs.lemmas.List.{get_or_default}
use Rattle.self_timed.specs.declared.layout.Step.{Step}
use Rattle.self_timed.specs.declared.line.Ends.{Ends}
use Rattle.self_timed.specs.Lines.{IsLine}
use Rattle.schedule_rate.specs.Filling.{AreLow, full_row, line_arc, readers_at}
use Rattle.schedule_rate.proofs.Stepping.{low_more, rows_more}
use Rattle.schedule_rate.proofs.arcs.table_of.Goals as goal

pub loop-act-preserved : goal.loop-act-preserved
loop-act-preserved c =
    let lined : IsLine c.index-steps-act.result.line = subst (λ (st : Step). IsLine st.line) (sym c.index-steps-act.is) (c.requires.sized c.loop-act.act c.index-steps-act.result c.loop-act-test.true).line in
    let size = c.in_ok-readers.ensures.size in
    let less : c.loop-act.act < length c.in_ok-readers.readers.items = (let t = c.loop-act-test.true in omega arith) in
    let read : c.as_slice-read.result.now ≡ readers_at c.in_ok-readers.readers.items c.loop-act.act =
    c.as_slice-read.ensures ∙ c.index.ensures ∙ get_or_default c.in_ok-readers.readers.items c.loop-act.act c.index.result.now [] less in
    let row : c.in_ok-full_row.field-0 ≡ full_row c.args.depth c.in_ok-acts.acts.items (line_arc c.loop-act.before c.last_acts-last.result c.index-steps-act.result.line) c.index-steps-act.result.sources (readers_at c.in_ok-readers.readers.items c.loop-act.act) =
    c.in_ok-full_row.ensures ∙ (λ i. full_row c.args.depth (c.as_slice-in-loop-act-2.ensures.value i) (c.line_arc-arc.ensures i) (c.as_slice-in-loop-act.ensures i) (read i)) in
    record {
      rows = rows_more c.args.depth c.in_ok-acts.acts.items c.in_ok-readers.readers.items c.last_acts-last.result c.args.steps.now c.loop-act.act c.index-steps-act.result c.index-steps-act.is c.loop-act-test.true
          c.loop-act.before c.note.new.self c.note.ensures c.loop-act.rows.items c.push.new.self.items _ c.in_ok-full_row.field-0 row c.in_ok-push.ensures.items c.loop-act.invariant.rows;
      low = subst (λ (e : Ends). AreLow (c.loop-act.act + 1) e) (sym c.note.ensures)
          (low_more c.loop-act.act (c.loop-act.act + 1) c.loop-act.before c.index-steps-act.result.line (c.loop-act.act + 1) lined (omega arith) (omega arith) c.loop-act.invariant.low);
    }
