use Rattle.std.proofs.Common.{◌≡◌, ◌++◌, ap, sym, ◌∙◌}
use Rattle.std.proofs.lemmas.Result.{on_ok_weaker}
use Rattle.syn_base.specs.Bytes.{Bytes}
use Rattle.self_timed.specs.Acts.{acts, acts_of}
use Rattle.trace_events.specs.Events.{opening, closing, text_of}
use Rattle.trace_events.specs.Printed.{charted}
use Rattle.trace_events.specs.Trace.{lanes}
use Rattle.trace_events.proofs.Texts.{regroup, whole_text}
use Rattle.trace_events.proofs.chart.append_trace.Goals as goal

pub returns : goal.returns
returns c =
    let g = c.args.flat.now in
    let a = c.args.archi.now in
    let s = c.args.schedule.now in
    let old = c.args.out.now.items in
    let second = c.append_lanes.new.out.items in
    let third = c.append_decisions.new.out.items in
    let new = c.append_closing.new.out.items in
    let all = text_of (lanes a) in
    let chart = charted g.vertices a.operators s.decisions (acts s) in
    let same : charted c.vertices.result.now c.operators.result.now c.as_slice.result.now (acts_of c.as_slice.result.now) ≡ chart
    = λ j. charted (c.vertices.ensures.same j) (c.operators.ensures.same j) (c.as_slice.ensures j) (acts_of (c.as_slice.ensures j)) in
    on_ok_weaker c.append_closing.result (λ (e : new ≡ third ++ closing).
    e ∙ ap (λ (b : Bytes). b ++ closing)
    (c.in_ok-append_decisions.ensures ∙ ap (λ (b : Bytes). second ++ b) same
    ∙ ap (λ (b : Bytes). b ++ chart) (c.in_ok-append_lanes.ensures ∙ ap (λ (b : Bytes). b ++ all) c.in_ok-append_opening.ensures))
    ∙ regroup old opening all chart closing
    ∙ ap (λ (b : Bytes). old ++ b) (sym (whole_text g a s))) c.append_closing.ensures
