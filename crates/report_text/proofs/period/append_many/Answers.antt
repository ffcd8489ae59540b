use Rattle.std.proofs.Common.{◌∷◌, ◌++◌, List, map, ap, ◌∙◌}
use Rattle.std.proofs.lemmas.Result.{on_ok_weaker}
use Rattle.timing_chart.specs.Chart.{Line, text_of}
use Rattle.self_timed.specs.declared.latency.Latency.{Latency}
use Rattle.report_text.specs.Text.{busiest_line, latency_line, period_line}
use Rattle.report_text.proofs.Joined.{then_lines}
use Rattle.report_text.proofs.period.append_many.Goals as goal

pub returns : goal.returns
returns c =
    let f = c.args.figures.now in
    let latencies : List Latency → List Line = λ ls. map (latency_line c.args.vertices.now) ls in
    let busiest = busiest_line c.args.archi.now f.busiest in
    let out = c.args.out.now.items in
    let one = c.append_period.new.out.items in
    let two = c.append_busiest.new.out.items in
    let all = c.append_latencies.new.out.items in
    on_ok_weaker c.append_latencies.result
    (λ e. then_lines out one all (period_line f.period) (busiest ∷ latencies f.latencies) c.in_ok-append_period.ensures
    (then_lines one two all busiest (latencies f.latencies) c.in_ok-append_busiest.ensures (e ∙ ap (λ (ls : List Latency). two ++ text_of (latencies ls)) c.as_slice.ensures)))
    c.append_latencies.ensures
