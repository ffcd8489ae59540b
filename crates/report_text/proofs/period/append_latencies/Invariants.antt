use Rattle.std.proofs.Common.{◌≡◌, ◌++◌, drop, map}
use Rattle.timing_chart.specs.Chart.{text_of}
use Rattle.report_text.specs.Text.{latency_line}
use Rattle.report_text.proofs.period.append_latencies.Given as goal

-- what is there, with the lines of the latencies that are left, is the whole
abbrev pub invariant-loop-latency : goal.invariant-loop-latency
invariant-loop-latency l =
    l.out.items ++ text_of (map (latency_line l.vertices) (drop l.latency-index l.latencies))
    ≡ l.fn.out.items ++ text_of (map (latency_line l.vertices) l.latencies)
