use Rattle.std.proofs.Common.{◌≡◌, ◌++◌, drop, map}
use Rattle.std.specs.List.{filter}
use Rattle.schedule.specs.Acts.{carry, is_over}
use Rattle.timing_chart.specs.Chart.{act_line, text_of}
use Rattle.timing_chart.proofs.chart.append_transfers.Given as goal

-- what is there, with the lines of the transfers that are left, is the whole
abbrev pub invariant-loop-transfer : goal.invariant-loop-transfer
invariant-loop-transfer l =
    l.out.items ++ text_of (map (act_line l.named.vertices.now l.named.operators.now) (filter (is_over l.medium) (map carry (drop l.transfer-index l.transfers))))
    ≡ l.fn.out.items ++ text_of (map (act_line l.named.vertices.now l.named.operators.now) (filter (is_over l.medium) (map carry l.transfers)))
