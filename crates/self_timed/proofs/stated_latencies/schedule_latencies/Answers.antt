use Rattle.std.proofs.Common.{◌≡◌, List, ◌∙◌}
use Rattle.std.proofs.lemmas.Result.{IfOk-weaker}
use Rattle.self_timed.proofs.StatedDates.{operations_there}
use Rattle.self_timed.specs.declared.latency.Latency.{Latency}
use Rattle.self_timed.specs.Latency.{latencies}
use Rattle.self_timed.specs.StatedLatencies.{latencies_of_schedule}
use Rattle.self_timed.proofs.Scheduled.{latencies_are}
use Rattle.self_timed.proofs.stated_latencies.schedule_latencies.Goals as goal

pub latencies-requires : goal.latencies-requires
latencies-requires c = operations_there c.args.flat.now c.args.archi.now c.args.schedule.now c.args.reactions c.in_ok-dates.dates c.in_ok-dates.ensures

pub returns : goal.returns
returns c =
    let g = c.args.flat.now in
    let a = c.args.archi.now in
    let s = c.args.schedule.now in
    let n = c.args.reactions in
    let rows = c.in_ok-dates.dates in
    IfOk-weaker c.latencies.result (λ (l : List Latency). l ≡ latencies g.vertices rows) (λ (l : List Latency). l ≡ latencies_of_schedule g a s n)
    (λ (l : List Latency) e. e ∙ latencies_are g a s c.requires.valid n rows c.in_ok-dates.ensures)
    c.latencies.ensures
