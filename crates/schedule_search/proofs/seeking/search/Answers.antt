use Rattle.std.proofs.Common.{arith}
use Rattle.self_timed.specs.Table.{entry_in}
use Rattle.schedule_search.proofs.Measures.{no_slower_than_alone, no_slower_than_run, run_is_no_slower}
use Rattle.schedule_search.proofs.seeking.search.Goals as goal

pub returns-then-effort-eq0-clause-faster : goal.returns-then-effort-eq0-clause-faster
returns-then-effort-eq0-clause-faster c =
    λ period. run_is_no_slower c.args.flat.now c.args.archi.now c.args.durations.now c.in_ok-run.run' c.in_ok-run.ensures.any

pub returns-then-effort-eq0-clause-faster_alone : goal.returns-then-effort-eq0-clause-faster_alone
returns-then-effort-eq0-clause-faster_alone c = λ period tries. let none = c.if-effort-eq0.true in absurd (omega arith)

pub returns-clause-faster : goal.returns-clause-faster
returns-clause-faster c =
    λ period. no_slower_than_run c.args.flat.now c.args.archi.now c.args.durations.now c.args.effort.goal c.in_ok-run.run' c.in_ok-run.ensures.any period
    c.improved.result c.improved.ensures.first

pub returns-clause-faster_alone : goal.returns-clause-faster_alone
returns-clause-faster_alone c =
    λ period tries. no_slower_than_alone c.args.flat.now c.args.archi.now (entry_in c.args.durations.now) c.args.effort.goal period
    c.improved.result c.improved.ensures.alone
