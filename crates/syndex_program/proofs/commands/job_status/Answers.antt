use Rattle.std.proofs.Common.{Result, subst}
use Rattle.compiler.specs.Executions.{Execution}
use Rattle.top_plans.specs.Ending.{Ending}
use Rattle.top_plans.specs.Run.{Makes}
use Rattle.top_plans.specs.Status.{Refusal, ending_of}
use Rattle.top_plans.specs.Given.{Given, executed, printed, summed}
use Rattle.top_plans.specs.Loads.{load_algorithm, load_architecture, load_table}
use Rattle.top_plans.specs.Plans.{exec_plan, head, load_plan, run_plan, summary}
use Rattle.syndex_program.specs.Executes.{executed_in, made_of}
use Rattle.syndex_program.proofs.Coded.{ran_so}
use Rattle.syndex_program.proofs.Executing.{files_follow, foreign_follow, made_so, texts_follow}
use Rattle.syndex_program.proofs.commands.job_status.Goals as goal

abbrev the_run : Execution → Given
the_run e = printed (head e) e

abbrev the_load : Execution → Given
the_load e = summed e (summary e)

pub returns-in-Run-clause-ran : goal.returns-in-Run-clause-ran
returns-in-Run-clause-ran g c =
    let H = g.S.Shelf.held in
    let x = c.in-Run in
    let r = c.read_execution-made.result in
    rw x.is (
      made_of the_run r,
      subst (λ (made : Result Given (Ending Refusal)). Makes (H c.args.shelf.now) (H c.read_execution-made.new.shelf)
          (run_plan x.algorithm.now x.architecture.now x.sensors.now) made) (made_so the_run r)
          (files_follow the_run x.algorithm.now x.architecture.now x.sensors.now (H c.args.shelf.now) (H c.read_execution-made.new.shelf) (executed_in r) c.read_execution-made.ensures.makes),
      c.finish_run.ensures,
    )

pub returns-in-Load-clause-ran : goal.returns-in-Load-clause-ran
returns-in-Load-clause-ran g c =
    let held = g.S.Shelf.held c.args.shelf.now in
    let n = c.in-Load.n in
    let r = c.load_execution-made.result in
    rw c.in-Load.is (
      made_of the_load r,
      subst (λ (made : Result Given (Ending Refusal)). Makes held held (load_plan (load_algorithm n) load_architecture (load_table n)) made) (made_so the_load r)
          (texts_follow the_load (load_algorithm n) load_architecture (load_table n) held held (executed_in r) (c.load_execution-made.ensures.makes held)),
      c.finish_load.ensures,
    )

pub returns-in-Exec-clause-ran : goal.returns-in-Exec-clause-ran
returns-in-Exec-clause-ran g c =
    let H = g.S.Shelf.held in
    let K = g.K.Sink.sunk in
    let x = c.in-Exec in
    let r = c.read_foreign-made.result in
    let plan = exec_plan x.algorithm.now x.architecture.now x.code.now x.sensors.now in
    let makes = subst (λ (made : Result Given (Ending Refusal)). Makes (H c.args.shelf.now) (H c.read_foreign-made.new.shelf) plan made) (made_so executed r)
    (foreign_follow executed x.algorithm.now x.architecture.now x.code.now x.sensors.now (H c.args.shelf.now) (H c.read_foreign-made.new.shelf) (executed_in r) c.read_foreign-made.ensures.makes) in
    rw x.is
    (ran_so plan (made_of executed r) (H c.args.shelf.now) (H c.read_foreign-made.new.shelf) (K c.args.out.now) (K c.finish_exec.new.out)
    c.args.driven.now c.finish_exec.new.driven (ending_of c.finish_exec.result) makes c.finish_exec.ensures)
