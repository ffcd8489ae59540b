use Rattle.std.proofs.Common.{◌∙◌, ◌++◌, ap}
use Rattle.syn_base.specs.Bytes.{Bytes}
use Rattle.self_timed.specs.declared.Schedule.{Schedule}
use Rattle.top_plans.specs.Chart as timing
use Rattle.syndex_program.proofs.commands.chart.print_schedule.Goals as goal

pub returns : goal.returns
returns c =
    let given = c.args.problem.now in
    let a = given.text.archi in
    c.in_ok-print_chart.ensures.text ∙ ap (λ (t : Bytes). t ++ timing.chart given.flat a c.in_ok-schedule.schedule) c.new-text.ensures.items
    ∙ ap (λ (s : Schedule). timing.chart given.flat a s) c.in_ok-schedule.ensures.run
