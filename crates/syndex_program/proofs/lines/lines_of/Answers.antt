use Rattle.std.proofs.Common.{◌≡◌, ◌∙◌, ap, subst, sym}
use Rattle.compiler.specs.Executions.{acts_of}
use Rattle.algo_tree.specs.Ends.{actuator_lengths}
use Rattle.word_rule.specs.Ended.{all_acts}
use Rattle.job_windows.specs.Windowed.{WindowsData}
use Rattle.syndex_program.specs.Executes.{executed}
use Rattle.syndex_program.specs.Left.{stages_left}
use Rattle.syndex_program.proofs.Leaving.{all_stages, same_acts}
use Rattle.syndex_program.proofs.lines.lines_of.Goals as goal
use Rattle.self_timed.specs.FlatLaws.{actuator_lens}

pub invariant_of-result-clause-lens : goal.invariant_of-result-clause-lens
invariant_of-result-clause-lens c =
    let x = c.args.execution.now in
    subst (λ (v : WindowsData). actuator_lens v.job.graph v.job.graph.vertices ≡ actuator_lengths x.tree) (sym c.in_ok-windows.ensures) c.requires.has.lengths.actuators

pub invariant_of-result-clause-acts : goal.invariant_of-result-clause-acts
invariant_of-result-clause-acts c =
    let x = c.args.execution.now in
    subst (λ (v : WindowsData). all_acts v.job ≡ acts_of x.tree v.job.sensors) (sym c.in_ok-windows.ensures) (same_acts (executed x) c.requires.has)

pub returns : goal.returns
returns c =
    let e = executed c.args.execution.now in
    ap (λ (v : WindowsData). stages_left e.main v) c.in_ok-windows.ensures ∙ all_stages e
