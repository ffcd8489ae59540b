use Rattle.std.proofs.Common.{◌≡◌, ◌<◌, length, ap, sym, subst, ◌∙◌, arith}
use Rattle.word_table.specs.Driver.{FabricData}
use Rattle.word_table.specs.declared.answer.MicroAnswer.TheVariants.{NotYet}
use Rattle.executive_run.proofs.Goings.{goes_more, others_stay, halted}
use Rattle.executive_run.proofs.group.Group.go_on.Goals as goal

pub loop-steps-preserved : goal.loop-steps-preserved
loop-steps-preserved g c =
    let answer = c.in-Stepped.ensures.answer in
    let was : c.loop-steps.self.driver.fabric ≡ c.args.fabric.now = c.loop-steps.invariant.0.fabric ∙ c.requires.of in
    let there : c.args.seq < length c.loop-steps.self.driver.counts =
    subst (λ n. c.args.seq < n) (ap (λ (f : FabricData). length f.job.program.seqs) (sym was) ∙ sym c.loop-steps.self.many_counts) c.requires.there in (
      goes_more c.args.self.now.driver c.loop-steps.self.driver c.try_step.new.self.driver c.loop-steps.steps c.saturating_add-steps.result
          c.args.seq c.loop-steps.invariant.0 (c.in-Stepped.ensures.of ∙ sym was) c.in-Stepped.ensures.group there answer.2.more answer.3.counts (omega arith),
      λ s apart. others_stay c.loop-steps.self.driver c.try_step.new.self.driver c.args.seq s answer.3.counts apart ∙ c.loop-steps.invariant.1 s apart,
    )

pub returns-in-NotYet-clause-alone : goal.returns-in-NotYet-clause-alone
returns-in-NotYet-clause-alone g c one =
    let missed = c.in-NotYet.ensures.answer.3.driver in
    halted c.loop-steps.self.driver c.try_step.new.self.driver c.args.seq NotYet (c.in-NotYet.ensures.alone one) (λ e. cc) (ap (λ d. d.fabric) missed) (ap (λ d. d.counts) missed)
