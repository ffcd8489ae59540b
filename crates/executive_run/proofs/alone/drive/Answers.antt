use Rattle.std.proofs.Common.{◌≡◌, ◌∙◌, ap, sym, subst, arith}
use Rattle.semaphore_core.specs.Job.{JobData}
use Rattle.semaphore_core.specs.Laws.{HasLaws}
use Rattle.word_table.specs.Driver.{FabricData}
use Rattle.executive_run.proofs.Driving.{smaller}
use Rattle.executive_run.proofs.alone.drive.Goals as goal

pub turns-smaller : goal.turns-smaller
turns-smaller g c =
    let p = c.turn-progress in
    let same : c.args.job.now ≡ p.new.self.driver.fabric.job = sym (ap (λ (f : FabricData). f.job) (p.ensures.goes.fabric ∙ c.turns.invariant.fabric) ∙ c.requires.job) in
    smaller c.turns.group.driver p.new.self.driver p.result.steps p.result.waiting
    (subst (λ (j : JobData). HasLaws j) same c.job_has_laws.ensures) p.ensures.goes (omega arith) (p.ensures.alone c.requires.alone)
