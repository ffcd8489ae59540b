use Rattle.std.proofs.Common.{◌≡◌, ◌≢◌, ℕ, ◌-◌, get_or}
use Rattle.semaphore_core.specs.Core.{full}
use Rattle.executive_run.specs.Going.{GoesOn}
use Rattle.executive_run.proofs.group.Group.go_on.Given as goal

abbrev pub invariant-loop-steps : goal.invariant-loop-steps
invariant-loop-steps g l = (GoesOn l.fn.self.driver l.self.driver l.steps) × ((s : ℕ) → s ≢ l.seq → get_or l.self.driver.counts s 0 ≡ get_or l.fn.self.driver.counts s 0)

abbrev pub decreases-loop-steps : goal.decreases-loop-steps
decreases-loop-steps g l = full l.self.driver.fabric.job l.seq - get_or l.self.driver.counts l.seq 0
