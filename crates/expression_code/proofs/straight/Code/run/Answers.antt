use Rattle.std.proofs.Common.{rules, ◌≡◌, take}
use Rattle.expression_code.specs.Code.{HasRun}
use Rattle.expression_code.proofs.Arms.{held}
use Rattle.expression_code.proofs.straight.Code.run.Goals as goal

pub returns-clause-values : goal.returns-clause-values
returns-clause-values c = λ ports len old e at ins compiled below carries.
    let same : take c.args.self.now.from c.run_steps.new.store ≡ take c.args.self.now.from c.args.store.now = search rules in
    let has_run : HasRun c.args.self.now c.run_steps.new.store = search rules in
    held ports len old c.args.self.now e at ins c.args.store.now c.run_steps.new.store compiled below carries same has_run
