use Rattle.std.proofs.Common.{◌∙◌}
use Rattle.program_tables.specs.Crossings.{crossings_on}
use Rattle.program_tables.proofs.Crossed.{one_more}
use Rattle.program_tables.proofs.crossings.find_crossings.Goals as goal

pub loop-medium-preserved : goal.loop-medium-preserved
loop-medium-preserved c = one_more
    (crossings_on c.args.program.now) c.loop-medium.medium c.loop-medium.rows.items c.push.new.self.items c.new.result
    c.in_ok-push.ensures.items c.loop-medium.invariant (c.new.ensures ∙ c.in_ok-found.ensures)
