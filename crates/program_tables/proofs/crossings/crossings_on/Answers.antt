use Rattle.program_tables.specs.Crossings.{crossing}
use Rattle.program_tables.proofs.Crossed.{one_more}
use Rattle.program_tables.proofs.crossings.crossings_on.Goals as goal

pub loop-number-preserved : goal.loop-number-preserved
loop-number-preserved c = one_more
    (crossing c.args.program.now c.args.medium) c.loop-number.number c.loop-number.row.items c.push.new.self.items c.make_crossing.result
    c.in_ok-push.ensures.items c.loop-number.invariant c.make_crossing.ensures
