use Rattle.algo_check.proofs.Firsts.{told, line_stops, line_goes}
use Rattle.algo_check.proofs.standing.check_lines.Goals as goal

pub returns-then-not-may_stand_at : goal.returns-then-not-may_stand_at
returns-then-not-may_stand_at c =
    told (Unit {0}) _ _ (line_stops c.args.defs.now c.args.owner.now c.args.mentions.now c.args.places.now _ _ c.requires c.loop-k-test.true c.index-mentions-k.is c.loop-k.invariant _ _ _
    c.if-not-may_stand_at.ensures c.line.ensures c.def.ensures c.misplaced.ensures)

pub loop-k-preserved : goal.loop-k-preserved
loop-k-preserved c = line_goes c.args.defs.now c.args.owner.now c.args.mentions.now c.args.places.now _ _ c.requires c.loop-k-test.true
    c.index-mentions-k.is c.loop-k.invariant c.if-not-may_stand_at.ensures
