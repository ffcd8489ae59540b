use Rattle.algo_check.proofs.Firsts.{told}
use Rattle.elaboration.proofs.Walks.{line_stops, line_goes}
use Rattle.elaboration.proofs.standing.check_references.Goals as goal

pub returns-then-not-may_stand : goal.returns-then-not-may_stand
returns-then-not-may_stand c =
    told (Unit {0}) _ _ (line_stops c.args.defs.now c.args.owner.now c.args.references.now c.args.places.now _ _ c.requires c.loop-k-test.true c.index-references-k.is c.loop-k.invariant _
    c.if-not-may_stand.ensures c.bad_every.ensures)

pub loop-k-preserved : goal.loop-k-preserved
loop-k-preserved c = line_goes c.args.defs.now c.args.owner.now c.args.references.now c.args.places.now _ _ c.requires c.loop-k-test.true
    c.index-references-k.is c.loop-k.invariant c.if-not-may_stand.ensures
