use Rattle.std.proofs.Common.{sym, ◌∙◌}
use Rattle.body_check.proofs.LeftOpen.{are_there}
use Rattle.body_check.proofs.Depends.{delay_here, delay_later}
use Rattle.body_check.proofs.parts.GraphParts.is_delayed.Goals as goal

pub bounds-self-at : goal.bounds-self-at
bounds-self-at c = (are_there _ _ _ _ c.requires _ c.loop-at-test.true).place

pub bounds-self-self : goal.bounds-self-self
bounds-self-self c = (are_there _ _ _ _ c.requires _ c.loop-at-test.true).below

pub returns-then-is_delay_named : goal.returns-then-is_delay_named
returns-then-is_delay_named c =
    let i = are_there c.args.self.now.defs.now c.args.self.now.table.now c.args.self.now.references.now c.args.self.now.places.now c.requires c.loop-at.at c.loop-at-test.true in
    sym (delay_here c.args.self.now.defs.now c.args.self.now.references.now c.args.name.now _ _ c.reference-item.result c.index-self-self.result _
    c.reference-item.is i.below (i.found c.reference-item.result) c.is_delay_named.ensures c.loop-at-test.true c.if-is_delay_named.true)
    ∙ c.loop-at.invariant

pub loop-at-preserved : goal.loop-at-preserved
loop-at-preserved c =
    let i = are_there c.args.self.now.defs.now c.args.self.now.table.now c.args.self.now.references.now c.args.self.now.places.now c.requires c.loop-at.at c.loop-at-test.true in
    delay_later c.args.self.now.defs.now c.args.self.now.references.now c.args.name.now _ _ c.reference-item.result c.index-self-self.result _
    c.reference-item.is i.below (i.found c.reference-item.result) c.is_delay_named.ensures c.loop-at-test.true c.if-is_delay_named.false
    ∙ c.loop-at.invariant
