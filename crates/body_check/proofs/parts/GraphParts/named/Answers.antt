use Rattle.body_check.proofs.Named.{named_below, named_at, named_past}
use Rattle.body_check.proofs.parts.GraphParts.named.Goals as goal

pub bounds-self-self : goal.bounds-self-self
bounds-self-self c = named_below _ _ _ _ _ _ c.find_reference-at.ensures.first c.requires c.if-at-self.true

pub returns-then-at-self : goal.returns-then-at-self
returns-then-at-self c = named_at _ _ _ _ _ _ _ c.find_reference-at.ensures.first c.requires c.if-at-self.true

pub returns-else-at-self : goal.returns-else-at-self
returns-else-at-self c = named_past _ _ _ _ _ _ c.find_reference-at.ensures.first c.requires c.if-at-self.false
