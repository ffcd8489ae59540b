use Rattle.std.proofs.Common.{ap, ◌∙◌}
use Rattle.body_check.proofs.Named.{named_below, named_at, named_past}
use Rattle.algo_laws.specs.Graphs.{place}
use Rattle.algo_resolve.proofs.sources.Graph.named.Goals as goal

pub bounds-self-self : goal.bounds-self-self
bounds-self-self c =
    let at = c.find_reference-at.ensures.first ∙ ap (place c.args.self.now.references.now) c.as_bytes.ensures.same in
    named_below _ _ _ _ _ _ at c.requires c.if-at-self.true

pub returns-then-at-self : goal.returns-then-at-self
returns-then-at-self c =
    let at = c.find_reference-at.ensures.first ∙ ap (place c.args.self.now.references.now) c.as_bytes.ensures.same in
    named_at _ _ _ _ _ _ _ at c.requires c.if-at-self.true

pub returns-else-at-self : goal.returns-else-at-self
returns-else-at-self c =
    let at = c.find_reference-at.ensures.first ∙ ap (place c.args.self.now.references.now) c.as_bytes.ensures.same in
    named_past _ _ _ _ _ _ at c.requires c.if-at-self.false
