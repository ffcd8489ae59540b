use Rattle.std.proofs.Common.{ℕ, List, ◌++◌, sym, ◌∙◌, ap, append-nil}
use Rattle.body_check.proofs.Depends.{no_source, a_source}
use Rattle.body_check.proofs.parts.GraphParts.add_source.Goals as goal

pub returns-in_ok-push : goal.returns-in_ok-push
returns-in_ok-push c =
    c.in_ok-push.ensures.items
    ∙ ap (λ (ks : List ℕ). c.args.sources.now.items ++ ks)
    (sym (a_source c.args.self.now.defs.now c.args.self.now.references.now c.args.owner.now _ _ _ _ _ c.in-Some.is c.as_bytes.ensures.same c.is_delayed.ensures
    c.if-not-is_delayed.true c.find_reference.ensures.first c.as_bytes-then-not-is_delayed.ensures.same))

pub returns-else-not-is_delayed : goal.returns-else-not-is_delayed
returns-else-not-is_delayed c =
    sym (append-nil c.args.sources.now.items)
    ∙ ap (λ (ks : List ℕ). c.args.sources.now.items ++ ks)
    (sym (no_source c.args.self.now.defs.now c.args.self.now.references.now c.args.owner.now _ _ _ c.in-Some.is c.as_bytes.ensures.same c.is_delayed.ensures c.if-not-is_delayed.false))
