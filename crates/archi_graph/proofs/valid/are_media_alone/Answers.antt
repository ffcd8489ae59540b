use Rattle.std.proofs.Common.{ap, sym, ◌∙◌}
use Rattle.archi_graph.specs.declared.medium.Medium.{Medium}
use Rattle.archi_graph.specs.Archi.{names_of, occurs_once}
use Rattle.archi_graph.proofs.Names.{fails_at}
use Rattle.archi_graph.proofs.valid.are_media_alone.Goals as goal

pub returns-then-not-is_alone : goal.returns-then-not-is_alone
returns-then-not-is_alone c =
    let p = occurs_once (names_of c.args.operators.now c.args.media.now) in
    fails_at (λ (m : Medium). p m.name) c.args.media.now c.loop-medium.medium-index c.medium-item.result c.loop-medium-test.true c.medium-item.is
    (ap p (sym c.as_bytes.ensures.same) ∙ sym c.is_alone.ensures ∙ c.if-not-is_alone.true)
