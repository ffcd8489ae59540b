use Rattle.std.proofs.Common.{ap, sym, ◌∙◌}
use Rattle.archi_graph.specs.Archi.{names_of, occurs_once}
use Rattle.archi_graph.proofs.Names.{fails_at}
use Rattle.archi_graph.proofs.valid.are_operators_alone.Goals as goal

pub returns-then-not-is_alone : goal.returns-then-not-is_alone
returns-then-not-is_alone c =
    let p = occurs_once (names_of c.args.operators.now c.args.media.now) in
    fails_at p c.args.operators.now c.loop-name.name-index c.name-item.result c.loop-name-test.true c.name-item.is
    (ap p (sym c.as_bytes.ensures.same) ∙ sym c.is_alone.ensures ∙ c.if-not-is_alone.true)
