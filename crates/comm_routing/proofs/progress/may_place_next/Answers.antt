use Rattle.std.proofs.Common.{arith, false, sym, ◌∙◌}
use Rattle.comm_routing.specs.Draft.{drafted}
use Rattle.comm_routing.proofs.Sites.{at_default, places_in}
use Rattle.comm_routing.proofs.progress.may_place_next.Goals as goal

pub returns-then-index : goal.returns-then-index
returns-then-index c =
    let p = c.args.progress.now in
    places_in (drafted c.args.site.now p.decisions.items) p.board p.candidates c.args.op c.args.operator c.may_stand.result (omega arith)
    (at_default p.candidates.ready.flags.items c.args.op false c.index.result.now (omega arith) ∙ sym c.index.ensures ∙ c.if-index.true)
    (c.may_stand.ensures p.decisions.items p.candidates)
