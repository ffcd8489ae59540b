use Rattle.std.proofs.Common.{sym, subst, List, [], ◌∙◌}
use Rattle.std.specs.Prelude.{All}
use Rattle.route_table.specs.Table.{route_in}
use Rattle.schedule.specs.declared.Source.{Source}
use Rattle.comm_routing.specs.Board.{HasWay}
use Rattle.comm_routing.proofs.Reading.{any_default}
use Rattle.comm_routing.proofs.reach.arrival_on.Goals as goal

pub arrival-requires-clause-ways : goal.arrival-requires-clause-ways
arrival-requires-clause-ways c =
    let w = c.args.walks.now in
    subst (λ (xs : List Source). All (HasWay w.media.now w.board.now (route_in w.routes.now) w.routes.now.operators c.args.operator) xs)
    (sym (c.as_slice.ensures ∙ any_default w.reads.now c.args.op c.index-walks-op.result [] c.requires.operation)) c.requires.way.ways
