-- One more source.
use Rattle.std.proofs.Common.{List, ◌∙◌, ap, sym, refl}
use Rattle.std.proofs.lemmas.List.{at_drop_all}
use Rattle.route_table.specs.Table.{route_in}
use Rattle.schedule.specs.declared.Source.{Source}
use Rattle.comm_routing.specs.Board.{held_in, on_in, time_in}
use Rattle.comm_routing.specs.Walk.{Walk, walk, fetch_all, listed_all}
use Rattle.comm_routing.proofs.Appending.{all_appended}
use Rattle.comm_routing.proofs.Hops.{source_fits, source_more}
use Rattle.comm_routing.proofs.listing.list_all.Goals as goal

pub list_to-requires-clause-way : goal.list_to-requires-clause-way
list_to-requires-clause-way c = c.requires.ways c.loop-source.source-index (record { vertex = 0; port = 0 }) c.loop-source-test.true

pub list_to-requires-clause-fits : goal.list_to-requires-clause-fits
list_to-requires-clause-fits c =
    (source_fits c.args.network.now.media.now c.args.network.now.board.now
    (route_in c.args.network.now.routes.now) c.args.operator c.args.sources.now c.loop-source.source-index (record { vertex = 0; port = 0 })
    (walk c.loop-source.ends c.loop-source.latest) c.loop-source-test.true c.loop-source.invariant.2).0

pub loop-source-preserved : goal.loop-source-preserved
loop-source-preserved c =
    source_more c.args.network.now.media.now c.args.network.now.board.now
    (route_in c.args.network.now.routes.now) c.args.operator c.args.sources.now c.loop-source.source-index (record { vertex = 0; port = 0 })
    c.loop-source.ends c.list_to.new.ends c.in_ok-date.date c.loop-source.latest c.max-latest.result _ c.loop-source.transfers.items c.list_to.new.transfers.items _
    c.loop-source-test.true c.in_ok-date.ensures.walk c.max-latest.ensures c.in_ok-date.ensures.listed c.loop-source.invariant

pub returns-clause-date : goal.returns-clause-date
returns-clause-date c =
    ap (λ (w : Walk). w.date)
    (sym (at_drop_all (λ (xs : List Source). fetch_all (time_in c.args.network.now.media.now c.args.network.now.board.now)
    (held_in c.args.network.now.board.now) (on_in c.args.network.now.board.now) (route_in c.args.network.now.routes.now) c.args.operator xs
    (walk c.loop-source.ends c.loop-source.latest)) c.args.sources.now c.loop-source.source-index c.loop-source-test.false)
    ∙ c.loop-source.invariant.0)

pub returns-clause-listed : goal.returns-clause-listed
returns-clause-listed c =
    all_appended (λ (xs : List Source). listed_all (time_in c.args.network.now.media.now c.args.network.now.board.now)
    (held_in c.args.network.now.board.now) (on_in c.args.network.now.board.now)
    (route_in c.args.network.now.routes.now) c.args.operator xs c.loop-source.ends)
    c.args.sources.now c.loop-source.source-index c.loop-source.transfers.items _ refl c.loop-source-test.false c.loop-source.invariant.1
