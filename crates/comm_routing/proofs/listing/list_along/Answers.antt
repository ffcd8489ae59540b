-- One more hop.
use Rattle.std.proofs.Common.{◌∙◌, sym, refl}
use Rattle.std.proofs.lemmas.List.{at_drop_all}
use Rattle.comm_routing.specs.Board.{held_in, time_in}
use Rattle.comm_routing.specs.Walk.{walk, steps, listed}
use Rattle.comm_routing.proofs.Appending.{all_appended}
use Rattle.comm_routing.proofs.Hops.{hop_fits, hop_more}
use Rattle.comm_routing.proofs.listing.list_along.Goals as goal

pub list_over-requires-clause-medium : goal.list_over-requires-clause-medium
list_over-requires-clause-medium c = ((c.requires.route c.loop-hop.hop-index (record { medium = 0; to = 0 }) c.loop-hop-test.true).0, c.requires.few)

pub list_over-requires-clause-place : goal.list_over-requires-clause-place
list_over-requires-clause-place c = (c.requires.route c.loop-hop.hop-index (record { medium = 0; to = 0 }) c.loop-hop-test.true).1

pub list_over-requires-clause-fits : goal.list_over-requires-clause-fits
list_over-requires-clause-fits c =
    (hop_fits c.args.network.now.media.now c.args.network.now.board.now c.args.source c.args.route.now c.loop-hop.hop-index
    (record { medium = 0; to = 0 }) (walk c.loop-hop.ends c.loop-hop.held.date) c.loop-hop-test.true c.loop-hop.invariant.2).0

pub loop-hop-preserved : goal.loop-hop-preserved
loop-hop-preserved c =
    hop_more c.args.network.now.media.now c.args.network.now.board.now c.args.source c.args.route.now c.loop-hop.hop-index (record { medium = 0; to = 0 }) c.loop-hop.held.operator
    (walk c.loop-hop.ends c.loop-hop.held.date) (walk c.list_over.new.ends c.in_ok-date.date) _ c.loop-hop.transfers.items c.list_over.new.transfers.items _
    c.loop-hop-test.true c.in_ok-date.ensures.walk c.in_ok-date.ensures.listed c.loop-hop.invariant

pub returns-clause-walk : goal.returns-clause-walk
returns-clause-walk c =
    sym (at_drop_all (steps (time_in c.args.network.now.media.now c.args.network.now.board.now)
    (held_in c.args.network.now.board.now) c.args.source
    (walk c.loop-hop.ends c.loop-hop.held.date)) c.args.route.now c.loop-hop.hop-index c.loop-hop-test.false)
    ∙ c.loop-hop.invariant.0

pub returns-clause-listed : goal.returns-clause-listed
returns-clause-listed c =
    all_appended (listed (time_in c.args.network.now.media.now c.args.network.now.board.now)
    (held_in c.args.network.now.board.now) c.args.source c.loop-hop.held.operator
    (walk c.loop-hop.ends c.loop-hop.held.date)) c.args.route.now c.loop-hop.hop-index
    c.loop-hop.transfers.items _ refl c.loop-hop-test.false c.loop-hop.invariant.1
