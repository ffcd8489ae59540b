use Rattle.std.proofs.Common.{sym, ◌∙◌}
use Rattle.self_timed.specs.Table.{entry_in}
use Rattle.lower_bound.specs.Turns.{at}
use Rattle.lower_bound.proofs.Starting.{end_is}
use Rattle.lower_bound.proofs.arrivals.end_on.Goals as goal

pub returns : goal.returns
returns c =
    let d = c.args.durations.now in
    end_is d.operators (entry_in d) c.args.vertices.now c.args.media.now
    (at c.args.ends.now) c.args.op c.args.operator c.in-Some.ticks c.start_on.result c.index-vertices-op.result c.requires.there
    c.index-vertices-op.is (sym c.in-Some.is ∙ c.ticks.ensures.entry) c.start_on.ensures.start
