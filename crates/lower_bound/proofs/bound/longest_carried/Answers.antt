use Rattle.std.proofs.Common.{ap, ◌∙◌}
use Rattle.self_timed.specs.Table.{entry_in}
use Rattle.lower_bound.proofs.Whole.{longest_is}
use Rattle.lower_bound.proofs.bound.longest_carried.Goals as goal
use Rattle.syn_base.specs.Numbers.{greatest}

pub returns : goal.returns
returns c =
    let d = c.args.durations.now in
    c.greatest.ensures ∙ ap greatest c.deref.ensures.value
    ∙ longest_is d.operators (entry_in d) c.args.vertices.now c.args.media.now c.in_ok-ends.ends.items c.in_ok-ends.ensures.size c.in_ok-ends.ensures.chains
