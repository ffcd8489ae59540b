use Rattle.std.proofs.Common.{◌∙◌}
use Rattle.program_tables.specs.Crossings.{crossing_by}
use Rattle.program_tables.proofs.Crossed.{crossing_is}
use Rattle.program_tables.proofs.crossings.make_crossing.Goals as goal

pub returns : goal.returns
returns c =
    let s = c.sender_among-sender.ensures in
    let r = c.receiver_among-receiver.ensures in
    c.crossing_by.ensures ∙ (λ i. crossing_by c.args.program.now c.args.number (s i) (r i)) ∙ crossing_is c.args.program.now c.args.medium c.args.number c.args.communicators.now c.requires.all
