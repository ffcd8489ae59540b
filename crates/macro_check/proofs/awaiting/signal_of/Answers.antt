use Rattle.std.proofs.Common.{◌∙◌}
use Rattle.macro_check.proofs.Told.{signal_told, no_signal}
use Rattle.macro_check.proofs.awaiting.signal_of.Goals as goal

pub returns-in-Some : goal.returns-in-Some
returns-in-Some c = signal_told c.args.program.now c.requires.guarded c.args.pair c.requires.within c.of.result.now c.in-Some.mark.now
    (c.of.ensures ∙ c.requires.tables.pairs.full_signalled c.args.pair c.requires.within) c.in-Some.ensures.value

pub returns-in-None : goal.returns-in-None
returns-in-None c = no_signal c.args.program.now c.requires.guarded c.args.pair c.requires.within c.of.result.now
    (c.of.ensures ∙ c.requires.tables.pairs.full_signalled c.args.pair c.requires.within) c.in-None.ensures.value
