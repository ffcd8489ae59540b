use Rattle.rates.specs.Search.{AreFirst}
use Rattle.rates.proofs.search.first_offsets.Given as goal

abbrev pub invariant-loop-act : goal.invariant-loop-act
invariant-loop-act l = AreFirst l.long l.reactions l.act l.offsets.items
