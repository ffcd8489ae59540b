use Rattle.std.proofs.Common.{length}
use Rattle.self_timed.specs.Acts.{acts_of}
use Rattle.dates_text.specs.Printed.{Appends, dates_up_to}
use Rattle.dates_text.proofs.listing.append_reactions.Given as goal

-- the reactions so far were appended
abbrev pub invariant-loop-number : goal.invariant-loop-number
invariant-loop-number l = Appends l.flat l.archi l.fn.out.items l.out.items l.latest (dates_up_to l.dates (length l.flat.vertices) (acts_of l.decisions) l.number)
