use Rattle.std.proofs.Common.{ℕ, List, subst, sym}
use Rattle.self_timed.specs.Acts.{acts}
use Rattle.self_timed.specs.Entries.{AreWithin}
use Rattle.self_timed.specs.Told.{HaveEntries, entries_of}
use Rattle.syndex_program.proofs.commands.dates.print_reactions.Goals as goal

pub dates_text-requires-clause-valid : goal.dates_text-requires-clause-valid
dates_text-requires-clause-valid c = record { durations = c.args.problem.now.durations; rows = c.operators-operators.ensures.valid; valid = c.requires.valid }

pub dates_text-requires-clause-entries : goal.dates_text-requires-clause-entries
dates_text-requires-clause-entries c =
    subst (λ (rows : List (List ℕ)). HaveEntries (entries_of c.args.problem.now.flat c.args.schedule.now) rows) (sym c.in_ok-actual.ensures) c.requires.entries

pub dates_text-requires-clause-within : goal.dates_text-requires-clause-within
dates_text-requires-clause-within c =
    subst (λ (rows : List (List ℕ)). AreWithin c.args.problem.now.flat.vertices (acts c.args.schedule.now) rows) (sym c.in_ok-actual.ensures) c.requires.within
