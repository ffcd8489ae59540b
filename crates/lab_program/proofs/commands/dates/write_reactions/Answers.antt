use Rattle.std.proofs.Common.{ℕ, List, subst, sym}
use Rattle.self_timed.specs.Acts.{acts}
use Rattle.self_timed.specs.Told.{HaveEntries, entries_of}
use Rattle.self_timed.specs.Entries.{AreWithin}
use Rattle.lab_program.proofs.commands.dates.write_reactions.Goals as goal

pub write_dates-requires-clause-valid : goal.write_dates-requires-clause-valid
write_dates-requires-clause-valid c = record { durations = c.args.problem.now.durations; rows = c.operators-operators.ensures.valid; valid = c.requires.valid }

pub write_dates-requires-clause-entries : goal.write_dates-requires-clause-entries
write_dates-requires-clause-entries c =
    subst (λ (rows : List (List ℕ)). HaveEntries (entries_of c.args.problem.now.flat c.args.schedule.now) rows) (sym c.in_ok-actual.ensures) c.requires.entries

pub write_dates-requires-clause-within : goal.write_dates-requires-clause-within
write_dates-requires-clause-within c =
    subst (λ (rows : List (List ℕ)). AreWithin c.args.problem.now.flat.vertices (acts c.args.schedule.now) rows) (sym c.in_ok-actual.ensures) c.requires.within
