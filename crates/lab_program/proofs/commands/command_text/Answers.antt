use Rattle.lab_program.proofs.commands.command_text.Goals as goal

pub schedule_text-requires : goal.schedule_text-requires
schedule_text-requires g c = rw c.in-Schedule.is at c.requires

pub dates_text-requires : goal.dates_text-requires
dates_text-requires g c = record { few = (rw c.in-Dates.is at c.requires).1 }

pub returns-in-Help-clause-carries : goal.returns-in-Help-clause-carries
returns-in-Help-clause-carries g c = rw c.in-Help.is (c.list_text.ensures (g.S.Shelf.held c.args.shelf.now))

pub returns-in-Schedule-clause-carries : goal.returns-in-Schedule-clause-carries
returns-in-Schedule-clause-carries g c = rw c.in-Schedule.is c.schedule_text.ensures.carries

pub returns-in-Algorithm-clause-carries : goal.returns-in-Algorithm-clause-carries
returns-in-Algorithm-clause-carries g c = rw c.in-Algorithm.is c.algorithm_text.ensures.carries

pub returns-in-Lint-clause-carries : goal.returns-in-Lint-clause-carries
returns-in-Lint-clause-carries g c = rw c.in-Lint.is c.lint_text.ensures.carries

pub returns-in-Why-clause-carries : goal.returns-in-Why-clause-carries
returns-in-Why-clause-carries g c = rw c.in-Why.is c.why_text.ensures.carries

pub returns-in-Plot-clause-carries : goal.returns-in-Plot-clause-carries
returns-in-Plot-clause-carries g c = rw c.in-Plot.is c.plot_text.ensures.carries

pub returns-in-Dates-clause-carries : goal.returns-in-Dates-clause-carries
returns-in-Dates-clause-carries g c = rw c.in-Dates.is c.dates_text.ensures.carries
