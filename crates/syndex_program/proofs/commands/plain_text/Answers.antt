use Rattle.syndex_program.proofs.commands.plain_text.Goals as goal

pub dates_listing-requires : goal.dates_listing-requires
dates_listing-requires g c = record { few = (rw c.in-Dates.is at c.requires).1 }

pub returns-in-Check-clause-makes : goal.returns-in-Check-clause-makes
returns-in-Check-clause-makes g c = rw c.in-Check.is c.check_texts.ensures.makes

pub returns-in-Sim-clause-makes : goal.returns-in-Sim-clause-makes
returns-in-Sim-clause-makes g c = rw c.in-Sim.is c.sim_text.ensures.makes

pub returns-in-Algorithm-clause-makes : goal.returns-in-Algorithm-clause-makes
returns-in-Algorithm-clause-makes g c = rw c.in-Algorithm.is c.algorithm_text.ensures.makes

pub returns-in-Schedule-clause-makes : goal.returns-in-Schedule-clause-makes
returns-in-Schedule-clause-makes g c = rw c.in-Schedule.is c.schedule_text.ensures.makes

pub returns-in-Dates-clause-makes : goal.returns-in-Dates-clause-makes
returns-in-Dates-clause-makes g c = rw c.in-Dates.is c.dates_listing.ensures.makes
