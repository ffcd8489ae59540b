use Rattle.syndex_program.proofs.commands.schedule_text.Goals as goal

pub returns-in-Chart-clause-makes : goal.returns-in-Chart-clause-makes
returns-in-Chart-clause-makes g c = rw c.in-Chart.is c.chart_text.ensures.makes

pub returns-in-Code-clause-makes : goal.returns-in-Code-clause-makes
returns-in-Code-clause-makes g c = rw c.in-Code.is c.code_text.ensures.makes
