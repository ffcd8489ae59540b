use Rattle.lab_program.proofs.commands.algorithm_text.Goals as goal

pub returns-in-Graph-clause-carries : goal.returns-in-Graph-clause-carries
returns-in-Graph-clause-carries g c = rw c.in-Graph.is c.graph_text.ensures.carries

pub returns-in-Table-clause-carries : goal.returns-in-Table-clause-carries
returns-in-Table-clause-carries g c = rw c.in-Table.is c.table_text.ensures.carries
