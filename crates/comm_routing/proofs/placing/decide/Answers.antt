-- Its start and its transfers are those by the tables.
use Rattle.comm_routing.proofs.placing.decide.Goals as goal

pub start-start-requires : goal.start-start-requires
start-start-requires c = c.requires.operator.1
