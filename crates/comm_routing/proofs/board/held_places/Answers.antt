use Rattle.std.proofs.Common.{arith}
use Rattle.comm_routing.proofs.Reading.{few_places}
use Rattle.comm_routing.proofs.board.held_places.Goals as goal

pub overflow_mul-result : goal.overflow_mul-result
overflow_mul-result c = let f = few_places c.args.vertices.now c.args.lens.now c.args.operators c.requires.few.0 c.requires.few.1 c.requires.outputs c.requires.lens in record { fits = omega arith }
