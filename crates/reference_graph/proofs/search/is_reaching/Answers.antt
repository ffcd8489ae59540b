use Rattle.std.proofs.Common.{length, sym, arith}
use Rattle.reference_graph.proofs.SettledDepths.{settled_no_return}
use Rattle.reference_graph.proofs.search.is_reaching.Goals as goal

pub returns-then-depths-a-ne0 : goal.returns-then-depths-a-ne0
returns-then-depths-a-ne0 c = sym (settled_no_return c.args.links.now c.args.depths.now (length c.args.links.now) c.requires.settled c.args.a (omega arith))
