use Rattle.archi_reader.specs.Canonical.{connections_of}
use Rattle.archi_reader.proofs.Texts.{one_more}
use Rattle.archi_reader.proofs.print.print_connections.Goals as goal

pub loop-medium-preserved : goal.loop-medium-preserved
loop-medium-preserved c =
    one_more (connections_of c.args.operators.now) c.args.media.now c.loop-medium.medium-index c.medium-item.result c.loop-medium.text.items c.print_connections_of.new.text.items _
    c.loop-medium-test.true c.medium-item.is c.loop-medium.invariant c.in_ok-print_connections_of.ensures
