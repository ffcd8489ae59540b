use Rattle.compiler.proofs.Tables.{made_table}
use Rattle.compiler.proofs.table.parse_table.Goals as goal

pub returns : goal.returns
returns c = made_table c.args.tree.now c.args.table.now c.read_sensors.result c.tables_fit.ensures c.read_sensors.ensures
