use Rattle.body_lang.specs.Expr.{view}
use Rattle.flat_graph.proofs.Bodies.{ports_below_by}
use Rattle.flat_graph.proofs.forms.is_expression.Goals as goal

pub returns : goal.returns
returns c = ports_below_by c.args.ins (view c.args.e.now) c.has_ports_below.result c.has_ports_below.ensures
