use Rattle.chart_picture.proofs.Ordered.{lanes_are_in_order}
use Rattle.chart_picture.proofs.laws.lanes_are_in_order.Goals as goal

pub returns : goal.returns
returns c = lanes_are_in_order
