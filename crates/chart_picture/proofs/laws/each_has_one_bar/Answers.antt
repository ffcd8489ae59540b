use Rattle.chart_picture.proofs.Counted.{each_has_one_bar}
use Rattle.chart_picture.proofs.laws.each_has_one_bar.Goals as goal

pub returns : goal.returns
returns c = each_has_one_bar
