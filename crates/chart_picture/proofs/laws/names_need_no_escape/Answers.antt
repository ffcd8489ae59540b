use Rattle.chart_picture.proofs.Bare.{names_need_no_escape}
use Rattle.chart_picture.proofs.laws.names_need_no_escape.Goals as goal

pub returns : goal.returns
returns c = names_need_no_escape
