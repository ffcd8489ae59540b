use Rattle.lower_bound.proofs.Busy.{no_line_is_overfull}
use Rattle.lower_bound.proofs.load_laws.no_line_is_overfull.Goals as goal

pub returns : goal.returns
returns c = no_line_is_overfull
