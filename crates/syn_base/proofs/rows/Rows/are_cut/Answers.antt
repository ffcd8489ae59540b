use Rattle.std.proofs.Common.{subst}
use Rattle.syn_base.specs.Rows.{AreCut}
use Rattle.syn_base.proofs.Cut.{all-cut}
use Rattle.syn_base.proofs.rows.Rows.are_cut.Goals as goal

pub returns : goal.returns
returns c = subst AreCut c.self.view_is (all-cut c.self.inside.shape c.self.inside.rows.items c.self.invariant)
