use Rattle.std.proofs.Common.{◌≡◌, take, sum}
use Rattle.syn_base.specs.Rows.{cut_all, AreLong}
use Rattle.syn_base.proofs.rows.Rows.window.Given as goal

abbrev pub invariant-loop-row : goal.invariant-loop-row
invariant-loop-row l = record {
  filled : l.window ≡ record { lens = l.self.lens; reactions = cut_all l.self.lens (take l.row-index l.row-items) };
  long : AreLong (sum l.self.lens) l.row-items;
}
