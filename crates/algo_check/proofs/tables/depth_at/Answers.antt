use Rattle.std.proofs.Common.{arith, ap, ℕ, List, length}
use Rattle.algo_check.proofs.Here.{levels_count}
use Rattle.algo_check.proofs.tables.depth_at.Goals as goal

pub bounds-as_slice-place : goal.bounds-as_slice-place
bounds-as_slice-place c =
    let many = levels_count c.args.defs.now c.args.levels.now.links c.args.levels.now.depths c.requires.leveled in
    let same = ap (λ (ns : List ℕ). length ns) c.as_slice.ensures in
    omega (arith, many, same)
