use Rattle.std.proofs.Common.{sym, subst}
use Rattle.algo_laws.specs.Resolved.{tree_of}
use Rattle.algo_laws.specs.Valid.{IsTree}
use Rattle.algo_resolve.proofs.resolution.tree.Goals as goal

pub new-requires : goal.new-requires
new-requires c =
    let ds = c.args.checked.now.defs.now in
    subst IsTree (sym c.in_ok-main.ensures) (c.pruned_is_a_tree.ensures (tree_of ds) (c.accepted_make_a_tree.ensures ds c.requires.read c.requires.passed))
