-- What stays as it is where repetitions are unrolled has none.
use Rattle.std.proofs.Common.{ap, sym, subst, ◌∙◌}
use Rattle.flat_laws.specs.Unrolled.{unroll}
use Rattle.flat_laws.proofs.Unrepeated.{no-unroll}
use Rattle.algo_tree.specs.NoRepeat.{HasNoRepeat}
use Rattle.hierarchy.proofs.pass.inline_unrolled.Goals as goal

pub inline_guarded-requires : goal.inline_guarded-requires
inline_guarded-requires c =
    subst HasNoRepeat (ap unroll (sym c.main.ensures.same) ∙ c.has_no_repeat.ensures c.if-has_no_repeat.true ∙ c.main.ensures.same) (no-unroll c.args.tree.now)
