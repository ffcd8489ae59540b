use Rattle.std.proofs.Common.{◌∙◌, ◌<◌, length, sym, subst, arith}
use Rattle.std.specs.List.{All}
use Rattle.multi_period.proofs.Passed.{within, total}
use Rattle.multi_period.proofs.pass.count_made.Goals as goal

pub added-requires : goal.added-requires
added-requires c =
    subst (λ us. All (λ m. m.reference < length us) c.args.marks.now) (sym c.deref.ensures.value)
    (within c.main-main.result.now c.args.tree.now c.args.marks.now c.main-main.ensures.same c.requires)

pub overflow_add-result : goal.overflow_add-result
overflow_add-result c = record { fits = omega (arith, c.added.ensures.small, c.from.ensures, c.operations.ensures, c.main-main.ensures.valid.few) }

pub returns : goal.returns
returns c =
    total c.main-main.result.now c.args.tree.now c.args.marks.now c.main-main.ensures.same c.from.result c.added.result c.deref.result.now c.main-main.ensures.valid c.requires
    (c.from.ensures ∙ c.operations.ensures) c.deref.ensures.value c.added.ensures.is
