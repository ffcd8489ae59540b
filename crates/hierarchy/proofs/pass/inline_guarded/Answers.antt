-- What stays as it is where cases are put under guards has none.
use Rattle.std.proofs.Common.{ap, sym, subst, [], ◌∙◌}
use Rattle.flat_laws.specs.Guarded.{guard}
use Rattle.flat_laws.specs.NoCase.{HasNoCase}
use Rattle.flat_laws.proofs.Uncased.{no_case}
use Rattle.flat_laws.proofs.Plain.{plain}
use Rattle.hierarchy.proofs.pass.inline_guarded.Goals as goal

pub inline-requires : goal.inline-requires
inline-requires c =
    plain c.args.tree.now c.requires
    (subst HasNoCase (ap guard (sym c.main.ensures.same) ∙ c.has_no_case.ensures c.if-has_no_case.true ∙ c.main.ensures.same) (no_case [] 0 c.args.tree.now))

pub inline-requires-2 : goal.inline-requires-2
inline-requires-2 c = plain c.in_ok-guarded.guarded c.in_ok-guarded.ensures.repeats c.in_ok-guarded.ensures.cases
