use Rattle.std.proofs.Common.{List, ap, sym, ◌∙◌}
use Rattle.algo_rules.specs.declared.Def.{Def}
use Rattle.algo_rules.specs.Links.{definition}
use Rattle.text_lint.proofs.Placed.{at_place, at_none}
use Rattle.text_lint.proofs.known.Known.definition.Goals as goal

pub returns-in-Some : goal.returns-in-Some
returns-in-Some c =
    c.def_at.ensures
    ∙ at_place c.self.inside.defs.now c.self.inside.names c.args.name.now c.in-Some.place c.self.invariant.placed (sym c.find.ensures ∙ c.in-Some.is)
    ∙ ap (λ (ds : List Def). definition ds c.args.name.now) c.self.view_is

pub returns-in-None : goal.returns-in-None
returns-in-None c =
    sym (at_none c.self.inside.defs.now c.self.inside.names c.args.name.now c.self.invariant.placed (sym c.find.ensures ∙ c.in-None.is))
    ∙ ap (λ (ds : List Def). definition ds c.args.name.now) c.self.view_is
