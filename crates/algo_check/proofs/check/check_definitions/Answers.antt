use Rattle.std.proofs.Common.{◌≡◌, ◌∷◌, [], map, sym, subst, List, Option, IfOk}
use Rattle.algo_rules.specs.declared.Def.{Def}
use Rattle.algo_rules.specs.Links.{first_of, unknown, misplaced, recursive, too_deep}
use Rattle.algo_rules.specs.Placed.{Checks}
use Rattle.algo_rules.specs.Ports.{ports_of}
use Rattle.algo_rules.specs.Resolved.{bodies_fault, no_main, too_many}
use Rattle.std.specs.Global.{Vec}
use Rattle.std.proofs.lemmas.Result.{err_from_is_err_and}
use Rattle.algo_rules.specs.Refusals.{AlgoRefusal}
use Rattle.algo_rules.specs.declared.ports.Ports.{Ports}
use Rattle.algo_check.specs.declared.levels.Levels.{Levels}
use Rattle.algo_check.proofs.InOrder.{none_first, front_told, told, tells}
use Rattle.algo_check.proofs.check.check_definitions.Goals as goal

pub returns-clause-checks : goal.returns-clause-checks
returns-clause-checks c =
    let ds = c.args.defs.now.defs in
    let first : List (Option AlgoRefusal) = unknown ds ∷ misplaced ds ∷ recursive ds ∷ too_deep ds ∷ [] in
    let last : List (Option AlgoRefusal) = bodies_fault ds ∷ no_main ds ∷ too_many ds ∷ [] in
    subst (λ (o : Option AlgoRefusal). Checks c.check_leveled.result o) (sym (none_first first last c.in_ok-levels.ensures.checks))
    (subst (λ (es : List Def). Checks c.check_leveled.result (first_of (bodies_fault es ∷ no_main es ∷ too_many es ∷ []))) c.as_slice.ensures c.check_leveled.ensures.checks)

pub returns-clause-ports : goal.returns-clause-ports
returns-clause-ports c =
    subst (λ (es : List Def). IfOk c.check_leveled.result (λ table. table.items ≡ map (λ d. ports_of es d.name) es)) c.as_slice.ensures c.check_leveled.ensures.ports

pub returns-in_err-levels-clause-checks : goal.returns-in_err-levels-clause-checks
returns-in_err-levels-clause-checks c =
    let ds = c.args.defs.now.defs in
    let p = err_from_is_err_and c.from_residual.result c.from_residual.ensures.1 in
    rw (p.1, p.2)
    (told (Vec Ports) _ _ (front_told _ (unknown ds ∷ misplaced ds ∷ recursive ds ∷ too_deep ds ∷ [])
    (bodies_fault ds ∷ no_main ds ∷ too_many ds ∷ []) (tells Levels _ _ c.in_err-levels.ensures.checks)))
