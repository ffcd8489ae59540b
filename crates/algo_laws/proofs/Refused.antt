-- What each part of a refusal tells where there is none.
use Rattle.std.proofs.Common.{◌≡◌, Bool, true, false, List, [], Option, Some, None, refl, if◌then◌else◌}
use Rattle.std.specs.Prelude.{codes}
use Rattle.level_meaning.specs.declared.part.Part.TheVariants.{Named}
use Rattle.algo_rules.specs.Meaning.{vertices_in}
use Rattle.algo_rules.specs.Ends.{NoneInside, AreEndsNumbered}
use Rattle.algo_rules.specs.declared.Def.{Def}
use Rattle.algo_rules.specs.declared.AlgoCause.TheVariants.{NoMain}
use Rattle.algo_rules.specs.Links.{fault, definition, unknown, misplaced, recursive, too_deep}
use Rattle.algo_rules.specs.Resolved.{bodies_fault, no_main, no_main_by, is_main_graph, too_many, refusal, tree_of}
use Rattle.algo_laws.proofs.Firsts.{none_both}
use Rattle.algo_laws.proofs.Standing.{all_stand}
use Rattle.algo_laws.proofs.Numbered.{IsGraphOf, main_none, main_numbered}

pub record HasNone (ds : List Def) : Type 0 where
  pub unknown : unknown ds ≡ None
  pub misplaced : misplaced ds ≡ None
  pub recursive : recursive ds ≡ None
  pub too_deep : too_deep ds ≡ None
  pub bodies : bodies_fault ds ≡ None
  pub no_main : no_main ds ≡ None
  pub too_many : too_many ds ≡ None

pub has_none : (ds : List Def) → refusal ds ≡ None → HasNone ds
has_none ds h =
    let a = none_both (unknown ds) _ h in
    let b = none_both (misplaced ds) _ a.1 in
    let c = none_both (recursive ds) _ b.1 in
    let d = none_both (too_deep ds) _ c.1 in
    let e = none_both (bodies_fault ds) _ d.1 in
    let f = none_both (no_main ds) _ e.1 in
    let g = none_both (too_many ds) _ f.1 in
    record { unknown = a.0; misplaced = b.0; recursive = c.0; too_deep = d.0; bodies = e.0; no_main = f.0; too_many = g.0 }

main_by : (o : Option Def) → no_main_by o ≡ None → IsGraphOf o
main_by None h = cc
main_by (Some d) h = by (is_main_graph d.body) h
  where
    by : (b : Bool) → (if b then None else fault 0 NoMain) ≡ None → b ≡ true
    by true k = refl
    by false k = cc

pub main_is_graph : (ds : List Def) → HasNone ds → IsGraphOf (definition ds (codes "main"))
main_is_graph ds h = main_by (definition ds (codes "main")) h.no_main

-- no sensor and no actuator stands inside what the main graph refers to
pub stand_in_main : (ds : List Def) → HasNone ds → NoneInside (vertices_in (tree_of ds))
stand_in_main ds h =
    main_none ds 6 (all_stand ds h.misplaced) (Named (codes "main")) (codes "main") [] 0 0 (definition ds (codes "main")) refl (main_is_graph ds h)

-- those of the main graph are numbered in order
pub are_numbered : (ds : List Def) → HasNone ds → AreEndsNumbered (vertices_in (tree_of ds))
are_numbered ds h = main_numbered ds 6 (Named (codes "main")) (codes "main") [] 0 0 (definition ds (codes "main")) (main_is_graph ds h)
