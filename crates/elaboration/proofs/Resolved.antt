-- What definitions resolve to, and what becomes of it.
use Rattle.std.proofs.Common.{◌≡◌, suc, ◌≤◌, ◌==◌, true, List, [], ◌∷◌, length, Option, Some, None, Result, Ok, Err, refl, sym, ap, subst, ◌∙◌, arith}
use Rattle.std.proofs.lemmas.Bool.{eqb-true}
use Rattle.algo_laws.specs.Refusals.{AlgoRefusal}
use Rattle.algo_laws.specs.Tree.{Vertex}
use Rattle.algo_laws.specs.Counted.{operations}
use Rattle.algo_laws.specs.Valid.{IsTree}
use Rattle.algo_laws.specs.declared.Def.{Def}
use Rattle.algo_laws.specs.Resolved.{tree_of, refusal, resolution_of, resolved_by as told_by}
use Rattle.algo_laws.specs.WellRead.{AreWellRead}
use Rattle.algo_laws.proofs.Whole.{make_a_tree}
use Rattle.multi_period.specs.declared.mark.Mark.{Mark}
use Rattle.multi_period.specs.Within.{made_within}
use Rattle.multi_period.proofs.Main.{unmarked-stays}
use Rattle.multi_period.proofs.Passed.{gives_made}
use Rattle.wiring_laws.specs.Pruned.{pruned}
use Rattle.wiring_laws.proofs.Valid.{tree-pruned}
use Rattle.elaboration.specs.Marking.{marking_of}
use Rattle.elaboration.specs.Elaborated.{made_by, marked_by, resolved_by}

abbrev pub gives : Vertex → Result Vertex AlgoRefusal
gives u = Ok u

abbrev stops : AlgoRefusal → Result Vertex AlgoRefusal
stops e = Err e

pub same_tree : (x y : Vertex) → gives x ≡ gives y → x ≡ y
same_tree x y e = cc

pub not_given : (x : AlgoRefusal) (y : Vertex) → stops x ≡ gives y → ⊥
not_given x y e = cc

-- what definitions resolve to is their tree, and they have no refusal
told : (ds : List Def) (o : Option AlgoRefusal) (main : Vertex) → told_by ds o ≡ Ok main → (o ≡ None) × (tree_of ds ≡ main)
told ds None main e = (refl, same_tree (tree_of ds) main e)
told ds (Some fault) main e = absurd (not_given fault main e)

pub not_refused : (ds : List Def) (main : Vertex) → resolution_of ds ≡ Ok main → refusal ds ≡ None
not_refused ds main e = (told ds (refusal ds) main e).0

-- so it is a tree
pub resolved_tree : (ds : List Def) (main : Vertex) → AreWellRead ds → resolution_of ds ≡ Ok main → IsTree main
resolved_tree ds main read e = let r = told ds (refusal ds) main e in subst IsTree r.1 (make_a_tree ds read r.0)

-- what is made of a tree and marks that were told
pub elaborated_is : (ds : List Def) (main : Vertex) (marks : List Mark) → resolution_of ds ≡ Ok main → marking_of ds ≡ Ok marks
    → resolved_by ds (resolution_of ds) ≡ made_by (made_within marks (pruned main))
elaborated_is ds main marks r m = ap (resolved_by ds) r ∙ ap (marked_by (pruned main)) m

nothing : (marks : List Mark) → (length marks == 0) ≡ true → marks ≡ []
nothing [] e = refl
nothing (m ∷ ms) e = let h = eqb-true (suc (length ms)) 0 e in absurd (omega (arith, h))

-- without marks it is the pruned tree itself
pub unmarked_is : (ds : List Def) (main : Vertex) (marks : List Mark) → AreWellRead ds → resolution_of ds ≡ Ok main → marking_of ds
    ≡ Ok marks → (length marks == 0) ≡ true → resolved_by ds (resolution_of ds) ≡ Ok (pruned main)
unmarked_is ds main marks read r m e =
    let t = pruned main in
    let few = subst (λ (u : Vertex). operations u ≤ 2048) (sym (unmarked-stays t)) (tree-pruned main (resolved_tree ds main read r)).few in
    elaborated_is ds main marks r m ∙ ap (λ ms. made_by (made_within ms t)) (nothing marks e) ∙ ap made_by (gives_made [] t few) ∙ ap gives (unmarked-stays t)
