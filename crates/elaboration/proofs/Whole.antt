-- The tree of an accepted text.
use Rattle.std.proofs.Common.{◌≡◌, ℕ, ◌≤◌, Bool, true, false, List, get_or, Option, Some, None, Result, Ok, Err, refl, subst, ◌∙◌, nat_lt, if◌then◌else◌}
use Rattle.std.specs.List.{All}
use Rattle.std.proofs.lemmas.Bool.{ltb-false}
use Rattle.syn_base.specs.declared.limits.LimitFault.{LimitFault}
use Rattle.syn_base.specs.declared.limits.LimitKind.TheVariants.{Operations}
use Rattle.syn_base.specs.Limits.{bound_of}
use Rattle.text_lines.specs.Refusals.{Limit}
use Rattle.algo_laws.specs.Refusals.{AlgoRefusal}
use Rattle.algo_laws.specs.Tree.{Vertex}
use Rattle.algo_laws.specs.Counted.{operations}
use Rattle.algo_laws.specs.declared.Def.{Def}
use Rattle.algo_laws.specs.declared.Reference.{Reference}
use Rattle.algo_laws.specs.Resolved.{resolution_of}
use Rattle.algo_laws.specs.WellRead.{AreWellRead}
use Rattle.algo_laws.specs.Periods as text
use Rattle.algo_laws.proofs.Lines.{accepted_well}
use Rattle.algo_laws.proofs.Marks.{accepted_marked}
use Rattle.multi_period.specs.declared.mark.Mark.{Mark}
use Rattle.multi_period.specs.Periods.{periods}
use Rattle.multi_period.proofs.Main.{periods-keep}
use Rattle.multi_period.proofs.Trees.{tree-made}
use Rattle.elaboration.specs.Marking.{marking_of}
use Rattle.elaboration.specs.Stand.{IsPeriod, HavePeriods}
use Rattle.elaboration.proofs.Trees.{marks_stand}
use Rattle.elaboration.specs.Elaborated.{made_by, marked_by, resolved_by}
use Rattle.elaboration.specs.Laws.{AcceptedAreElaborated, IsElaborated}
use Rattle.wiring_laws.specs.Pruned.{pruned}
use Rattle.wiring_laws.proofs.Valid.{tree-pruned}
use Rattle.elaboration.proofs.PrunedMarks.{stand-pruned}
use Rattle.elaboration.proofs.PrunedMeaning.{acts-pruned}
use Rattle.elaboration.proofs.Resolved.{not_given, resolved_tree, same_tree}
use Rattle.algo_laws.specs.Periods.{references_of}

-- the made tree, or so many operations, which are too many
abbrev within : Vertex → Result Vertex LimitFault
within made = Ok made

abbrev above : ℕ → Result Vertex LimitFault
above count = Err (record { which = Operations; count = count; bound = bound_of Operations })

module _ (ds : List Def) (read : AreWellRead ds) (have : HavePeriods ds) where
  module _ (resolved : Vertex) (marks : List Mark) (r : resolution_of ds ≡ Ok resolved) (m : marking_of ds ≡ Ok marks) where
    abbrev tree : Vertex
    tree = pruned resolved

    whole : operations (periods marks tree) ≤ 2048 → IsElaborated ds (periods marks tree)
    whole few =
        let whole-tree = resolved_tree ds resolved read r in
        let cut = tree-pruned resolved whole-tree in
        let may = marks_stand ds resolved marks read have r m in
        let stand = stand-pruned marks resolved may in
        record {
          resolved = resolved;
          marks = marks;
          resolves = r;
          marked = m;
          may = may;
          made_is = refl;
          meaning = λ rows k. periods-keep marks tree cut stand.stand rows k ∙ acts-pruned marks resolved whole-tree rows k;
          tree = tree-made marks tree cut stand.stand few;
        }

    by_size : (made : Vertex) (b : Bool) → nat_lt 2048 (operations (periods marks tree)) ≡ b
        → made_by (if b then above (operations (periods marks tree)) else within (periods marks tree)) ≡ Ok made
        → IsElaborated ds made
    by_size made true t e = absurd (not_given (Limit (record { which = Operations; count = operations (periods marks tree); bound = bound_of Operations })) made e)
    by_size made false f e = subst (IsElaborated ds) (same_tree (periods marks tree) made e) (whole (ltb-false 2048 (operations (periods marks tree)) f))

  by_marks : (resolved : Vertex) → resolution_of ds ≡ Ok resolved → (o : Result (List Mark) AlgoRefusal) → marking_of ds ≡ o
      → (made : Vertex) → marked_by (pruned resolved) o ≡ Ok made → IsElaborated ds made
  by_marks resolved r (Ok marks) m made e = by_size resolved marks r m made (nat_lt 2048 (operations (periods marks (pruned resolved)))) refl e
  by_marks resolved r (Err fault) m made e = absurd (not_given fault made e)

  by_tree : (o : Result Vertex AlgoRefusal) → resolution_of ds ≡ o → (made : Vertex) → resolved_by ds o ≡ Ok made → IsElaborated ds made
  by_tree (Ok resolved) r made e = by_marks resolved r (marking_of ds) refl made e
  by_tree (Err fault) r made e = absurd (not_given fault made e)

-- what the text says of its marks, version by version, without the version
period : (version : ℕ) (o : Option ℕ) → text.IsPeriod version o → IsPeriod o
period version None h = tt
period version (Some n) h = (h.1, h.2)

each_period : (version : ℕ) (rs : List Reference) → All (λ r. text.IsPeriod version r.every) rs → All (λ r. IsPeriod r.every) rs
each_period version rs h = λ k d lt. period version (get_or rs k d).every (h k d lt)

pub have_periods : (version : ℕ) (ds : List Def) → All (λ d. text.HasPeriods version d.body) ds → HavePeriods ds
have_periods version ds h = λ k d lt. each_period version (references_of (get_or ds k d).body) (h k d lt)

pub accepted_elaborated : AcceptedAreElaborated
accepted_elaborated text defs made says e =
    by_tree defs.defs (accepted_well text defs says) (have_periods defs.version defs.defs (accepted_marked text defs says)) (resolution_of defs.defs) refl made e
