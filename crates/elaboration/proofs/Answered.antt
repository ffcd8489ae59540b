-- What is answered of definitions, from what resolving and the marks answered.
use Rattle.std.proofs.Common.{◌≡◌, ◌==◌, true, List, length, Result, Ok, Err, refl, ap, ◌∙◌}
use Rattle.text_lines.specs.Refusals.{Gives, GivesList, Refused, Limit}
use Rattle.text_lines.specs.declared.fault.TextError.TheVariants as error
use Rattle.algo_laws.specs.Refusals.{AlgoError, AlgoRefusal}
use Rattle.algo_laws.specs.Tree.{Vertex}
use Rattle.algo_laws.specs.declared.Def.{Def}
use Rattle.algo_laws.specs.Resolved.{resolution_of}
use Rattle.algo_laws.specs.WellRead.{AreWellRead}
use Rattle.algo_resolve.specs.Rounds.{pruned_result}
use Rattle.multi_period.specs.declared.fault.PeriodError.{PeriodError}
use Rattle.multi_period.specs.declared.fault.PeriodError.TheVariants as period
use Rattle.multi_period.specs.declared.Mark.{Mark}
use Rattle.multi_period.specs.Within as made
use Rattle.wiring_laws.specs.Pruned.{pruned}
use Rattle.elaboration.specs.Marking.{marking_of}
use Rattle.elaboration.specs.Elaborated.{made_by, marked_by, of_periods, resolved_by}
use Rattle.elaboration.proofs.Resolved.{gives, not_given, same_tree, unmarked_is}

abbrev stops : AlgoRefusal → Result Vertex AlgoRefusal
stops e = Err e

not_stopped : (t : Vertex) (e : AlgoRefusal) → pruned_result (Ok t) ≡ stops e → ⊥
not_stopped t e h = cc

-- what was resolved before it was pruned
pub record IsResolved (x : Result Vertex AlgoRefusal) (t : Vertex) : Type 0 where
  pub main : Vertex
  pub resolves : x ≡ Ok main
  pub is_pruned : pruned main ≡ t

pub was_tree : (x : Result Vertex AlgoRefusal) (t : Vertex) → pruned_result x ≡ Ok t → IsResolved x t
was_tree (Ok u) t h = record { main = u; resolves = refl; is_pruned = same_tree (pruned u) t h }
was_tree (Err e) t h = absurd (not_given e t h)

was_error : (x : Result Vertex AlgoRefusal) (e : AlgoRefusal) → pruned_result x ≡ Err e → x ≡ Err e
was_error (Ok u) e h = absurd (not_stopped u e h)
was_error (Err f) e h = h

module _ (ds : List Def) where
  abbrev result : Result Vertex AlgoRefusal
  result = resolved_by ds (resolution_of ds)

  -- what resolving refuses
  pub resolving_refused : (e : AlgoError) → Gives {A = Vertex} (Err e) (pruned_result (resolution_of ds)) → Gives {A = Vertex} (Err e) result
  resolving_refused (error.Refused f) h = ap (resolved_by ds) (was_error (resolution_of ds) (Refused f) h)
  resolving_refused (error.Limit f) h = ap (resolved_by ds) (was_error (resolution_of ds) (Limit f) h)
  resolving_refused error.OutOfMemory h = tt

  module _ (tree : Vertex) (given : pruned_result (resolution_of ds) ≡ Ok tree) where
    abbrev before : IsResolved (resolution_of ds) tree
    before = was_tree (resolution_of ds) tree given

    by_tree : result ≡ marked_by tree (marking_of ds)
    by_tree = ap (resolved_by ds) before.resolves ∙ ap (λ (t : Vertex). marked_by t (marking_of ds)) before.is_pruned

    abbrev by_marks : Result (List Mark) AlgoRefusal → Result Vertex AlgoRefusal
    by_marks marks = marked_by tree marks

    -- a mark that is refused
    pub marks_refused : (e : AlgoError) → GivesList (Err e) (marking_of ds) → Gives {A = Vertex} (Err e) result
    marks_refused (error.Refused f) h = by_tree ∙ ap by_marks h
    marks_refused (error.Limit f) h = by_tree ∙ ap by_marks h
    marks_refused error.OutOfMemory h = tt

    module _ (marks : List Mark) (marked : marking_of ds ≡ Ok marks) where
      -- no mark: the tree itself
      pub unmarked_stays : AreWellRead ds → (length marks == 0) ≡ true → result ≡ Ok tree
      unmarked_stays read none = unmarked_is ds before.main marks read before.resolves marked none ∙ ap gives before.is_pruned

      made_is : result ≡ made_by (made.made_within marks tree)
      made_is = by_tree ∙ ap by_marks marked

      -- the made tree, or its refusal
      pub made_stays : (u : Vertex) → made.made_within marks tree ≡ Ok u → result ≡ Ok u
      made_stays u is = made_is ∙ ap made_by is

      pub made_refused : (e : PeriodError) → made.Gives (Err e) (made.made_within marks tree) → Gives {A = Vertex} (Err (of_periods e)) result
      made_refused (period.Limit f) h = made_is ∙ ap made_by h
      made_refused period.OutOfMemory h = tt
