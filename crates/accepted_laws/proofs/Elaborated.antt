-- Marked references become graphs, in which each repetition still has the lines of a text.
use Rattle.std.proofs.Common.{◌≡◌, ℕ, suc, List, [], ◌∷◌, ◌++◌, length, map, Option, Some, None, sym, subst, ◌∙◌, ap}
use Rattle.algo_laws.specs.Tree.{Label, Vertex, vertex, Vertices, no_vertices, and_vertex}
use Rattle.algo_laws.specs.View.{vertices_of}
use Rattle.algo_laws.specs.declared.Def.{Def}
use Rattle.algo_laws.specs.Resolved.{tree_of, resolved_by}
use Rattle.algo_laws.proofs.Lines.{accepted_well}
use Rattle.multi_period.specs.declared.mark.Mark.{Mark}
use Rattle.multi_period.specs.Marks.{mark_at}
use Rattle.multi_period.specs.Periods.{keep, body, period, period_by, all_periods, periods}
use Rattle.elaboration.specs.Laws.{IsElaborated}
use Rattle.elaboration.specs.Pruned.{pruned}
use Rattle.elaboration.proofs.Resolved.{not_refused, same_tree}
use Rattle.elaboration.proofs.Whole.{accepted_elaborated}
use Rattle.accepted_laws.specs.TextLines.{IsVertexOfText, AreVerticesOfText, ElaboratedLinesStandInTextOrder}
use Rattle.accepted_laws.proofs.PrunedEnds.{of-text-pruned}
use Rattle.accepted_laws.proofs.Trees.{stand_in_order}
use Rattle.syn_base.specs.Numbers.{numbers_below}

module _ (ds : List Def) where
  -- the delays that keep outputs are no repetitions
  kept : (l : Label) (us : Vertices) → IsVertexOfText ds (body l us) → (is : List ℕ) → AreVerticesOfText ds (vertices_of (map (keep l) is ++ body l us ∷ []))
  kept l us h [] = (h, tt)
  kept l us h (i ∷ is) = ((tt, tt), kept l us h is)

  period_of_text : (m : Mark) (l : Label) (us : Vertices) → IsVertexOfText ds (vertex l us) → IsVertexOfText ds (period m l us)
  period_of_text m l us h = (tt, ((tt, tt), kept l us (tt, ((tt, (h, tt)), ((tt, tt), tt))) (numbers_below (length l.outs))))

  one_of_text : (m : Option Mark) (u : Vertex) → IsVertexOfText ds u → IsVertexOfText ds (period_by m u)
  one_of_text None u h = h
  one_of_text (Some m) (vertex l us) h = period_of_text m l us h

  all_of_text : (mark : ℕ → Option Mark) (us : Vertices) → AreVerticesOfText ds us → AreVerticesOfText ds (all_periods mark us)
  all_of_text mark no_vertices h = tt
  all_of_text mark (and_vertex u us) h = (one_of_text (mark 0) u h.0, all_of_text (λ r. mark (suc r)) us h.1)

  pub periods_of_text : (marks : List Mark) (main : Vertex) → IsVertexOfText ds main → IsVertexOfText ds (periods marks main)
  periods_of_text marks (vertex l us) h = (h.0, all_of_text (mark_at marks) us h.1)

pub elaborated_in_order : ElaboratedLinesStandInTextOrder
elaborated_in_order text defs made says e =
    let ds = defs.defs in
    let is : IsElaborated ds made = accepted_elaborated text defs made says e in
    let none = not_refused ds is.resolved is.resolves in
    let same : tree_of ds ≡ is.resolved = same_tree (tree_of ds) is.resolved (sym (ap (resolved_by ds) none) ∙ is.resolves) in
    let stands = subst (IsVertexOfText ds) same (stand_in_order ds (accepted_well text defs says) none) in
    subst (IsVertexOfText ds) (sym is.made_is) (periods_of_text ds is.marks (pruned is.resolved) (of-text-pruned ds is.resolved stands))
