-- The main graph of a valid tree.
use Rattle.std.proofs.Common.{◌≡◌, ℕ, zero, suc, List, [], Option, Some, None, refl, sym, ap, ◌∙◌, subst}
use Rattle.algo_tree.specs.Level.{State, Path, below}
use Rattle.algo_tree.specs.Order.{IsAcyclic}
use Rattle.algo_tree.specs.Parts.{HasDistinctParts}
use Rattle.algo_tree.specs.Tree.{Label, Kind, graph, Vertex, vertex, Vertices, no_vertices, and_vertex}
use Rattle.algo_tree.specs.Meaning.{nodes, vertices_in, act_row}
use Rattle.algo_tree.specs.Typed.{IsKindTyped, IsBodyTyped, AllTyped, outs_of}
use Rattle.algo_tree.specs.Well.{IsKindWell}
use Rattle.algo_tree.specs.Valid.{IsTree}
use Rattle.multi_period.specs.declared.mark.Mark.{Mark}
use Rattle.multi_period.specs.Marks.{mark_at, MayHave, AreMarked}
use Rattle.multi_period.specs.Meaning.{act_row_at}
use Rattle.multi_period.specs.Periods.{all_periods, periods}
use Rattle.multi_period.specs.Laws.{PeriodsKeep, moved, ValuesMoved, PeriodsKeepValues}
use Rattle.multi_period.proofs.Reference.{Able, Rel}
use Rattle.multi_period.proofs.Levels.{vertex_at}
use Rattle.multi_period.proofs.Wide.{wide}
use Rattle.multi_period.proofs.Whole.{as_main, taken, kept, always}
use Rattle.syn_base.specs.Vectors.{Values}

abbrev IsKindTypedAt : Kind → Label → Vertices → Type 0
IsKindTypedAt k l us = IsKindTyped k [] l.outs (outs_of us) (λ own outs. AllTyped own outs us) (λ fed. IsBodyTyped fed us)

abbrev AbleOf : Option Mark → Vertex → Type 0
AbleOf o (vertex l us) = Able o l us

able-at : (mark : ℕ → Option Mark) (own : List ℕ) (outs : List (List ℕ)) (us : Vertices) → AreMarked mark us → AllTyped own outs us
    → (r : ℕ) (u : Vertex) → vertex_at us r ≡ Some u → AbleOf (mark r) u
able-at mark own outs no_vertices may typed r u e = cc
able-at mark own outs (and_vertex (vertex k ws) us) may typed zero u e =
    let same : vertex k ws ≡ u = cc in
    subst (AbleOf (mark 0)) same (here (mark 0) may.0)
  where
    here : (o : Option Mark) → MayHave o k → Able o k ws
    here None h = tt
    here (Some m) h = (h, wide k.kind k.outs (nodes ws) _ _ _ _ h.kind typed.0.1.1)
able-at mark own outs (and_vertex (vertex k ws) us) may typed (suc r) u e = able-at (λ r. mark (suc r)) own outs us may.1 typed.1 r u e

keeps-at : (marks : List Mark) (l : Label) (us : Vertices) → l ≡ as_main l → AreMarked (mark_at marks) us → IsAcyclic (nodes us) → HasDistinctParts (nodes us) → AllTyped [] (outs_of us) us
    → PeriodsKeep marks (vertex l us)
keeps-at marks l us e may acyclic distinct typed =
    subst (λ x. PeriodsKeep marks (vertex x us)) (sym e)
    (λ rows k. taken (mark_at marks) l us acyclic distinct (λ r l vs is. able-at (mark_at marks) [] (outs_of us) us may typed r (vertex l vs) is) rows k)

same_label : (l : Label) → l.kind ≡ graph [] → l ≡ as_main l
same_label l e = ap (λ k. record { part = l.part; definition = l.definition; ins = l.ins; guards = l.guards; outs = l.outs; names = l.names; kind = k }) e

pub periods-keep : (marks : List Mark) (main : Vertex) → IsTree main → AreMarked (mark_at marks) (vertices_in main) → PeriodsKeep marks main
periods-keep marks (vertex l us) tree may =
    let well = subst (λ k. IsKindWell k l.guards us) tree.portless.kind tree.well.0 in
    let typed = subst (λ k. IsKindTypedAt k l us) tree.portless.kind tree.typed.1 in
    keeps-at marks l us (same_label l tree.portless.kind) may well.1.0 well.1.1 typed.0

-- nothing marked
none-made : (us : Vertices) → all_periods (mark_at []) us ≡ us
none-made no_vertices = refl
none-made (and_vertex u us) = ap (and_vertex u) (none-made us)

pub unmarked-stays : (main : Vertex) → periods [] main ≡ main
unmarked-stays (vertex l us) = ap (vertex l) (none-made us)

none-marked : (us : Vertices) → AreMarked (mark_at []) us
none-marked no_vertices = tt
none-marked (and_vertex (vertex l vs) us) = (tt, none-marked us)

pub unmarked : (main : Vertex) → IsTree main → (rows : List Values) (k : ℕ) → act_row_at [] main rows k ≡ act_row main rows k
unmarked (vertex l us) tree rows k =
    sym (periods-keep [] (vertex l us) tree (none-marked us) rows k) ∙ ap (λ vs. act_row (vertex l vs) rows k) (none-made us)

-- what is kept
values-at : (o : Option Mark) (l : Label) (vs : Vertices) (k : ℕ) (kept : Values) (st st' : State) → Rel o l vs k kept st st' → (q : Path) → st' (moved o q) ≡ st q
values-at None l vs k kept st st' rel q = ap (λ s. s q) rel
values-at (Some m) l vs k kept st st' rel q = rel.runs q

values-moved : (mark : ℕ → Option Mark) (st st' : State) (k : ℕ) (kept : ℕ → Label → Values) (us : Vertices)
    → ((r : ℕ) (l : Label) (vs : Vertices) → vertex_at us r ≡ Some (vertex l vs) → Rel (mark r) l vs k (kept r l) (below l.part st) (below l.part st')) → ValuesMoved mark st st' us
values-moved mark st st' k kept no_vertices inv = tt
values-moved mark st st' k kept (and_vertex (vertex l vs) us) inv = (
  values-at (mark 0) l vs k (kept 0 l) (below l.part st) (below l.part st') (inv 0 l vs refl),
  values-moved (λ r. mark (suc r)) st st' k (λ r. kept (suc r)) us (λ r l vs is. inv (suc r) l vs is),
)

values-by : (marks : List Mark) (l : Label) (us : Vertices) → l ≡ as_main l → AreMarked (mark_at marks) us → IsAcyclic (nodes us) → HasDistinctParts (nodes us) → AllTyped [] (outs_of us) us
    → PeriodsKeepValues marks (vertex l us)
values-by marks l us e may acyclic distinct typed =
    let able = λ (r : ℕ) (l : Label) (vs : Vertices) (is : vertex_at us r ≡ Some (vertex l vs)). able-at (mark_at marks) [] (outs_of us) us may typed r (vertex l vs) is in
    subst (λ x. PeriodsKeepValues marks (vertex x us)) (sym e)
    (λ rows k. values-moved (mark_at marks) _ _ k (kept (mark_at marks) l us acyclic distinct able rows k) us (always (mark_at marks) l us acyclic distinct able rows k))

pub values-keep : (marks : List Mark) (main : Vertex) → IsTree main → AreMarked (mark_at marks) (vertices_in main) → PeriodsKeepValues marks main
values-keep marks (vertex l us) tree may =
    let well = subst (λ k. IsKindWell k l.guards us) tree.portless.kind tree.well.0 in
    let typed = subst (λ k. IsKindTypedAt k l us) tree.portless.kind tree.typed.1 in
    values-by marks l us (same_label l tree.portless.kind) may well.1.0 well.1.1 typed.0
