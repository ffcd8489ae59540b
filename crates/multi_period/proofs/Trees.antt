-- The made tree is a valid tree where it is small enough.
use Rattle.std.proofs.Common.{List, [], sym, subst}
use Rattle.algo_tree.specs.Tree.{Label, Kind, graph, Vertex, vertex, Vertices}
use Rattle.algo_tree.specs.Meaning.{vertices_in}
use Rattle.algo_tree.specs.Typed.{outs_of, AllTyped, IsBodyTyped, IsKindTyped}
use Rattle.algo_tree.specs.Well.{IsKindWell}
use Rattle.algo_tree.specs.Valid.{IsTree}
use Rattle.multi_period.specs.declared.mark.Mark.{Mark}
use Rattle.multi_period.specs.Marks.{mark_at, AreMarked}
use Rattle.multi_period.specs.Periods.{all_periods}
use Rattle.multi_period.specs.Laws.{PeriodsAreTrees}
use Rattle.multi_period.proofs.Levels.{made-distinct}
use Rattle.multi_period.proofs.Names.{bounds-keep, names-keep}
use Rattle.multi_period.proofs.Wellness.{well-made, made-acyclic}
use Rattle.multi_period.proofs.Typing.{outs-made, typed-made}
use Rattle.multi_period.proofs.Endings.{inside-made, numbered-made}

abbrev IsKindTypedAt : Kind → Label → Vertices → Type 0
IsKindTypedAt k l us = IsKindTyped k [] l.outs (outs_of us) (λ own outs. AllTyped own outs us) (λ fed. IsBodyTyped fed us)

pub tree-made : (marks : List Mark) (main : Vertex) → IsTree main → AreMarked (mark_at marks) (vertices_in main) → PeriodsAreTrees marks main
tree-made marks (vertex l us) tree may few =
    let mark = mark_at marks in
    let made = all_periods mark us in
    let well : IsKindWell (graph []) l.guards us = subst (λ k. IsKindWell k l.guards us) tree.portless.kind tree.well.0 in
    let typed : IsKindTypedAt (graph []) l us = subst (λ k. IsKindTypedAt k l us) tree.portless.kind tree.typed.1 in
    record {
      portless = record { kind = tree.portless.kind; ins = tree.portless.ins };
      well = (
        subst (λ k. IsKindWell k l.guards made) (sym tree.portless.kind) (well.0, (made-acyclic mark us may well.1.0, made-distinct mark us well.1.1)),
        well-made mark us may tree.well.1,
      );
      typed = (
        tree.typed.0,
        subst (λ k. IsKindTypedAt k l made) (sym tree.portless.kind) (subst (λ os. AllTyped [] os made) (sym (outs-made mark us)) (typed-made mark [] (outs_of us) us may typed.0), typed.1),
      );
      inside = inside-made mark us may tree.inside;
      numbered = numbered-made mark us may tree.numbered;
      few = few;
      named = names-keep marks (vertex l us) may tree.named;
      bounded = bounds-keep marks (vertex l us) tree.bounded;
    }
