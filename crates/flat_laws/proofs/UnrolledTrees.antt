-- An unrolled tree is a valid tree.
use Rattle.std.proofs.Common.{◌≡◌, ◌≤◌, [], sym, ap, ◌∙◌, subst}
use Rattle.algo_tree.specs.Tree.{Label, Kind, graph, Vertex, vertex, Vertices}
use Rattle.algo_tree.specs.Meaning.{vertices_in}
use Rattle.algo_tree.specs.Typed.{label_of}
use Rattle.algo_tree.specs.Ends.{NoneInside, AreEndsNumbered}
use Rattle.algo_tree.specs.Valid.{IsTree}
use Rattle.flat_laws.specs.Unrolled.{unrolled_at, unroll, unroll_all}
use Rattle.flat_laws.proofs.Labels.{unrolled_kind, label-unroll}
use Rattle.flat_laws.proofs.UnrolledWellness.{well-unroll}
use Rattle.flat_laws.proofs.UnrolledTyping.{typed-unroll}
use Rattle.flat_laws.proofs.UnrolledCounting.{counted-unroll}
use Rattle.flat_laws.proofs.UnrolledNames.{names-unroll}
use Rattle.flat_laws.proofs.UnrollBounds.{unroll-keeps}
use Rattle.flat_laws.proofs.UnrolledEndings.{inside-unroll, numbered-unroll}

-- a graph has the unrolled vertices inside
inside-graph : (l : Label) (k : Kind) (vs : Vertices) → k ≡ graph [] → vertices_in (unrolled_at l k vs) ≡ vs
inside-graph l k vs e = ap (λ x. vertices_in (unrolled_at l x vs)) e

inside-main : (main : Vertex) → (label_of main).kind ≡ graph [] → vertices_in (unroll main) ≡ unroll_all (vertices_in main)
inside-main (vertex l us) e = inside-graph l l.kind (unroll_all us) e

pub tree-unroll : (main : Vertex) → IsTree main → IsTree (unroll main)
tree-unroll main h =
    let inner = inside-main main h.portless.kind in
    record {
      portless = record {
        kind = ap (λ l. l.kind) (label-unroll main) ∙ ap unrolled_kind h.portless.kind;
        ins = ap (λ l. l.ins) (label-unroll main) ∙ h.portless.ins;
      };
      well = well-unroll main h.well;
      typed = typed-unroll main h.well [] h.typed;
      inside = subst NoneInside (sym inner) (inside-unroll (vertices_in main) h.inside);
      numbered = subst AreEndsNumbered (sym inner) (numbered-unroll (vertices_in main) h.numbered);
      few = subst (λ m. m ≤ 2048) (sym (counted-unroll main h.well)) h.few;
      named = names-unroll main h h.named;
      bounded = unroll-keeps main h h.bounded;
    }
