-- A guarded tree is a valid tree.
use Rattle.std.proofs.Common.{◌≡◌, ◌≤◌, [], map, sym, ap, ◌∙◌, subst}
use Rattle.algo_tree.specs.Tree.{Label, graph, Vertex, vertex, Vertices}
use Rattle.algo_tree.specs.Meaning.{vertices_in}
use Rattle.algo_tree.specs.Typed.{label_of, IsTyped}
use Rattle.algo_tree.specs.Ends.{NoneInside, AreEndsNumbered}
use Rattle.algo_tree.specs.Valid.{IsTree}
use Rattle.algo_tree.specs.NoRepeat.{HasNoRepeat}
use Rattle.flat_laws.specs.Guarded.{shift, graph_under, guarded_by, guarded_all, guarded_cases, guard}
use Rattle.flat_laws.proofs.GuardedWellness.{well-guarded}
use Rattle.flat_laws.proofs.GuardedTyping.{lens_under, typed-guarded}
use Rattle.flat_laws.proofs.GuardedCounting.{counted-guarded}
use Rattle.flat_laws.proofs.GuardedNames.{names-guard}
use Rattle.flat_laws.proofs.GuardBounds.{guard-keeps}
use Rattle.flat_laws.proofs.GuardedEndings.{inside-guarded, numbered-guarded}

-- what the main graph becomes
main_guarded : (l : Label) (us : Vertices) → l.kind ≡ graph [] → guard (vertex l us) ≡ graph_under [] 0 l [] (guarded_all [] 0 us)
main_guarded l us e = ap (λ k. guarded_by [] 0 l k us (λ inside m. guarded_all inside m us) (λ inside m values. guarded_cases inside m values 0 us)) e

pub tree-guard : (main : Vertex) → IsTree main → HasNoRepeat main → IsTree (guard main)
tree-guard (vertex l us) h none =
    let is = main_guarded l us h.portless.kind in
    let inner : vertices_in (guard (vertex l us)) ≡ guarded_all [] 0 us = ap vertices_in is in
    record {
      portless = record {
        kind = ap (λ v. (label_of v).kind) is;
        ins = ap (λ v. (label_of v).ins) is ∙ ap (λ ss. map (shift 0) ss) h.portless.ins;
      };
      well = well-guarded [] 0 (vertex l us) h.well none;
      typed = subst (λ k. IsTyped (lens_under k [] []) (guard (vertex l us))) h.portless.kind (typed-guarded [] 0 (vertex l us) h.well none (λ s. 0) tt [] h.typed);
      inside = subst NoneInside (sym inner) (inside-guarded [] 0 us h.inside);
      numbered = subst AreEndsNumbered (sym inner) (numbered-guarded [] 0 us h.numbered);
      few = subst (λ m. m ≤ 2048) (sym (counted-guarded [] 0 (vertex l us) none)) h.few;
      named = names-guard (vertex l us) h h.named;
      bounded = guard-keeps (vertex l us) h h.bounded;
    }
