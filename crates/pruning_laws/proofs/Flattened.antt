-- A pruned tree has the flat graph of the tree.
use Rattle.std.proofs.Common.{◌≡◌, [], sym, ap, ◌∙◌}
use Rattle.algo_tree.specs.Tree.{Label, Kind, graph, Vertex, vertex, Vertices}
use Rattle.algo_tree.specs.Valid.{IsTree}
use Rattle.algo_tree.specs.Relabelled.{with_kind}
use Rattle.algo_tree.specs.NoRepeat.{HasNoRepeat}
use Rattle.flat_laws.specs.Plain.{IsPlain}
use Rattle.flat_laws.specs.Inlined.{operations, wire, wirings, inlined_all}
use Rattle.flat_laws.specs.Unrolled.{unroll, unroll_all, unrolled_at}
use Rattle.flat_laws.proofs.Unrepeated.{no-unroll}
use Rattle.flat_laws.proofs.UnrolledTrees.{tree-unroll}
use Rattle.flat_laws.specs.Guarded.{guard, graph_under, guarded_by, guarded_all, guarded_cases}
use Rattle.flat_laws.proofs.GuardedTrees.{tree-guard}
use Rattle.flat_laws.proofs.Uncased.{no_case, no_repeat}
use Rattle.flat_laws.proofs.Plain.{plain}
use Rattle.wiring_laws.specs.Pruned.{prune_all, pruned}
use Rattle.wiring_laws.proofs.Prunable.{CanPrune, can_prune}
use Rattle.pruning_laws.proofs.Inlined.{wirings-prune, inlined-prune_all}
use Rattle.pruning_laws.proofs.Guarded.{guarded_all-prune}
use Rattle.pruning_laws.proofs.Unrolled.{keeps, unroll_all-prune}

-- a main graph of which the inside is pruned: as each pass makes it of the main graph
unroll-main : (l : Label) (us : Vertices) (k : Kind) → k ≡ graph [] → unroll_all (prune_all us) ≡ prune_all (unroll_all us)
    → unrolled_at l k (unroll_all (prune_all us)) ≡ pruned (unrolled_at l k (unroll_all us))
unroll-main l us k e inner =
    ap (λ x. unrolled_at l x (unroll_all (prune_all us))) e ∙ ap (vertex (with_kind l (graph []))) inner ∙ ap (λ x. pruned (unrolled_at l x (unroll_all us))) (sym e)

pub pruned-unroll : (main : Vertex) → IsTree main → unroll (pruned main) ≡ pruned (unroll main)
pruned-unroll (vertex l us) h =
    unroll-main l us l.kind h.portless.kind (unroll_all-prune us h.well.1 ((keeps [] (vertex l us) h.well h.typed).1))

guard-main : (l : Label) (us : Vertices) (k : Kind) → k ≡ graph [] → guarded_all [] 0 (prune_all us) ≡ prune_all (guarded_all [] 0 us)
    → guarded_by [] 0 l k (prune_all us) (λ inside m. guarded_all inside m (prune_all us)) (λ inside m values. guarded_cases inside m values 0 (prune_all us))
    ≡ pruned (guarded_by [] 0 l k us (λ inside m. guarded_all inside m us) (λ inside m values. guarded_cases inside m values 0 us))
guard-main l us k e inner =
    ap (λ x. guarded_by [] 0 l x (prune_all us) (λ inside m. guarded_all inside m (prune_all us)) (λ inside m values. guarded_cases inside m values 0 (prune_all us))) e
    ∙ ap (graph_under [] 0 l []) inner
    ∙ ap (λ x. pruned (guarded_by [] 0 l x us (λ inside m. guarded_all inside m us) (λ inside m values. guarded_cases inside m values 0 us))) (sym e)

pub pruned-guard : (main : Vertex) → IsTree main → HasNoRepeat main → guard (pruned main) ≡ pruned (guard main)
pruned-guard (vertex l us) h none =
    guard-main l us l.kind h.portless.kind (guarded_all-prune [] 0 us ((can_prune [] (vertex l us) h.well h.typed).1) none.1)

list-pruned : (main : Vertex) → CanPrune main → IsPlain main → operations (pruned main) ≡ operations main
list-pruned (vertex l us) h plain =
    ap (λ ws. inlined_all (wire ws []) 0 (λ q. q) (prune_all us)) (wirings-prune 0 us h.1 plain.1) ∙ inlined-prune_all (wire (wirings 0 us) []) 0 (λ q. q) us h.1 plain.1

pub list-flattened : (main : Vertex) → IsTree main → operations (guard (unroll (pruned main))) ≡ operations (guard (unroll main))
list-flattened main h =
    let once = tree-unroll main h in
    let none = no-unroll main in
    let twice = tree-guard (unroll main) once none in
    ap (λ t. operations (guard t)) (pruned-unroll main h)
    ∙ ap operations (pruned-guard (unroll main) once none)
    ∙ list-pruned (guard (unroll main)) (can_prune [] (guard (unroll main)) twice.well twice.typed) (plain (guard (unroll main)) (no_repeat [] 0 (unroll main) none) (no_case [] 0 (unroll main)))
