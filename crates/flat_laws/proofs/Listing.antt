-- The flat graph of a flat list has its operations.
use Rattle.std.proofs.Common.{◌≡◌, ℕ, suc, ◌+◌, List, [], ◌∷◌, ◌++◌, length, map, get_or, length-append, refl, sym, ap, ap₂, ◌∙◌, add-zero}
use Rattle.std.proofs.lemmas.List.{append_assoc}
use Rattle.algo_tree.specs.declared.Source.{Source}
use Rattle.algo_tree.specs.declared.Source.TheVariants.{Own, Of}
use Rattle.algo_tree.specs.declared.Guard.{Guard}
use Rattle.algo_tree.specs.Tree as tree
use Rattle.algo_tree.specs.Valid.{IsTree}
use Rattle.flat_graph.specs.Expr.{Expr}
use Rattle.flat_laws.specs.Unrolled.{unroll}
use Rattle.algo_tree.proofs.Lists.{append_right}
use Rattle.flat_laws.proofs.Unrepeated.{no-unroll}
use Rattle.flat_laws.proofs.UnrolledTrees.{tree-unroll}
use Rattle.flat_laws.specs.Guarded.{guard}
use Rattle.flat_laws.proofs.GuardedTrees.{tree-guard}
use Rattle.flat_laws.specs.Flat.{Operation, Task, runs, gets, sets}
use Rattle.flat_laws.specs.Inlined.{operations}
use Rattle.flat_laws.specs.FlatOf.{flat_source, flat_guard, flat_kind, body_of, vertex_of, vertices_from, bodies_of, flat_of}
use Rattle.flat_laws.specs.Names.{name_of}
use Rattle.flat_laws.specs.Stands.{task_of}
use Rattle.flat_laws.proofs.Flattened.{flattened-plain}
use Rattle.flat_laws.specs.Linked.{IsFound, AreFound, GuardsFound, AllLinked}
use Rattle.flat_laws.specs.Origins.{Origin}
use Rattle.flat_laws.specs.Table.{Condition}
use Rattle.flat_laws.specs.Listed.{names_of, source_origin, guard_condition, vertex_row, HasOperations}
use Rattle.flat_laws.proofs.UnrolledRows.{table-unroll}
use Rattle.flat_laws.proofs.GuardedRows.{conditions, table-guard}
use Rattle.flat_laws.proofs.Linking.{linked_main}
use Rattle.flat_laws.proofs.InlinedRows.{origin_of, operation_row, IsFlatKind, IsFlatTask, AllFlat, table-inlined, all-flat}

-- the names of the vertices are those of the operations
names-are : (v b : ℕ) (ops : List Operation) → names_of (vertices_from v b ops) ≡ map name_of ops
names-are v b [] = refl
names-are v b (op ∷ ops) = ap (λ (xs : List (List ℕ)). name_of op ∷ xs) (names-are (suc v) (b + length (body_of op.task)) ops)

flat-origin : (names : List (List ℕ)) (s : Source) → IsFound s → source_origin names (flat_source s) ≡ origin_of names s
flat-origin names (Own k) h = absurd h
flat-origin names (Of r q) h = refl

flat-ins : (names : List (List ℕ)) (ss : List Source) → AreFound ss → map (source_origin names) (map flat_source ss) ≡ map (origin_of names) ss
flat-ins names [] h = refl
flat-ins names (s ∷ ss) h = ap₂ (λ x xs. x ∷ xs) (flat-origin names s h.0) (flat-ins names ss h.1)

flat-conditions : (names : List (List ℕ)) (gs : List Guard) → GuardsFound gs → map (guard_condition names) (map flat_guard gs) ≡ conditions (origin_of names) gs
flat-conditions names [] h = refl
flat-conditions names (g ∷ gs) h =
    ap₂ (λ (o : Origin) (cs : List Condition). record { source = o; values = g.values; case = g.case } ∷ cs) (flat-origin names g.source h.0) (flat-conditions names gs h.1)

-- the body that an operation brings stands where it is looked for
the_body : (before : List (List Expr)) (es : List Expr) (more : List (List Expr)) → get_or (before ++ (es ∷ more)) (length before) [] ≡ es
the_body before es more = ap (λ r. get_or (before ++ (es ∷ more)) r []) (sym (add-zero (length before))) ∙ append_right before (es ∷ more) 0 []

same-kind : (before more : List (List Expr)) (k : tree.Kind) → IsFlatKind k → task_of (before ++ (body_of (runs k) ++ more)) (flat_kind (length before) (runs k)) ≡ runs k
same-kind before more (tree.function es) h = ap (λ x. runs (tree.function x)) (the_body before es more)
same-kind before more (tree.sensor m) h = refl
same-kind before more (tree.actuator m) h = refl
same-kind before more (tree.constant v) h = refl
same-kind before more (tree.delay vs) h = absurd h
same-kind before more tree.explode h = refl
same-kind before more tree.implode h = refl
same-kind before more (tree.merge values) h = refl
same-kind before more (tree.graph outs) h = absurd h
same-kind before more (tree.switch values names) h = absurd h
same-kind before more (tree.repeat n feeds gives) h = absurd h

same-task : (before more : List (List Expr)) (t : Task) → IsFlatTask t → task_of (before ++ (body_of t ++ more)) (flat_kind (length before) t) ≡ t
same-task before more (runs k) h = same-kind before more k h
same-task before more (gets v) h = refl
same-task before more sets h = refl

module _ (names : List (List ℕ)) where
  same-row : (before more : List (List Expr)) (v : ℕ) (op : Operation) → IsFlatTask op.task → AreFound op.ins × GuardsFound op.guards
      → vertex_row names (before ++ (body_of op.task ++ more)) (vertex_of v (length before) op) ≡ operation_row names op
  same-row before more v op h found =
      ap (λ t. record {
        name = name_of op;
        definition = op.definition;
        ins =
            map (source_origin names) (map flat_source op.ins);
        conditions = map (guard_condition names) (map flat_guard op.guards);
        outs =
            op.outs;
        task = t;
      }) (same-task before more op.task h)
      ∙ ap₂ (λ os cs. record { name = name_of op; definition = op.definition; ins = os; conditions = cs; outs = op.outs; task = op.task })
      (flat-ins names op.ins found.0) (flat-conditions names op.guards found.1)

  same-rows : (before : List (List Expr)) (v : ℕ) (ops : List Operation) → AllFlat ops → AllLinked ops
      → map (vertex_row names (before ++ bodies_of ops)) (vertices_from v (length before) ops) ≡ map (operation_row names) ops
  same-rows before v [] h found = refl
  same-rows before v (op ∷ ops) h found =
      let own = body_of op.task in
      let whole : before ++ (own ++ bodies_of ops) ≡ (before ++ own) ++ bodies_of ops = sym (append_assoc before own (bodies_of ops)) in
      ap₂ (λ r rs. r ∷ rs) (same-row before (bodies_of ops) v op h.0 found.0) (
      ap₂ (λ bs b. map (vertex_row names bs) (vertices_from (suc v) b ops)) whole (sym (length-append before own)) ∙ same-rows (before ++ own) (suc v) ops h.1 found.1
      )

pub has-operations : (main : tree.Vertex) → IsTree main → HasOperations main (flat_of main)
has-operations main h =
    let one = unroll main in
    let made = tree-unroll main h in
    let plain = flattened-plain main h in
    let last = tree-guard one made (no-unroll main) in
    let ops = operations (guard one) in
    ap (λ (names : List (List ℕ)). map (vertex_row names (bodies_of ops)) (vertices_from 0 0 ops)) (names-are 0 0 ops)
    ∙ same-rows (map name_of ops) [] 0 ops (all-flat (guard one) last plain) (linked_main (guard one) last plain)
    ∙ table-inlined (guard one) last plain
    ∙ table-guard one made (no-unroll main)
    ∙ table-unroll main h
