-- What unrolling a vertex asks for, and what it answers, seen at a declared vertex.
use Rattle.std.proofs.Common.{◌≡◌, ℕ, zero, suc, ◌+◌, ◌*◌, ◌<◌, ◌≤◌, List, [], ◌∷◌, ◌++◌, length, get_or, map, refl, sym, ap, ap₂, ◌∙◌, subst, arith, mul_comm, le-mul_of_pos_right}
use Rattle.std.proofs.lemmas.List.{append_assoc}
use Rattle.std.proofs.lemmas.Grind.{common_steps}
use Rattle.std.specs.Prelude.{IfOk}
use Rattle.std.specs.declared.result.Result.{Result}
use Rattle.std.specs.declared.result.Result.TheVariants.{Ok, Err}
use Rattle.syn_base.specs.declared.memory.OutOfMemory.{OutOfMemory}
use Rattle.algo_tree.specs.declared.Feed.{Feed}
use Rattle.algo_tree.specs.declared.Give.{Give}
use Rattle.algo_tree.specs.Tree.{Label, Kind, graph, repeat, Vertex, vertex, Vertices, no_vertices, and_vertex}
use Rattle.algo_tree.specs.declared.Guard.{Guard}
use Rattle.algo_tree.specs.Counted.{operations, operations_by, operations_in}
use Rattle.algo_tree.specs.Meaning.{vertices_in}
use Rattle.algo_tree.specs.Typed.{label_of}
use Rattle.algo_tree.specs.View.{view, kind_view, label_view, vertices_of, vertices_view}
use Rattle.algo_tree.specs.Well.{fork_names, join_names, IsEmpty, IsKindWell, IsOne, IsWell, AllWell}
use Rattle.algo_tree.specs.declared.vertex.Vertex.{Vertex as Declared, out-Vertex}
use Rattle.algo_tree.specs.declared.vertex.Kind as declared
use Rattle.algo_tree.specs.declared.vertex.Kind.TheVariants.{Sensor, Actuator, Constant, Delay, Function, Explode, Implode, Merge, Switch, Repeat}
use Rattle.algo_tree.specs.declared.vertex.Kind.TheVariants.{Graph as DeclaredGraph}
use Rattle.algo_tree.proofs.Views.{view_out}
use Rattle.flat_laws.specs.Lines.{in_line_order}
use Rattle.algo_tree.specs.Relabelled.{with_kind}
use Rattle.flat_laws.specs.Unrolled.{explodes, copy, copies, implodes, give_sources, unrolled_inside, unrolled_at, unroll, unroll_all}
use Rattle.syn_base.specs.Numbers.{numbers_below}

abbrev pub inner_of : Declared → List Declared
inner_of u = (out-Vertex u).inner.items

-- counts
pub counted_out : (u : Declared) → operations (view u) ≡ operations_by (kind_view (out-Vertex u).kind) (operations_in (vertices_view (inner_of u)))
counted_out u = ap operations (view_out u)

pub record IsBounded (u : Declared) (n : ℕ) (feeds : List Feed) (gives : List Give) : Type 0 where
  pub some : 0 < n
  pub one : IsOne (vertices_view (inner_of u))
  pub well : AllWell (vertices_view (inner_of u))
  pub forks : length (fork_names feeds) ≤ 2048
  pub joins : length (join_names gives) ≤ 2048
  pub bodies : operations_in (vertices_view (inner_of u)) ≤ 2048

pub bounded : (u : Declared) (n : ℕ) (feeds : List Feed) (gives : List Give) → (out-Vertex u).kind ≡ Repeat n feeds gives → IsWell (view u) → operations (view u) ≤ 2048 → IsBounded u n feeds gives
bounded u n feeds gives is well few =
    let m = operations_in (vertices_view (inner_of u)) in
    let count : operations (view u) ≡ length (fork_names feeds) + n * m + length (join_names gives) = counted_out u ∙ ap (λ k. operations_by (kind_view k) m) is in
    let at = subst IsWell (view_out u) well in
    let here = rw is at at.0 in
    let some : 0 < n = here.1.0.0 in
    let whole : m ≤ n * m = subst (λ x. m ≤ x) (mul_comm m n) (le-mul_of_pos_right m some) in
    record {
      some = some;
      one = here.1.0.1;
      well = at.1;
      forks = omega (arith, count, few);
      joins = omega (arith, count, few);
      bodies = omega (arith, count, few, whole);
    }

-- a vertex of another kind
none_inside : (us : Vertices) → IsEmpty us → operations_in us ≤ 2048
none_inside no_vertices h = omega arith
none_inside (and_vertex u us) h = absurd h

few_inside : (k : declared.Kind) (gs : List Guard) (us : Vertices) → ((n : ℕ) (f : List Feed) (o : List Give) → k ≡ Repeat n f o → ⊥)
    → IsKindWell (kind_view k) gs us → operations_by (kind_view k) (operations_in us) ≤ 2048 → operations_in us ≤ 2048
few_inside (Repeat n feeds gives) gs us not well few = absurd (not n feeds gives refl)
few_inside (DeclaredGraph outs) gs us not well few = few
few_inside (Switch values names) gs us not well few = omega (arith, few)
few_inside (Sensor n) gs us not well few = none_inside us well
few_inside (Actuator n) gs us not well few = none_inside us well
few_inside (Constant v) gs us not well few = none_inside us well
few_inside (Delay groups) gs us not well few = none_inside us well
few_inside (Function b) gs us not well few = none_inside us well
few_inside Explode gs us not well few = none_inside us well
few_inside Implode gs us not well few = none_inside us well
few_inside (Merge values) gs us not well few = none_inside us well

pub inner_bounded : (u : Declared) → ((n : ℕ) (f : List Feed) (o : List Give) → (out-Vertex u).kind ≡ Repeat n f o → ⊥) → IsWell (view u)
    → operations (view u) ≤ 2048 → operations_in (vertices_view (inner_of u)) ≤ 2048
inner_bounded u not well few =
    let at = subst IsWell (view_out u) well in
    let count = counted_out u in
    few_inside (out-Vertex u).kind (out-Vertex u).guards (vertices_view (inner_of u)) not at.0 (omega (arith, count, few))

pub inner_well : (u : Declared) → IsWell (view u) → AllWell (vertices_view (inner_of u))
inner_well u h = (subst IsWell (view_out u) h).1

-- the vertices of a level, one by one
pub well_at : (us : List Declared) (r : ℕ) (u : Declared) → AllWell (vertices_view us) → r < length us → IsWell (view (get_or us r u))
well_at [] r u h lt = absurd (omega arith)
well_at (v ∷ us) zero u h lt = h.0
well_at (v ∷ us) (suc r) u h lt = well_at us r u h.1 (omega arith)

pub counted_at : (us : List Declared) (r : ℕ) (u : Declared) → r < length us → operations (view (get_or us r u)) ≤ operations_in (vertices_view us)
counted_at [] r u lt = absurd (omega arith)
counted_at (v ∷ us) zero u lt = omega arith
counted_at (v ∷ us) (suc r) u lt = let more = counted_at us r u (omega arith) in omega (arith, more)

-- the answers
pub all_unrolled : (us : List Declared) → vertices_of (map (λ v. unroll (view v)) us) ≡ unroll_all (vertices_view us)
all_unrolled [] = refl
all_unrolled (u ∷ us) = ap (and_vertex (unroll (view u))) (all_unrolled us)

pub unroll_out : (u : Declared) → unroll (view u) ≡ unrolled_at (label_view (out-Vertex u)) (kind_view (out-Vertex u).kind) (unroll_all (vertices_view (inner_of u)))
unroll_out u = ap unroll (view_out u)

plain_at : (l : Label) (k : declared.Kind) (us : Vertices) → ((n : ℕ) (f : List Feed) (o : List Give) → k ≡ Repeat n f o → ⊥) → unrolled_at l (kind_view k) us ≡ vertex (with_kind l (kind_view k)) us
plain_at l (Repeat n feeds gives) us not = absurd (not n feeds gives refl)
plain_at l _ us not = refl

pub plain_unrolled : (u : Declared) (vs : List Declared) (w : Vertex) → ((n : ℕ) (f : List Feed) (o : List Give) → (out-Vertex u).kind ≡ Repeat n f o → ⊥)
    → map view vs ≡ map (λ v. unroll (view v)) (inner_of u) → w ≡ vertex (label_view (out-Vertex u)) (vertices_view vs) → w ≡ unroll (view u)
plain_unrolled u vs w not inside is =
    is ∙ ap (λ xs. vertex (label_view (out-Vertex u)) (vertices_of xs)) inside ∙ ap (vertex (label_view (out-Vertex u))) (all_unrolled (inner_of u))
    ∙ sym (plain_at (label_view (out-Vertex u)) (out-Vertex u).kind (unroll_all (vertices_view (inner_of u))) not) ∙ sym (unroll_out u)

pub plain_answered : (u : Declared) (vs : List Declared) (r : Result Declared OutOfMemory) → ((n : ℕ) (f : List Feed) (o : List Give) → (out-Vertex u).kind ≡ Repeat n f o → ⊥)
    → map view vs ≡ map (λ v. unroll (view v)) (inner_of u) → IfOk r (λ w. view w ≡ vertex (label_view (out-Vertex u)) (vertices_view vs)) → IfOk r (λ w. view w ≡ unroll (view u))
plain_answered u vs (Ok w) not inside is = plain_unrolled u vs (view w) not inside is
plain_answered u vs (Err e) not inside is = tt

abbrev pub inside_now : Declared → ℕ → List Feed → List Give → List Vertex
inside_now u n feeds gives = unrolled_inside (label_of (view u)).definition n feeds gives (label_of (view u)).outs (unroll_all (vertices_in (view u)))

pub repeat_unrolled : (u : Declared) (n b : ℕ) (feeds : List Feed) (gives : List Give) (vs : List Declared) (w : Vertex) → (out-Vertex u).kind ≡ Repeat n feeds gives → b ≡ length (fork_names feeds)
    → map view vs ≡ inside_now u n feeds gives → w ≡ vertex (with_kind (label_view (out-Vertex u)) (graph (give_sources b n 0 gives))) (vertices_view vs) → w ≡ unroll (view u)
repeat_unrolled u n b feeds gives vs w is from inside made =
    let l = label_view (out-Vertex u) in
    let us = unroll_all (vertices_view (inner_of u)) in
    let there : map view vs ≡ unrolled_inside l.definition n feeds gives l.outs us = inside
    ∙ ap (λ v. unrolled_inside (label_of v).definition n feeds gives (label_of v).outs (unroll_all (vertices_in v))) (view_out u) in
    made ∙ ap₂ (λ c xs. vertex (with_kind l (graph (give_sources c n 0 gives))) (vertices_of xs)) from there
    ∙ ap (λ k. unrolled_at l (kind_view k) us) (sym is) ∙ sym (unroll_out u)

pub inside_made : (u : Declared) (n b : ℕ) (feeds : List Feed) (gives : List Give) (d outs : List ℕ) (e x y : List Vertex) → b
    ≡ length (fork_names feeds) → d ≡ (out-Vertex u).definition → outs ≡ (out-Vertex u).outs
    → e ≡ explodes d n (in_line_order feeds) → x ≡ e ++ copies b feeds n (unroll_all (vertices_view (inner_of u))) → y ≡ x ++ implodes d b n outs 0 gives → y ≡ inside_now u n feeds gives
inside_made u n b feeds gives d outs e x y from d_is outs_is first then last =
    let l = label_view (out-Vertex u) in
    let us = unroll_all (vertices_view (inner_of u)) in
    last ∙ ap (λ zs. zs ++ implodes d b n outs 0 gives) (then ∙ ap (λ zs. zs ++ copies b feeds n us) first)
    ∙ append_assoc (explodes d n (in_line_order feeds)) (copies b feeds n us) (implodes d b n outs 0 gives)
    ∙ ap (λ c. explodes d n (in_line_order feeds) ++ (copies c feeds n us ++ implodes d c n outs 0 gives)) from
    ∙ ap₂ (λ d' o'. unrolled_inside d' n feeds gives o' us) d_is outs_is
    ∙ ap (λ v. unrolled_inside (label_of v).definition n feeds gives (label_of v).outs (unroll_all (vertices_in v))) (sym (view_out u))

-- copies
pub copies_one : (c : ℕ) (feeds : List Feed) (n : ℕ) (u : Vertex) → copies c feeds n (and_vertex u no_vertices) ≡ map (copy c feeds (label_of u) (vertices_in u)) (numbers_below n)
copies_one c feeds n (vertex l us) = refl

pub body_unrolled : (us : List Declared) (b : Declared) → b ≡ get_or us 0 b → IsOne (vertices_view us) → and_vertex (unroll (view b)) no_vertices ≡ unroll_all (vertices_view us)
body_unrolled [] b at one = absurd one
body_unrolled (v ∷ []) b at one = ap (λ w. and_vertex (unroll (view w)) no_vertices) at
body_unrolled (v ∷ w ∷ us) b at one = absurd one

pub one_there : (us : List Declared) → IsOne (vertices_view us) → 0 < length us
one_there [] h = absurd h
one_there (v ∷ us) h = omega arith

-- one copy more
pub copies_more : (c : ℕ) (feeds : List Feed) (body : Vertex) (before : List Vertex) (i : ℕ) (old new : List Declared) (v u : Declared)
    → map view old ≡ before ++ map (copy c feeds (label_of body) (vertices_in body)) (numbers_below i) → view v ≡ body → view u ≡ copy c feeds (label_of (view v)) (vertices_in (view v)) i
    → new ≡ old ++ u ∷ [] → map view new ≡ before ++ map (copy c feeds (label_of body) (vertices_in body)) (numbers_below (i + 1))
copies_more c feeds body before i old new v u so_far body_is is new_is = grind (arith, common_steps)
