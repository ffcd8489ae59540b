-- What guarding a vertex answers, seen at a declared vertex.
use Rattle.std.proofs.Common.{◌≡◌, ℤ, ℕ, suc, ◌+◌, ◌<◌, List, [], ◌∷◌, ◌++◌, length, map, drop, drop-cons, get_or, slice_index_or, refl, sym, ap, ap₂, ◌∙◌, arith, length-append}
use Rattle.std.proofs.lemmas.List.{append_assoc, map-append}
use Rattle.std.specs.Prelude.{IfOk}
use Rattle.std.specs.declared.result.Result.{Result}
use Rattle.std.specs.declared.result.Result.TheVariants.{Ok, Err}
use Rattle.syn_base.specs.declared.memory.OutOfMemory.{OutOfMemory}
use Rattle.algo_tree.specs.declared.Source.{Source}
use Rattle.algo_tree.specs.declared.Guard.{Guard}
use Rattle.algo_tree.specs.Tree.{Label, Vertex, Vertices, and_vertex}
use Rattle.algo_tree.specs.Code.{count_of, join}
use Rattle.algo_tree.specs.View.{view, kind_view, label_view, vertices_of, vertices_view}
use Rattle.algo_tree.specs.declared.vertex.Vertex.{Vertex as Declared, out-Vertex}
use Rattle.algo_tree.specs.declared.vertex.Kind as declared
use Rattle.algo_tree.specs.declared.vertex.Kind.TheVariants.{Graph, Switch}
use Rattle.algo_tree.proofs.Views.{view_out}
use Rattle.flat_laws.specs.Guarded.{shift, own_guards, guard_for, merge_of, merges, merge_sources, switch_inside, operation_under, graph_under, guarded_by, guarded, guarded_all, guarded_cases}
use Rattle.conditioning.specs.Listed.{cases_listed, merges_listed}

abbrev pub inner_of : Declared → List Declared
inner_of u = (out-Vertex u).inner.items

-- lists of vertices as the vertices inside one
vertices-append : (xs ys : List Vertex) → vertices_of (xs ++ ys) ≡ join (vertices_of xs) (vertices_of ys)
vertices-append [] ys = refl
vertices-append (x ∷ xs) ys = ap (and_vertex x) (vertices-append xs ys)

all_guarded : (gs : List Guard) (n : ℕ) (us : List Declared) → vertices_of (map (λ v. guarded gs n (view v)) us) ≡ guarded_all gs n (vertices_view us)
all_guarded gs n [] = refl
all_guarded gs n (u ∷ us) = ap (and_vertex (guarded gs n (view u))) (all_guarded gs n us)

all_cases : (gs : List Guard) (m : ℕ) (values : List ℤ) (i : ℕ) (us : List Declared) → vertices_of (cases_listed gs m values i (map view us)) ≡ guarded_cases gs m values i (vertices_view us)
all_cases gs m values i [] = refl
all_cases gs m values i (u ∷ us) = ap (and_vertex (guarded (gs ++ guard_for m values i ∷ []) m (view u))) (all_cases gs m values (suc i) us)

all_merges : (d : List ℕ) (gs : List Guard) (m : ℕ) (values : List ℤ) (k : ℕ) (lens : List ℕ) (q : ℕ) (names : List (List ℕ))
    → vertices_of (merges_listed d gs m values k lens q names) ≡ merges d gs m values k lens q names
all_merges d gs m values k lens q [] = refl
all_merges d gs m values k lens q (x ∷ names) = ap (and_vertex (merge_of d gs m values k q x (slice_index_or lens q 0))) (all_merges d gs m values k lens (suc q) names)

count_view : (us : List Declared) → count_of (vertices_view us) ≡ length us
count_view [] = refl
count_view (u ∷ us) = ap suc (count_view us)

guarded_out : (gs : List Guard) (n : ℕ) (u : Declared)
    → guarded gs n (view u) ≡ guarded_by gs n (label_view (out-Vertex u)) (kind_view (out-Vertex u).kind) (vertices_view (inner_of u))
    (λ inside m. guarded_all inside m (vertices_view (inner_of u))) (λ inside m values. guarded_cases inside m values 0 (vertices_view (inner_of u)))
guarded_out gs n u = ap (guarded gs n) (view_out u)

-- an operation
operation_at : (gs : List Guard) (n : ℕ) (l : Label) (k : declared.Kind) (us : Vertices) (inner : List Guard → ℕ → Vertices) (cases : List Guard → ℕ → List ℤ → Vertices)
    → ((outs : List Source) → k ≡ Graph outs → ⊥) → ((values : List ℤ) (names : List (List ℕ)) → k ≡ Switch values names → ⊥)
    → operation_under gs n l (kind_view k) ≡ guarded_by gs n l (kind_view k) us inner cases
operation_at gs n l (Graph outs) us inner cases a b = absurd (a outs refl)
operation_at gs n l (Switch values names) us inner cases a b = absurd (b values names refl)
operation_at gs n l _ us inner cases a b = refl

pub operation_answered : (gs : List Guard) (n : ℕ) (u : Declared) (r : Result Declared OutOfMemory)
    → ((outs : List Source) → (out-Vertex u).kind ≡ Graph outs → ⊥) → ((values : List ℤ) (names : List (List ℕ)) → (out-Vertex u).kind ≡ Switch values names → ⊥)
    → IfOk r (λ w. view w ≡ operation_under gs n (label_view (out-Vertex u)) (kind_view (out-Vertex u).kind)) → IfOk r (λ w. view w ≡ guarded gs n (view u))
operation_answered gs n u (Ok w) a b is = is ∙ operation_at gs n (label_view (out-Vertex u)) (out-Vertex u).kind (vertices_view (inner_of u)) _ _ a b ∙ sym (guarded_out gs n u)
operation_answered gs n u (Err e) a b is = tt

-- a graph
graph_made : (gs own : List Guard) (n h : ℕ) (u : Declared) (outs os : List Source) (vs : List Declared) → (out-Vertex u).kind ≡ Graph outs → own ≡ own_guards 0 gs → h ≡ length gs
    → map view vs ≡ map (λ v. guarded own h (view v)) (inner_of u) → os ≡ map (shift h) outs → graph_under gs n (label_view (out-Vertex u)) os (vertices_view vs) ≡ guarded gs n (view u)
graph_made gs own n h u outs os vs kind own_is h_is inside os_is =
    let l = label_view (out-Vertex u) in
    ap₂ (λ ss us. graph_under gs n l ss (vertices_of us)) os_is inside
    ∙ ap₂ (λ m gs'. graph_under gs n l (map (shift m) outs) (vertices_of (map (λ v. guarded gs' m (view v)) (inner_of u)))) h_is own_is
    ∙ ap (graph_under gs n l (map (shift (length gs)) outs)) (all_guarded (own_guards 0 gs) (length gs) (inner_of u))
    ∙ ap (λ k. guarded_by gs n l (kind_view k) (vertices_view (inner_of u)) (λ inside m. guarded_all inside m (vertices_view (inner_of u)))
    (λ inside m values. guarded_cases inside m values 0 (vertices_view (inner_of u)))) (sym kind)
    ∙ sym (guarded_out gs n u)

pub graph_answered : (gs own : List Guard) (n h : ℕ) (u : Declared) (outs os : List Source) (vs : List Declared)
    (r : Result Declared OutOfMemory) → (out-Vertex u).kind ≡ Graph outs → own ≡ own_guards 0 gs → h ≡ length gs
    → map view vs ≡ map (λ v. guarded own h (view v)) (inner_of u) → os ≡ map (shift h) outs
    → IfOk r (λ w. view w ≡ graph_under gs n (label_view (out-Vertex u)) os (vertices_view vs)) → IfOk r (λ w. view w ≡ guarded gs n (view u))
graph_answered gs own n h u outs os vs (Ok w) kind own_is h_is inside os_is is = is ∙ graph_made gs own n h u outs os vs kind own_is h_is inside os_is
graph_answered gs own n h u outs os vs (Err e) kind own_is h_is inside os_is is = tt

-- a switch
switch_made : (gs own : List Guard) (n h k : ℕ) (u : Declared) (values : List ℤ) (names : List (List ℕ)) (os : List Source)
    (vs : List Vertex) → (out-Vertex u).kind ≡ Switch values names → own ≡ own_guards 0 gs → h ≡ length gs
    → k ≡ length (inner_of u) → vs ≡ cases_listed own h values 0 (map view (inner_of u))
    ++ merges_listed (out-Vertex u).definition own h values k (out-Vertex u).outs 0 names → os ≡ merge_sources k (length names)
    → graph_under gs n (label_view (out-Vertex u)) os (vertices_of vs) ≡ guarded gs n (view u)
switch_made gs own n h k u values names os vs kind own_is h_is k_is inside os_is =
    let l = label_view (out-Vertex u) in let us = vertices_view (inner_of u) in
    let count : k ≡ count_of us = k_is ∙ sym (count_view (inner_of u)) in
    ap₂ (λ ss ws. graph_under gs n l ss (vertices_of ws)) os_is inside
    ∙ ap (graph_under gs n l (merge_sources k (length names)))
    (vertices-append (cases_listed own h values 0 (map view (inner_of u))) (merges_listed l.definition own h values k l.outs 0 names)
    ∙ ap₂ (λ xs ys. join xs ys) (all_cases own h values 0 (inner_of u)) (all_merges l.definition own h values k l.outs 0 names))
    ∙ ap₂ (λ m gs'. graph_under gs n l (merge_sources k (length names)) (join (guarded_cases gs' m values 0 us) (merges l.definition gs' m values k l.outs 0 names))) h_is own_is
    ∙ ap (λ c. graph_under gs n l (merge_sources c (length names)) (switch_inside gs l values names c (guarded_cases (own_guards 0 gs) (length gs) values 0 us))) count
    ∙ ap (λ x. guarded_by gs n l (kind_view x) us (λ inside m. guarded_all inside m us) (λ inside m ws. guarded_cases inside m ws 0 us)) (sym kind)
    ∙ sym (guarded_out gs n u)

pub switch_answered : (gs own own' : List Guard) (n h k : ℕ) (u : Declared) (d lens : List ℕ) (values : List ℤ) (names : List (List ℕ))
    (os : List Source) (ws : List Vertex) (zs : List Declared) (r : Result Declared OutOfMemory)
    → (out-Vertex u).kind ≡ Switch values names → own ≡ own_guards 0 gs → own' ≡ own_guards 0 gs → d ≡ (out-Vertex u).definition → lens ≡ (out-Vertex u).outs → h ≡ length gs
    → k ≡ length (inner_of u) → ws ≡ cases_listed own h values 0 (map view (inner_of u)) → map view zs ≡ ws ++ merges_listed d own' h values k lens 0 names
    → os ≡ merge_sources k (length names) → IfOk r (λ w. view w ≡ graph_under gs n (label_view (out-Vertex u)) os (vertices_view zs)) → IfOk r (λ w. view w ≡ guarded gs n (view u))
switch_answered gs own own' n h k u d lens values names os ws zs (Ok w) kind own_is own'_is d_is lens_is h_is k_is cases all os_is is =
    let listed : map view zs ≡ cases_listed own h values 0 (map view (inner_of u)) ++ merges_listed (out-Vertex u).definition own h values k (out-Vertex u).outs 0 names =
    all ∙ ap₂ (λ xs ys. xs ++ ys) cases
    (ap₂ (λ x y. merges_listed x own' h values k y 0 names) d_is lens_is ∙ ap (λ x. merges_listed (out-Vertex u).definition x h values k (out-Vertex u).outs 0 names) (own'_is ∙ sym own_is)) in
    is ∙ switch_made gs own n h k u values names os (map view zs) kind own_is h_is k_is listed os_is
switch_answered gs own own' n h k u d lens values names os ws zs (Err e) kind own_is own'_is d_is lens_is h_is k_is cases all os_is is = tt

-- one case more
pub one_longer : (old new : List Declared) (w : Declared) → new ≡ old ++ w ∷ [] → length new ≡ length old + 1
one_longer old new w is = ap length is ∙ length-append old (w ∷ [])

pub cases_more : (gs : List Guard) (h : ℕ) (values : List ℤ) (us : List Declared) (i k : ℕ) (inside : List Guard) (u w : Declared) (old new : List Declared)
    → i < length us → u ≡ get_or us i u → length old ≡ i → k ≡ length old → inside ≡ gs ++ guard_for h values k ∷ [] → view w ≡ guarded inside h (view u) → new ≡ old ++ w ∷ []
    → map view old ++ cases_listed gs h values i (map view (drop i us)) ≡ cases_listed gs h values 0 (map view us)
    → map view new ++ cases_listed gs h values (i + 1) (map view (drop (i + 1) us)) ≡ cases_listed gs h values 0 (map view us)
cases_more gs h values us i k inside u w old new lt at long case_is inside_is is new_is so_far =
    let number : k ≡ i = case_is ∙ long in
    let made : view w ≡ guarded (gs ++ guard_for h values i ∷ []) h (view u) = is ∙ ap (λ g. guarded g h (view u)) (inside_is ∙ ap (λ j. gs ++ guard_for h values j ∷ []) number) in
    let one : suc i ≡ i + 1 = omega arith in
    let split : drop i us ≡ u ∷ drop (i + 1) us = drop-cons us i u lt ∙ ap₂ (λ v j. v ∷ drop j us) (sym at) one in
    let rest = cases_listed gs h values (i + 1) (map view (drop (i + 1) us)) in
    let next : cases_listed gs h values i (map view (drop i us)) ≡ view w ∷ rest =
    ap (λ vs. cases_listed gs h values i (map view vs)) split ∙ ap₂ (λ v j. v ∷ cases_listed gs h values j (map view (drop (i + 1) us))) (sym made) one in
    ap (λ vs. map view vs ++ rest) new_is ∙ ap (λ vs. vs ++ rest) (map-append view old (w ∷ [])) ∙ append_assoc (map view old) (view w ∷ []) rest ∙ ap (λ vs. map view old ++ vs) (sym next) ∙ so_far

-- one merge more
pub merges_more : (d : List ℕ) (gs : List Guard) (m : ℕ) (values : List ℤ) (k : ℕ) (outs : List ℕ) (names : List (List ℕ))
    (i place q len : ℕ) (name text : List ℕ) (w : Declared) (old new : List Declared) (all : List Vertex)
    → i < length names → name ≡ get_or names i name → place ≡ i → q ≡ place → len ≡ slice_index_or outs place 0 → text ≡ name → view w ≡ merge_of d gs m values k q text len → new ≡ old ++ w ∷ []
    → map view old ++ merges_listed d gs m values k outs place (drop i names) ≡ all → map view new ++ merges_listed d gs m values k outs (place + 1) (drop (i + 1) names) ≡ all
merges_more d gs m values k outs names i place q len name text w old new all lt at number q_is len_is text_is is new_is so_far =
    let one : suc i ≡ i + 1 = omega arith in
    let next_place : suc place ≡ place + 1 = omega arith in
    let split : drop i names ≡ name ∷ drop (i + 1) names = drop-cons names i name lt ∙ ap₂ (λ x j. x ∷ drop j names) (sym at) one in
    let made : view w ≡ merge_of d gs m values k place name (slice_index_or outs place 0) = is
    ∙ ap₂ (λ p t. merge_of d gs m values k p t len) q_is text_is ∙ ap (merge_of d gs m values k place name) len_is in
    let rest = merges_listed d gs m values k outs (place + 1) (drop (i + 1) names) in
    let next : merges_listed d gs m values k outs place (drop i names) ≡ view w ∷ rest =
    ap (merges_listed d gs m values k outs place) split ∙ ap₂ (λ v j. v ∷ merges_listed d gs m values k outs j (drop (i + 1) names)) (sym made) next_place in
    ap (λ vs. map view vs ++ rest) new_is ∙ ap (λ vs. vs ++ rest) (map-append view old (w ∷ [])) ∙ append_assoc (map view old) (view w ∷ []) rest ∙ ap (λ vs. map view old ++ vs) (sym next) ∙ so_far
