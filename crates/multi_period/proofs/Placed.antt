-- Vertices and marks by their places, and declared vertices.
use Rattle.std.proofs.Common.{◌≡◌, ℕ, zero, suc, ◌+◌, ◌<◌, List, [], ◌∷◌, ◌++◌, length, map, get_or, Option, Some, refl, sym, ap, ap₂, ◌∙◌, subst, arith}
use Rattle.std.specs.Prelude.{IfOk, slice_set}
use Rattle.std.specs.declared.result.Result.{Result}
use Rattle.std.specs.declared.result.Result.TheVariants.{Ok, Err}
use Rattle.std.specs.List.{All}
use Rattle.std.proofs.lemmas.List.{map-append}
use Rattle.syn_base.specs.declared.memory.OutOfMemory.{OutOfMemory}
use Rattle.algo_tree.specs.Tree.{Vertex, vertex, Vertices, no_vertices, and_vertex}
use Rattle.algo_tree.specs.Code.{count_of, nothing}
use Rattle.algo_tree.specs.View.{view, vertices_of, vertices_view}
use Rattle.algo_tree.specs.declared.vertex.Vertex.{Vertex as Declared, out-Vertex}
use Rattle.algo_tree.proofs.Views.{view_out}
use Rattle.multi_period.specs.declared.mark.Mark.{Mark}
use Rattle.multi_period.specs.Marks.{MayHave, AreMarked, AreOnce}
use Rattle.multi_period.specs.Periods.{period, period_by, all_periods}
use Rattle.multi_period.specs.Seen.{label_seen, inside_seen}
use Rattle.multi_period.proofs.Lists.{long_below}
use Rattle.syn_base.specs.Numbers.{numbers_below}

pub cons_below : {A : Type 0} (f : ℕ → A) (n : ℕ) → map f (numbers_below (suc n)) ≡ f 0 ∷ map (λ i. f (suc i)) (numbers_below n)
cons_below f zero = refl
cons_below f (suc n) =
    map-append f (numbers_below (suc n)) (suc n ∷ []) ∙ ap (λ xs. xs ++ f (suc n) ∷ []) (cons_below f n)
    ∙ ap (λ xs. f 0 ∷ xs) (sym (map-append (λ i. f (suc i)) (numbers_below n) (n ∷ [])))

pub got_below : {A : Type 0} (f : ℕ → A) (n i : ℕ) (d : A) → i < n → get_or (map f (numbers_below n)) i d ≡ f i
got_below f zero i d lt = absurd (omega arith)
got_below f (suc n) zero d lt = ap (λ xs. get_or xs 0 d) (cons_below f n)
got_below f (suc n) (suc i) d lt = ap (λ xs. get_or xs (suc i) d) (cons_below f n) ∙ got_below (λ j. f (suc j)) n i d (omega arith)

same_below : {A : Type 0} (f g : ℕ → A) (n : ℕ) → ((i : ℕ) → g i ≡ f i) → map f (numbers_below n) ≡ map g (numbers_below n)
same_below f g zero same = refl
same_below f g (suc n) same = cons_below f n ∙ ap₂ (λ x xs. x ∷ xs) (sym (same 0)) (same_below (λ i. f (suc i)) (λ i. g (suc i)) n (λ i. same (suc i))) ∙ sym (cons_below g n)

-- where one place is set
pub set_below : {A : Type 0} (f g : ℕ → A) (n r : ℕ) (x : A) → r < n → g r ≡ x → ((i : ℕ) → (i ≡ r → ⊥) → g i ≡ f i) → slice_set (map f (numbers_below n)) r x ≡ map g (numbers_below n)
set_below f g zero r x lt here others = absurd (omega arith)
set_below f g (suc n) zero x lt here others =
    ap (λ xs. slice_set xs 0 x) (cons_below f n)
    ∙ ap₂ (λ y ys. y ∷ ys) (sym here) (same_below (λ i. f (suc i)) (λ i. g (suc i)) n (λ i. others (suc i) (λ e. omega (arith, e))))
    ∙ sym (cons_below g n)
set_below f g (suc n) (suc r) x lt here others =
    ap (λ xs. slice_set xs (suc r) x) (cons_below f n)
    ∙ ap₂ (λ y ys. y ∷ ys) (sym (others 0 (λ e. omega (arith, e)))) (set_below (λ i. f (suc i)) (λ i. g (suc i)) n r x (omega arith) here (λ i ne. others (suc i) (λ e. ne (omega (arith, e)))))
    ∙ sym (cons_below g n)

-- the vertex at a place
abbrev pub vertex_or : Vertices → ℕ → Vertex
vertex_or no_vertices r = nothing
vertex_or (and_vertex u us) zero = u
vertex_or (and_vertex u us) (suc r) = vertex_or us r

-- what the vertex at a place becomes
abbrev pub made_of : (ℕ → Option Mark) → Vertices → ℕ → Vertex
made_of mark us r = period_by (mark r) (vertex_or us r)

pub all_made : (mark : ℕ → Option Mark) (us : Vertices) → vertices_of (map (made_of mark us) (numbers_below (count_of us))) ≡ all_periods mark us
all_made mark no_vertices = refl
all_made mark (and_vertex u us) =
    ap vertices_of (cons_below (made_of mark (and_vertex u us)) (count_of us)) ∙ ap (and_vertex (period_by (mark 0) u)) (all_made (λ r. mark (suc r)) us)

pub count_view : (us : List Declared) → count_of (vertices_view us) ≡ length us
count_view [] = refl
count_view (u ∷ us) = ap suc (count_view us)

pub view_at : (us : List Declared) (i : ℕ) (u : Declared) → i < length us → u ≡ get_or us i u → view u ≡ vertex_or (vertices_view us) i
view_at [] i u lt is = absurd (omega arith)
view_at (x ∷ us) zero u lt is = ap view is
view_at (x ∷ us) (suc i) u lt is = view_at us i u (omega arith) is

pub may_at : (mark : ℕ → Option Mark) (us : List Declared) (i : ℕ) (u : Declared) → AreMarked mark (vertices_view us) → i < length us → u ≡ get_or us i u → MayHave (mark i) (label_seen u)
may_at mark [] i u h lt is = absurd (omega arith)
may_at mark (x ∷ us) zero u h lt is =
    let at : AreMarked mark (and_vertex (vertex (label_seen x) (inside_seen x)) (vertices_view us)) = subst (λ v. AreMarked mark (and_vertex v (vertices_view us))) (view_out x) h in
    subst (λ v. MayHave (mark 0) (label_seen v)) (sym is) at.0
may_at mark (x ∷ us) (suc i) u h lt is =
    let at : AreMarked mark (and_vertex (vertex (label_seen x) (inside_seen x)) (vertices_view us)) = subst (λ v. AreMarked mark (and_vertex v (vertices_view us))) (view_out x) h in
    may_at (λ r. mark (suc r)) us i u at.1 (omega arith) is

pub marked_answered : (u : Declared) (m : Mark) (r : Result Declared OutOfMemory) → IfOk r (λ w. view w ≡ period m (label_seen u) (inside_seen u)) → IfOk r (λ w. view w ≡ period_by (Some m) (view u))
marked_answered u m (Ok w) is = is ∙ ap (period_by (Some m)) (sym (view_out u))
marked_answered u m (Err e) is = tt

pub each_below : (n : ℕ) (ms : List Mark) → AreOnce n ms → All (λ m. m.reference < n) ms
each_below n [] h k d lt = absurd (omega arith)
each_below n (m ∷ ms) h zero d lt = h.0.0
each_below n (m ∷ ms) h (suc k) d lt = each_below n ms h.1 k d (omega arith)

pub table_at : {A : Type 0} (f : ℕ → A) (n i : ℕ) (table : List A) (x : A) → table ≡ map f (numbers_below n) → i < n → x ≡ get_or table i x → x ≡ f i
table_at f n i table x is lt at = at ∙ ap (λ xs. get_or xs i x) is ∙ got_below f n i x lt

pub long_table : {A : Type 0} (f : ℕ → A) (n : ℕ) (table : List A) → table ≡ map f (numbers_below n) → length table ≡ n
long_table f n table is = ap length is ∙ long_below f n

-- one vertex more
pub next_made : (mark : ℕ → Option Mark) (us : List Declared) (i : ℕ) (u : Declared) (o : Option Mark) (w : Declared) (all all' : List Declared) → o ≡ mark i → i < length us → u ≡ get_or us i u
    → view w ≡ period_by o (view u) → map view all ≡ map (made_of mark (vertices_view us)) (numbers_below i) → all' ≡ all ++ w ∷ []
    → map view all' ≡ map (made_of mark (vertices_view us)) (numbers_below (i + 1))
next_made mark us i u o w all all' o_is lt at is so_far push =
    ap (map view) push ∙ map-append view all (w ∷ [])
    ∙ ap₂ (λ xs x. xs ++ x ∷ []) so_far (is ∙ ap₂ period_by o_is (view_at us i u lt at))
    ∙ sym (map-append (made_of mark (vertices_view us)) (numbers_below i) (i ∷ []))
    ∙ ap (λ n. map (made_of mark (vertices_view us)) (numbers_below n)) next
  where
    next : suc i ≡ i + 1
    next = omega arith
