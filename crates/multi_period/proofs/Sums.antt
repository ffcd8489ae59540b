-- What the marks add, mark by mark.
use Rattle.std.proofs.Common.{◌≡◌, ℕ, zero, suc, ◌+◌, ◌*◌, ◌<◌, cond, List, [], ◌∷◌, length, get_or, take, slice_index_or, Option, Some, None, refl, sym, ap, ap₂, ◌∙◌, eq-eqb, ne_eqb, arith}
use Rattle.std.specs.List.{sum_by}
use Rattle.std.proofs.lemmas.List.Sums.{sum_by-cons, sum_by_more}
use mathlib.Core.Path.{fun_ext}
use Rattle.algo_tree.specs.Tree.{vertex, Vertices, no_vertices, and_vertex}
use Rattle.algo_tree.specs.Code.{count_of}
use Rattle.algo_tree.specs.Typed.{outs_of}
use Rattle.algo_tree.specs.View.{vertices_view}
use Rattle.algo_tree.specs.declared.vertex.Vertex.{Vertex as Declared}
use Rattle.algo_tree.proofs.Views.{outs_at}
use Rattle.multi_period.specs.declared.mark.Mark.{Mark}
use Rattle.multi_period.specs.Marks.{mark_at, IsOnce, AreOnce}
use Rattle.multi_period.specs.Laws.{added_by, added}
use Rattle.multi_period.specs.Seen.{label_seen}
use Rattle.multi_period.specs.Within.{adds}

pub mark_here : (m : Mark) (ms : List Mark) → mark_at (m ∷ ms) m.reference ≡ Some m
mark_here m ms = ap (λ b. cond b (Some m) (mark_at ms m.reference)) (eq-eqb m.reference m.reference refl)

pub mark_elsewhere : (m : Mark) (ms : List Mark) (i : ℕ) → (i ≡ m.reference → ⊥) → mark_at (m ∷ ms) i ≡ mark_at ms i
mark_elsewhere m ms i ne = ap (λ b. cond b (Some m) (mark_at ms i)) (ne_eqb m.reference i (λ e. ne (sym e)))

none_here : (r : ℕ) (ms : List Mark) → IsOnce r ms → mark_at ms r ≡ None
none_here r [] h = refl
none_here r (m ∷ ms) h = ap (λ b. cond b (Some m) (mark_at ms r)) h.0 ∙ none_here r ms h.1

added-none : (us : Vertices) → added (mark_at []) us ≡ 0
added-none no_vertices = refl
added-none (and_vertex (vertex l vs) us) = let rest = added-none us in omega (arith, rest)

added-one : (mark mark' : ℕ → Option Mark) (m : Mark) (us : Vertices) (r : ℕ) → r < count_of us → mark r ≡ None → mark' r ≡ Some m → ((i : ℕ) → (i ≡ r → ⊥) → mark' i ≡ mark i)
    → added mark' us ≡ (2 * m.every + 3 * length (slice_index_or (outs_of us) r [])) + added mark us
added-one mark mark' m no_vertices r lt none here others = absurd (omega arith)
added-one mark mark' m (and_vertex (vertex l vs) us) zero lt none here others =
    let one = ap (λ o. added_by o l) here in
    let no = ap (λ o. added_by o l) none in
    let rest = ap (λ f. added f us) (fun_ext (λ i. others (suc i) (λ e. omega (arith, e)))) in
    omega (arith, one, no, rest)
added-one mark mark' m (and_vertex (vertex l vs) us) (suc r) lt none here others =
    let first = ap (λ o. added_by o l) (others 0 (λ e. omega (arith, e))) in
    let rest = added-one (λ i. mark (suc i)) (λ i. mark' (suc i)) m us r (omega arith) none here (λ i ne. others (suc i) (λ e. ne (omega (arith, e)))) in
    omega (arith, first, rest)

pub added-sum : (us : Vertices) (ms : List Mark) → AreOnce (count_of us) ms → added (mark_at ms) us ≡ sum_by (adds us) ms
added-sum us [] h = added-none us
added-sum us (m ∷ ms) h =
    added-one (mark_at ms) (mark_at (m ∷ ms)) m us m.reference h.0.0 (none_here m.reference ms h.0.1) (mark_here m ms) (λ i ne. mark_elsewhere m ms i ne)
    ∙ ap (λ n. adds us m + n) (added-sum us ms h.1) ∙ sym (sum_by-cons (adds us) m ms)

-- one mark more
pub sum_on : (us : List Declared) (ms : List Mark) (i : ℕ) (d : Mark) (u : Declared) (s a : ℕ) → i < length ms → (get_or ms i d).reference < length us → u ≡ get_or us (get_or ms i d).reference u
    → a ≡ 2 * (get_or ms i d).every + 3 * length (label_seen u).outs → s ≡ sum_by (adds (vertices_view us)) (take i ms) → s + a ≡ sum_by (adds (vertices_view us)) (take (i + 1) ms)
sum_on us ms i d u s a lt below at a_is s_is =
    ap₂ (λ x y. x + y) s_is (a_is ∙ ap (λ os. 2 * (get_or ms i d).every + 3 * length os) (sym (outs_at us (get_or ms i d).reference u below at)))
    ∙ sym (sum_by_more (adds (vertices_view us)) ms i d lt)
