-- Operations that are put in order one by one: after as many rounds as there are operations all of them are.
use Rattle.std.proofs.Common.{
  ◌≡◌,
  ℕ,
  zero,
  suc,
  ◌+◌,
  ◌<◌,
  inl,
  inr,
  List,
  [],
  ◌∷◌,
  ◌++◌,
  length,
  get_or,
  set,
  take,
  Bool,
  true,
  false,
  not,
  ◌&&◌,
  refl,
  sym,
  ap,
  ◌∙◌,
  subst,
  arith,
  add-one,
  zero-add,
  get_or-set_other,
  get_or-set_same,
  length-append,
  length-set,
  replicate,
}
use Rattle.std.specs.Prelude.{Option, None, Some, slice_get, slice_index_or}
use Rattle.std.specs.List.{list_all, range_with_len}
use Rattle.std.proofs.lemmas.Bool.{cases_lt, false≢true}
use Rattle.std.proofs.lemmas.List.{take-append-le, get_or_append_left, get_or_at, take_at, length-replicate}
use Rattle.std.proofs.lemmas.List.FromFn.{get_or-range_with_len, length-range_with_len}
use Rattle.std.proofs.lemmas.List.Sums.{AllPass-from_list_all}
use Rattle.flat_graph.specs.declared.vertex.Vertex.{Vertex}
use Rattle.flat_graph.specs.Graph.{with_vertex}
use Rattle.flat_graph.specs.Order.{depends_on, is_done, is_acyclic}
use Rattle.sync_meaning.specs.Order.{is_among, is_ready, AllAreReady, IsOrder}
use Rattle.sync_meaning.specs.declared.order.Begun.{Begun}
use Rattle.sync_meaning.specs.Begun.{has_flag, IsBegun, HasTried, HasRound}
use Rattle.sync_meaning.proofs.Among.{same_or_not, among_last, among_still, all_imply}

-- what is ready stays ready
pub more_ready : (vertices : List Vertex) (f g : ℕ → Bool) → ((u : ℕ) → f u ≡ true → g u ≡ true) → (v : ℕ) → is_ready vertices f v ≡ true → is_ready vertices g v ≡ true
more_ready vertices f g h v e = by (slice_get vertices v) e
  where
    by : (o : Option Vertex) → with_vertex o false (λ x. list_all f (depends_on x)) ≡ true → with_vertex o false (λ x. list_all g (depends_on x)) ≡ true
    by None e = absurd (false≢true e)
    by (Some x) e = all_imply f g h (depends_on x) e

-- what is ready is an operation
ready_range : (vertices : List Vertex) (f : Vertex → Bool) (v : ℕ) → with_vertex (slice_get vertices v) false f ≡ true → v < length vertices
ready_range [] f v h = absurd (false≢true h)
ready_range (x ∷ xs) f zero h = omega arith
ready_range (x ∷ xs) f (suc v) h = let k = ready_range xs f v h in omega (arith, k)

skipped : (d ready : Bool) → false ≡ (not d && ready) → ready ≡ true → d ≡ true
skipped true ready e h = refl
skipped false ready e h = absurd (false≢true (e ∙ h))

runs_ready : (d ready : Bool) → true ≡ (not d && ready) → ready ≡ true
runs_ready true ready e = absurd (false≢true (sym e))
runs_ready false ready e = sym e

-- one more entry
one_more : (vertices : List Vertex) (order : List ℕ) (v : ℕ) → AllAreReady vertices order → is_ready vertices (is_among order) v ≡ true → AllAreReady vertices (order ++ v ∷ [])
one_more vertices order v each ready i lt = elim (cases_lt i (length order)) [
  | inl lower ↦
      let front : take i (order ++ v ∷ []) ≡ take i order = take-append-le i order (v ∷ []) (omega arith) in
      let at : get_or (order ++ v ∷ []) i 0 ≡ get_or order i 0 = get_or_append_left order (v ∷ []) 0 i lower in
      rw (front, at) (each i lower)
  | inr above ↦
      let end : length order ≡ i = omega (arith, length-append order (v ∷ [])) in
      rw (take_at order (v ∷ []) i end, get_or_at order v [] 0 i end) ready
]

still_set : (done : List Bool) (v : ℕ) → v < length done → (u : ℕ) → has_flag done u ≡ true → has_flag (set done v true) u ≡ true
still_set done v lt u h = elim (same_or_not u v) [
  | inl same ↦ ap (has_flag (set done v true)) same ∙ get_or-set_same done v true false lt
  | inr other ↦ get_or-set_other done v u true false other ∙ h
]

told_more : (order : List ℕ) (done : List Bool) (v : ℕ) → v < length done → ((u : ℕ) → has_flag done u ≡ true → is_among order u ≡ true)
    → (u : ℕ) → has_flag (set done v true) u ≡ true → is_among (order ++ v ∷ []) u ≡ true
told_more order done v lt told u h = elim (same_or_not u v) [
  | inl same ↦ ap (is_among (order ++ v ∷ [])) same ∙ among_last order v
  | inr other ↦ among_still order v u (told u (sym (get_or-set_other done v u true false other) ∙ h))
]

no_flags : (n u : ℕ) → has_flag (replicate n false) u ≡ true → is_among [] u ≡ true
no_flags zero u e = absurd (false≢true e)
no_flags (suc n) zero e = absurd (false≢true e)
no_flags (suc n) (suc u) e = no_flags n u e

-- before any operation is in order
pub none_begun : (vertices : List Vertex) (b : Begun) → b.order.items ≡ [] → b.done.items ≡ replicate (length vertices) false → IsBegun vertices b
none_begun vertices b none clear = record {
  told = λ u h. ap (λ xs. is_among xs u) none ∙ no_flags (length vertices) u (sym (ap (λ ds. has_flag ds u) clear) ∙ h);
  count = ap length clear ∙ length-replicate (length vertices) false;
  each = λ i lt. let e : length b.order.items ≡ 0 = ap length none in absurd (omega (arith, e));
}

-- operation v was not ready, or was done
pub tried_in_vain : (vertices : List Vertex) (v : ℕ) (x : Vertex) (b : Begun) → slice_get vertices v ≡ Some x → false
    ≡ (not (has_flag b.done.items v) && list_all (has_flag b.done.items) (depends_on x)) → IsBegun vertices b → HasTried vertices v b b
tried_in_vain vertices v x b is answer begun = record {
  begun = begun;
  still = λ u h. h;
  tried = λ h. skipped (has_flag b.done.items v) (list_all (has_flag b.done.items) (depends_on x)) answer (rw is at h);
}

-- operation v comes next
pub tried_once : (vertices : List Vertex) (v : ℕ) (x : Vertex) (old new : Begun) → slice_get vertices v ≡ Some x → v < length vertices
    → true ≡ (not (has_flag old.done.items v) && list_all (has_flag old.done.items) (depends_on x))
    → IsBegun vertices old → new.order.items ≡ old.order.items ++ v ∷ [] → new.done.items ≡ set old.done.items v true → HasTried vertices v old new
tried_once vertices v x old new is lt answer begun order done =
    let xs = old.order.items in
    let ds = old.done.items in
    let long : v < length ds = omega (arith, begun.count) in
    let ready : is_ready vertices (has_flag ds) v ≡ true = rw is (runs_ready (has_flag ds v) (list_all (has_flag ds) (depends_on x)) answer) in
    record {
      begun = record {
        told = λ u h. ap (λ ys. is_among ys u) order ∙ told_more xs ds v long begun.told u (sym (ap (λ fs. has_flag fs u) done) ∙ h);
        count = ap length done ∙ length-set ds v true ∙ begun.count;
        each = subst (λ ys. AllAreReady vertices ys) (sym order) (one_more vertices xs v begun.each (more_ready vertices (has_flag ds) (is_among xs) begun.told v ready));
      };
      still = λ u h. ap (λ fs. has_flag fs u) done ∙ still_set ds v long u h;
      tried = λ h. ap (λ fs. has_flag fs v) done ∙ get_or-set_same ds v true false long;
    }

-- the operations below v have been tried in this round, which began with old
pub record AreTried (vertices : List Vertex) (v : ℕ) (old new : Begun) : Type 0 where
  pub begun : IsBegun vertices new
  pub still : (u : ℕ) → has_flag old.done.items u ≡ true → has_flag new.done.items u ≡ true
  pub tried : (u : ℕ) → u < v → is_ready vertices (has_flag old.done.items) u ≡ true → has_flag new.done.items u ≡ true

pub none_tried : (vertices : List Vertex) (b : Begun) → IsBegun vertices b → AreTried vertices 0 b b
none_tried vertices b begun = record { begun = begun; still = λ u h. h; tried = λ u lt h. absurd (omega arith) }

pub one_more_tried : (vertices : List Vertex) (v : ℕ) (old now new : Begun) → AreTried vertices v old now → HasTried vertices v now new → AreTried vertices (v + 1) old new
one_more_tried vertices v old now new before step = record {
  begun = step.begun;
  still = λ u h. step.still u (before.still u h);
  tried = λ u lt h. elim (same_or_not u v) [
    | inl same ↦
        let here : is_ready vertices (has_flag old.done.items) v ≡ true = sym (ap (is_ready vertices (has_flag old.done.items)) same) ∙ h in
        ap (has_flag new.done.items) same ∙ step.tried (more_ready vertices (has_flag old.done.items) (has_flag now.done.items) before.still v here)
    | inr other ↦ step.still u (before.tried u (omega arith) h)
  ];
}

pub all_tried : (vertices : List Vertex) (v : ℕ) (old new : Begun) → v ≡ length vertices → AreTried vertices v old new → HasRound vertices old new
all_tried vertices v old new all done = record {
  begun = done.begun;
  still = done.still;
  tried = λ u h. let lt : u < length vertices = ready_range vertices (λ x. list_all (has_flag old.done.items) (depends_on x)) u h in done.tried u (omega arith) h;
}

pub done_more : (vertices : List Vertex) (k : ℕ) (old new : Begun) → ((u : ℕ) → is_done vertices k u ≡ true → has_flag old.done.items u ≡ true) → HasRound vertices old new
    → (u : ℕ) → is_done vertices (k + 1) u ≡ true → has_flag new.done.items u ≡ true
done_more vertices k old new before round u h =
    let next : is_done vertices (suc k) u ≡ true = rw add-one at h in
    round.tried u (more_ready vertices (is_done vertices k) (has_flag old.done.items) before u next)

-- each operation is done after as many rounds as there are operations
pub all_are_done : (vertices : List Vertex) → is_acyclic vertices ≡ true → (v : ℕ) → v < length vertices → is_done vertices (length vertices) v ≡ true
all_are_done vertices h v lt =
    let n = length vertices in
    let in_range : v < length (range_with_len 0 n) = omega (arith, length-range_with_len 0 n) in
    let place : slice_index_or (range_with_len 0 n) v 0 ≡ v = get_or-range_with_len 0 n v 0 lt ∙ zero-add v in
    subst (λ (k : ℕ). is_done vertices n k ≡ true) place (AllPass-from_list_all (is_done vertices n) (range_with_len 0 n) h v 0 in_range)

-- where all flags are set, each operation stands in the order
pub order_if_done : (vertices : List Vertex) (b : Begun) → IsBegun vertices b → ((v : ℕ) → v < length vertices → has_flag b.done.items v ≡ true) → IsOrder vertices b.order.items
order_if_done vertices b begun all = record { each = begun.each; all = λ v lt. begun.told v (all v lt) }
