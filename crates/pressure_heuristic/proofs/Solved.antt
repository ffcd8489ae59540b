-- Dates that solve the equation of the tails are the tails, since no operation depends on itself.
use Rattle.std.proofs.Common.{◌≡◌, ℕ, zero, suc, ◌+◌, ◌<◌, Bool, true, false, cond, nat_eq, List, [], ◌∷◌, map, length, Option, Some, None, refl, sym, ap, arith, ◌∙◌, inl, inr}
use Rattle.std.specs.Prelude.{IsTrue, slice_get, slice_index_or}
use Rattle.std.specs.List.{list_any, list_all, filter, range_with_len}
use Rattle.std.proofs.lemmas.Bool.{false≢true, true≢false, and_parts, eqb-true, or_cases, false_from_ne_true}
use Rattle.schedule.specs.declared.Vertex.{Vertex}
use Rattle.schedule.specs.Graph.{with_vertex}
use Rattle.schedule.specs.FlatOrder.{depends_on, is_acyclic, is_done}
use Rattle.schedule.specs.Table.{Table}
use Rattle.pressure_heuristic.specs.Tails.{least_in, so_far, tails_in}
use Rattle.pressure_heuristic.proofs.Whole.{all_of, in_range}
use Rattle.comm_routing.specs.Candidates.{needs_of}
use Rattle.syn_base.specs.Numbers.{greatest}

pub same_where : (f g : ℕ → ℕ) (test : ℕ → Bool) (a n : ℕ) → ((s : ℕ) → s < a + n → test s ≡ true → f s ≡ g s) → map f (filter test (range_with_len a n)) ≡ map g (filter test (range_with_len a n))
same_where f g test a zero same = refl
same_where f g test a (suc n) same = by (test a) refl (same_where f g test (a + 1) n (λ s l h. same s (omega arith) h))
  where
    by : (b : Bool) → test a ≡ b → map f (filter test (range_with_len (a + 1) n)) ≡ map g (filter test (range_with_len (a + 1) n))
        → map f (cond b (a ∷ filter test (range_with_len (a + 1) n)) (filter test (range_with_len (a + 1) n)))
        ≡ map g (cond b (a ∷ filter test (range_with_len (a + 1) n)) (filter test (range_with_len (a + 1) n)))
    by true h later = λ i. same a (omega arith) h i ∷ later i
    by false h later = later

module _ (vertices : List Vertex) where
  -- what an operation depends on is done a round before it
  pub done_before : (k s v : ℕ) → list_any (nat_eq v) (needs_of vertices s) ≡ true → is_done vertices (suc k) s ≡ true → is_done vertices k v ≡ true
  done_before k s v h e = by (slice_get vertices s) h e
    where
      among : (us : List ℕ) → list_any (nat_eq v) us ≡ true → list_all (is_done vertices k) us ≡ true → is_done vertices k v ≡ true
      among [] h e = absurd (false≢true h)
      among (u ∷ us) h e = elim (or_cases (nat_eq v u) (list_any (nat_eq v) us) h) [
        | inl i ↦ ap (λ (w : ℕ). is_done vertices k w) (eqb-true v u i) ∙ (and_parts (is_done vertices k u) (list_all (is_done vertices k) us) e).0
        | inr i ↦ among us i (and_parts (is_done vertices k u) (list_all (is_done vertices k) us) e).1
      ]

      by : (o : Option Vertex) → list_any (nat_eq v) (with_vertex o [] depends_on) ≡ true → with_vertex o false (λ x. list_all (is_done vertices k) (depends_on x)) ≡ true → is_done vertices k v ≡ true
      by None h e = absurd (false≢true h)
      by (Some x) h e = among (depends_on x) h e

  module _ (table : Table) (acyclic : IsTrue (is_acyclic vertices)) (f : ℕ → ℕ) (solves : (v : ℕ) → v < length vertices → f v ≡ so_far vertices table f (length vertices) v) where
    -- what is not done k rounds before all are done is found in as many rounds as are left
    follows : (m k v : ℕ) → v < length vertices → k + m ≡ length vertices → is_done vertices k v ≡ false → f v ≡ tails_in vertices table m v
    follows zero k v l e n =
        let same : k ≡ length vertices = omega arith in
        let done = all_of (is_done vertices (length vertices)) (range_with_len 0 (length vertices)) acyclic v v (in_range (length vertices) v l) in
        absurd (true≢false (sym done ∙ ap (λ (r : ℕ). is_done vertices r v) (sym same) ∙ n))
    follows (suc m) k v l e n =
        solves v l
        ∙ ap greatest (same_where (λ s. least_in table s + f s) (λ s. least_in table s + tails_in vertices table m s) (λ s. list_any (nat_eq v) (needs_of vertices s)) 0 (length vertices)
        (λ s b i. let later = false_from_ne_true (is_done vertices (suc k) s) (λ d. true≢false (sym (done_before k s v i d) ∙ n)) in
        let r = follows m (suc k) s (omega arith) (omega arith) later in omega arith))

    pub solved : (v : ℕ) → v < length vertices → f v ≡ tails_in vertices table (length vertices) v
    solved v l = follows (length vertices) 0 v l (omega arith) refl

-- dates that one round more leaves as they are
pub dates_are : (vertices : List Vertex) (table : Table) → IsTrue (is_acyclic vertices) → {items : List ℕ} (before one other next : List ℕ) → before ≡ items → one ≡ items → one ≡ other → other ≡ next
    → ((v : ℕ) → v < length vertices → slice_index_or next v 0 ≡ so_far vertices table (λ s. slice_index_or before s 0) (length vertices) v)
    → (v : ℕ) → v < length vertices → slice_index_or items v 0 ≡ tails_in vertices table (length vertices) v
dates_are vertices table acyclic before one other next b o same n is v l =
    ap (λ (xs : List ℕ). slice_index_or xs v 0) (sym b)
    ∙ solved vertices table acyclic (λ s. slice_index_or before s 0) (λ w q. ap (λ (xs : List ℕ). slice_index_or xs w 0) (b ∙ sym o ∙ same ∙ n) ∙ is w q) v l
