-- The candidates after one more operation was placed.
use Rattle.std.proofs.Common.{◌≡◌, ◌≢◌, ℕ, ◌<◌, Bool, Option, true, false, ◌&&◌, nat_eq, List, length, refl, take, sym, ap, subst, arith, ◌∙◌, inl, inr, ◌⊎◌}
use Rattle.std.specs.Prelude.{All, slice_index_or, slice_set}
use Rattle.std.specs.List.{list_any}
use Rattle.std.specs.Cmp.Derive.{both_true}
use Rattle.std.proofs.lemmas.Bool.{true≢false, cases_eq, false_from_ne_true}
use Rattle.std.proofs.lemmas.List.{get_or-set_same, get_or-set_other}
use Rattle.schedule.specs.declared.Vertex.{Vertex}
use Rattle.comm_routing.specs.Board.{Board}
use Rattle.comm_routing.specs.Dependents.{list_at}
use Rattle.comm_routing.specs.Candidates.{AreUnknown, IsBehind, flag_at, flag_in, is_candidate_in, needs_of, places_from, row_at, sought_in}
use Rattle.comm_routing.specs.declared.candidates.Candidates.{Candidates}
use Rattle.comm_routing.specs.declared.candidates.Ready.{Ready}
use Rattle.comm_routing.proofs.Depending.{dependent_there, dependents_below}
use Rattle.comm_routing.proofs.Ordered.{set_there}

-- The flags after the operation itself, and after its dependents.
pub record AreMarked (vertices : List Vertex) (b : Board) (placed : ℕ) (c : Candidates) (dependents : List ℕ) (one two : List Bool) : Type 0 where
  pub behind : IsBehind vertices b placed c
  pub size : length c.ready.flags.items ≡ length vertices
  pub dependents_are : dependents ≡ list_at c.dependents.items placed
  pub first : one ≡ slice_set c.ready.flags.items placed (is_candidate_in vertices b placed)
  pub marked : (v : ℕ) → list_any (nat_eq v) dependents ≡ true → slice_index_or two v false ≡ is_candidate_in vertices b v
  pub others : (v : ℕ) → list_any (nat_eq v) dependents ≡ false → slice_index_or two v false ≡ slice_index_or one v false

-- the dependents are operations
pub dependents_low : (vertices : List Vertex) (b : Board) (placed : ℕ) (c : Candidates) → IsBehind vertices b placed c
    → (dependents : List ℕ) → dependents ≡ list_at c.dependents.items placed → All (λ v. v < length vertices) dependents
dependents_low vertices b placed c behind dependents are =
    subst (λ (xs : List ℕ). All (λ v. v < length vertices) xs) (sym (are ∙ behind.dependents placed behind.operation)) (dependents_below placed vertices)

module _ (vertices : List Vertex) (b : Board) (placed : ℕ) (c : Candidates) (dependents : List ℕ) (one two : List Bool) (m : AreMarked vertices b placed c dependents one two) where
  independent : (v : ℕ) → list_any (nat_eq v) dependents ≡ false → list_any (nat_eq placed) (needs_of vertices v) ≡ false
  independent v h =
      false_from_ne_true (list_any (nat_eq placed) (needs_of vertices v))
      (λ e. true≢false (sym (dependent_there placed v vertices e) ∙ ap (list_any (nat_eq v)) (sym (m.dependents_are ∙ m.behind.dependents placed m.behind.operation)) ∙ h))

  placed_flag : slice_index_or one placed false ≡ is_candidate_in vertices b placed
  placed_flag =
      let l = m.behind.operation in
      let s = m.size in
      ap (λ (xs : List Bool). slice_index_or xs placed false) m.first ∙ get_or-set_same c.ready.flags.items placed (is_candidate_in vertices b placed) false (omega arith)

  other_flag : (v : ℕ) → v ≢ placed → slice_index_or one v false ≡ flag_at c v
  other_flag v n = ap (λ (xs : List Bool). slice_index_or xs v false) m.first ∙ get_or-set_other c.ready.flags.items placed v (is_candidate_in vertices b placed) false n

  pub flags_right : (v : ℕ) → v < length vertices → slice_index_or two v false ≡ is_candidate_in vertices b v
  flags_right v l = by (list_any (nat_eq v) dependents) refl
    where
      by : (t : Bool) → list_any (nat_eq v) dependents ≡ t → slice_index_or two v false ≡ is_candidate_in vertices b v
      by true h = m.marked v h
      by false h = m.others v h ∙ elim (cases_eq v placed) [
        | inl e ↦ ap (λ (k : ℕ). slice_index_or one k false) e ∙ placed_flag ∙ ap (is_candidate_in vertices b) (sym e)
        | inr n ↦ other_flag v n ∙ m.behind.others v l n (independent v h)
      ]

  -- a candidate that does not depend on it was one before
  flag_before : (v : ℕ) → v < length vertices → list_any (nat_eq v) dependents ≡ false → slice_index_or two v false ≡ true → flag_at c v ≡ true
  flag_before v l h f = elim (cases_eq v placed) [
    | inl e ↦ absurd (true≢false (sym f ∙ flags_right v l ∙ ap (is_candidate_in vertices b) e ∙ m.behind.no_candidate))
    | inr n ↦ sym (other_flag v n) ∙ sym (m.others v h) ∙ f
  ]

  -- the arrivals of each candidate are forgotten, or stay
  pub arrivals_right : (keeps : Bool) (r : Ready) (before rows after : List (List (Option ℕ))) {lent : List (List (Option ℕ))}
      → r.flags.items ≡ two → take r.count r.list.items ≡ places_from 0 r.flags.items → lent ≡ before → after ≡ rows
      → ((v : ℕ) → list_any (nat_eq v) (sought_in keeps dependents r) ≡ true → AreUnknown (row_at rows v))
      → ((v : ℕ) → list_any (nat_eq v) (sought_in keeps dependents r) ≡ false → row_at rows v ≡ row_at lent v)
      → (v : ℕ) → v < length vertices → flag_in r v ≡ true
      → AreUnknown (row_at after v) ⊎ (((flag_at c v && keeps) ≡ true) × (row_at after v ≡ row_at before v))
  arrivals_right true r before rows after is listed were now found kept v l f =
      subst (λ (xs : List (List (Option ℕ))). AreUnknown (row_at xs v) ⊎ (((flag_at c v && true) ≡ true) × (row_at xs v ≡ row_at before v))) (sym now) (by (list_any (nat_eq v) dependents) refl)
    where
      by : (t : Bool) → list_any (nat_eq v) dependents ≡ t → AreUnknown (row_at rows v) ⊎ (((flag_at c v && true) ≡ true) × (row_at rows v ≡ row_at before v))
      by true h = inl (found v h)
      by false h = inr (both_true (flag_before v l h (ap (λ (xs : List Bool). slice_index_or xs v false) (sym is) ∙ f)) refl, kept v h ∙ ap (λ (xs : List (List (Option ℕ))). row_at xs v) were)
  arrivals_right false r before rows after is listed were now found kept v l f =
      inl (subst (λ (xs : List (List (Option ℕ))). AreUnknown (row_at xs v)) (sym now) (found v (ap (list_any (nat_eq v)) listed ∙ set_there r.flags.items v f)))
