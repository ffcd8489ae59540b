-- Rows that are laid out for some operations alone.
use Rattle.std.proofs.Common.{◌≡◌, ℕ, zero, suc, ◌+◌, ◌<◌, Bool, true, cond, ◌==◌, List, [], ◌∷◌, ◌++◌, map, length, Some, refl, sym, ap, subst, arith, ◌∙◌, zero-add}
use Rattle.std.specs.Prelude.{slice_get, slice_index_or}
use Rattle.std.proofs.lemmas.Bool.{and_parts, eqb-true}
use Rattle.executive_program.specs.declared.Kind.{Kind}
use Rattle.executive_program.specs.declared.Kind.TheVariants.{Sensor, Actuator, Function, Constant, Get, Set, Explode, Implode, Merge}
use Rattle.executive_program.specs.declared.Vertex.{Vertex}
use Rattle.executive_program.specs.Graph.{Graph, lens_of}
use Rattle.executive_program.specs.FlatOrder.{is_acyclic}
use Rattle.executive_program.specs.FlatValid.{is_flat, actuators_from, kinds_of}
use Rattle.executive_program.specs.FlatLaws.{actuator_len}
use Rattle.semaphore_core.specs.Job.{JobData}
use Rattle.operation_desks.specs.RowLens.{lens_for}
use Rattle.semaphore_core.specs.Held.{HasRow}
use Rattle.semaphore_core.proofs.Numbered.{Stands, behind, stands_first, AllFit, all_fit, actuator_one}

module _ (g : Graph) (mine : ℕ → Bool) where
  abbrev len_if : Bool → List ℕ → List ℕ
  len_if b l = map (λ n. cond b n 0) l

  placed : (n v a w : ℕ) (xs : List Vertex) (x : Vertex) → AllFit g xs → actuators_from n (kinds_of xs) ≡ true → slice_get xs v ≡ Some x → x.kind ≡ Actuator a → mine (w + v) ≡ true
      → Stands n a (lens_for g mine w xs) (slice_index_or (lens_of g.vertices x.ins) 0 0)
  placed n v a w [] x f h e k m = absurd (cc)
  placed n zero a w (y ∷ ys) x f h e k m =
      let same : y ≡ x = cc in
      let kind : y.kind ≡ Actuator a = ap (λ (z : Vertex). z.kind) same ∙ k in
      let first : actuators_from n (Actuator a ∷ kinds_of ys) ≡ true = subst (λ (z : Kind). actuators_from n (z ∷ kinds_of ys) ≡ true) kind h in
      let here = eqb-true a n (and_parts (a == n) (actuators_from (n + 1) (kinds_of ys)) first).0 in
      let on : mine w ≡ true = ap mine (let q : w ≡ w + 0 = omega arith in q) ∙ m in
      let len : lens_for g mine w (y ∷ ys) ≡ slice_index_or (lens_of g.vertices x.ins) 0 0 ∷ lens_for g mine (w + 1) ys =
      (λ j. len_if (on j) (actuator_len g y (kind j)) ++ lens_for g mine (w + 1) ys)
      ∙ ap (λ (l : List ℕ). len_if true l ++ lens_for g mine (w + 1) ys) (ap (λ (z : Vertex). lens_of g.vertices z.ins) same ∙ actuator_one g x a k (f 0 x e)) in
      record { place = 0; is = (let q : a ≡ n + 0 = omega arith in q); there = (let q = ap (λ (l : List ℕ). length l) len in omega arith); same = ap (λ (l : List ℕ). slice_index_or l 0 0) len }
  placed n (suc v) a w (y ∷ ys) x f h e k m = by y.kind refl h (λ r h'. placed r v a (w + 1) ys x (λ u z. f (suc u) z) h' e k (ap mine (let q : w + 1 + v ≡ w + suc v = omega arith in q) ∙ m))
    where
      by : (kind : Kind) → y.kind ≡ kind → actuators_from n (kind ∷ kinds_of ys) ≡ true
          → ((r : ℕ) → actuators_from r (kinds_of ys) ≡ true → Stands r a (lens_for g mine (w + 1) ys) (slice_index_or (lens_of g.vertices x.ins) 0 0))
          → Stands n a (len_if (mine w) (actuator_len g y kind) ++ lens_for g mine (w + 1) ys) (slice_index_or (lens_of g.vertices x.ins) 0 0)
      by (Actuator i) q h' later =
          subst (λ (l : List ℕ). Stands n a (len_if (mine w) l ++ lens_for g mine (w + 1) ys) (slice_index_or (lens_of g.vertices x.ins) 0 0)) (sym (actuator_one g y i q (f 0 y refl)))
          (behind n a (cond (mine w) (slice_index_or (lens_of g.vertices y.ins) 0 0) 0) (lens_for g mine (w + 1) ys) (slice_index_or (lens_of g.vertices x.ins) 0 0)
          (later (n + 1) (and_parts (i == n) (actuators_from (n + 1) (kinds_of ys)) h').1))
      by (Sensor i) q h' later = later n h'
      by (Function b) q h' later = later n h'
      by (Constant z) q h' later = later n h'
      by (Get z) q h' later = later n h'
      by Set q h' later = later n h'
      by Explode q h' later = later n h'
      by Implode q h' later = later n h'
      by (Merge values) q h' later = later n h'

-- those that are laid out have their length
pub rows_for : (j : JobData) → is_flat j.graph ≡ true → (mine : ℕ → Bool) (lens : List ℕ) → lens ≡ lens_for j.graph mine 0 j.graph.vertices → (v : ℕ) → mine v ≡ true → HasRow j lens v
rows_for j valid mine lens e v m x a is k = subst (λ (l : List ℕ). (a < length l) × (slice_index_or l a 0 ≡ slice_index_or (lens_of j.graph.vertices x.ins) 0 0)) (sym e)
    (stands_first a (lens_for j.graph mine 0 j.graph.vertices) (slice_index_or (lens_of j.graph.vertices x.ins) 0 0)
    (placed j.graph mine 0 v a 0 j.graph.vertices x (all_fit j.graph valid) numbered is k (ap mine (zero-add v) ∙ m)))
  where
    numbered : actuators_from 0 (kinds_of j.graph.vertices) ≡ true
    numbered = (and_parts _ (actuators_from 0 (kinds_of j.graph.vertices)) (and_parts _ (is_acyclic j.graph.vertices) valid).0).1
