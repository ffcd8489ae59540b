-- The delays' cells as counts of computations tell them: where one more set half was computed, its delay's cell is the next one.
use Rattle.std.proofs.Common.{◌≡◌, ℕ, zero, suc, ◌+◌, Bool, true, false, cond, List, [], ◌∷◌, ◌++◌, length, drop, Option, Some, None, refl, sym, ap, arith, ◌∙◌, add-one, add-zero}
use Rattle.std.specs.Prelude.{slice_get, slice_set, if◌then◌else◌}
use Rattle.std.proofs.lemmas.Option.{same_Some}
use Rattle.std.proofs.lemmas.List.{drop_more, drop_all}
use Rattle.executive_program.specs.declared.Kind.{Kind}
use Rattle.executive_program.specs.declared.Kind.TheVariants.{Sensor, Actuator, Function, Constant, Get, Set, Explode, Implode, Merge}
use Rattle.executive_program.specs.declared.Vertex.{Vertex}
use Rattle.executive_program.specs.Meaning.{is_get, delay_number, initial_cell, initial_cells, cells_after}
use Rattle.semaphore_core.specs.Job.{JobData}
use Rattle.semaphore_core.specs.Told.{cell_by, cells_from}
use Rattle.syn_base.specs.Vectors.{Vector, vector_at}

-- set half t of get half u, the operation x, among these
abbrev pub HasTwin : List Vertex → ℕ → Vertex → ℕ → Type 0
HasTwin xs u x t = (slice_get xs u ≡ Some x) × (is_get x.kind ≡ true) × (x.twin ≡ Some t)

module _ (j : JobData) where
  module _ (done done' : ℕ → ℕ) where
    cell_same : (d : ℕ) (o : Option ℕ) → ((t : ℕ) → o ≡ Some t → done t ≡ done' t) → cell_by j done d o ≡ cell_by j done' d o
    cell_same d None h = refl
    cell_same d (Some t) h = ap (λ (n : ℕ). vector_at (cells_after j.graph j.sensors j.opening n) d) (h t refl)

    pub cells_same : (xs : List Vertex) (d : ℕ) → ((u t : ℕ) (x : Vertex) → HasTwin xs u x t → done t ≡ done' t) → cells_from j done xs d ≡ cells_from j done' xs d
    cells_same [] d h = refl
    cells_same (x ∷ xs) d h = by (is_get x.kind) refl (λ e. cells_same xs e (λ u t y q. h (suc u) t y q))
      where
        by : (b : Bool) → is_get x.kind ≡ b → ((e : ℕ) → cells_from j done xs e ≡ cells_from j done' xs e)
            → cond b (cell_by j done d x.twin ∷ cells_from j done xs (suc d)) (cells_from j done xs d) ≡ cond b (cell_by j done' d x.twin ∷ cells_from j done' xs (suc d)) (cells_from j done' xs d)
        by true k r = λ i. cell_same d x.twin (λ t q. h 0 t x (refl, k, q)) i ∷ r (suc d) i
        by false k r = r d

    -- where the set half t of one get half alone was computed once more
    pub cells_set : (xs : List Vertex) (d u t : ℕ) (x : Vertex) → HasTwin xs u x t → ((w r : ℕ) (y : Vertex) → HasTwin xs w y r → (w ≡ u → ⊥) → done r ≡ done' r) → (z : Vector)
        → z ≡ vector_at (cells_after j.graph j.sensors j.opening (done' t)) (d + delay_number xs u) → slice_set (cells_from j done xs d) (delay_number xs u) z ≡ cells_from j done' xs d
    cells_set [] d u t x h o z e = absurd (let a = h.0 in cc)
    cells_set (y ∷ ys) d zero t x h o z e = ap (λ (b : Bool). slice_set (cond b (cell_by j done d y.twin ∷ cells_from j done ys (suc d)) (cells_from j done ys d)) 0 z) get
        ∙ (λ i. (e ∙ ap (vector_at (cells_after j.graph j.sensors j.opening (done' t))) (add-zero d) ∙ sym (ap (cell_by j done' d) twin)) i
        ∷ cells_same ys (suc d) (λ w r v q. o (suc w) r v q (λ c. absurd (omega arith))) i)
        ∙ sym (ap (λ (b : Bool). cond b (cell_by j done' d y.twin ∷ cells_from j done' ys (suc d)) (cells_from j done' ys d)) get)
      where
        same : y ≡ x
        same = same_Some y x h.0

        get : is_get y.kind ≡ true
        get = ap (λ (v : Vertex). is_get v.kind) same ∙ h.1

        twin : y.twin ≡ Some t
        twin = ap (λ (v : Vertex). v.twin) same ∙ h.2
    cells_set (y ∷ ys) d (suc u) t x h o z e = by (is_get y.kind) refl e (λ c a. cells_set ys c u t x h (λ w r v q n. o (suc w) r v q (λ k. n (let g : w ≡ u = omega arith in g))) z a)
      where
        by : (b : Bool) → is_get y.kind ≡ b → z ≡ vector_at (cells_after j.graph j.sensors j.opening (done' t)) (d + (if b then delay_number ys u + 1 else delay_number ys u))
            → ((c : ℕ) → z ≡ vector_at (cells_after j.graph j.sensors j.opening (done' t)) (c + delay_number ys u) → slice_set (cells_from j done ys c) (delay_number ys u) z ≡ cells_from j done' ys c)
            → slice_set (cond b (cell_by j done d y.twin ∷ cells_from j done ys (suc d)) (cells_from j done ys d)) (if b then delay_number ys u + 1 else delay_number ys u) z
            ≡ cond b (cell_by j done' d y.twin ∷ cells_from j done' ys (suc d)) (cells_from j done' ys d)
        by true k f r = ap (λ (n : ℕ). slice_set (cell_by j done d y.twin ∷ cells_from j done ys (suc d)) n z) (add-one (delay_number ys u))
            ∙ (λ i. cell_same d y.twin (λ s q. o 0 s y (refl, k, q) (λ c. absurd (omega arith))) i
            ∷ r (suc d) (f ∙ ap (vector_at (cells_after j.graph j.sensors j.opening (done' t))) (let g : d + (delay_number ys u + 1) ≡ suc d + delay_number ys u = omega arith in g)) i)
        by false k f r = r d f

  -- the cell of a get half
  pub cells_at : (done : ℕ → ℕ) (xs : List Vertex) (d u : ℕ) (x : Vertex) → slice_get xs u ≡ Some x → is_get x.kind ≡ true
      → vector_at (cells_from j done xs d) (delay_number xs u) ≡ cell_by j done (d + delay_number xs u) x.twin
  cells_at done [] d u x e k = absurd cc
  cells_at done (y ∷ ys) d zero x e k =
      ap (λ (b : Bool). vector_at (cond b (cell_by j done d y.twin ∷ cells_from j done ys (suc d)) (cells_from j done ys d)) 0) get
      ∙ (λ i. cell_by j done (sym (add-zero d) i) (ap (λ (v : Vertex). v.twin) same i))
    where
      same : y ≡ x
      same = same_Some y x e

      get : is_get y.kind ≡ true
      get = ap (λ (v : Vertex). is_get v.kind) same ∙ k
  cells_at done (y ∷ ys) d (suc u) x e k = by (is_get y.kind) (λ c. cells_at done ys c u x e k)
    where
      by : (b : Bool) → ((c : ℕ) → vector_at (cells_from j done ys c) (delay_number ys u) ≡ cell_by j done (c + delay_number ys u) x.twin)
          → vector_at (cond b (cell_by j done d y.twin ∷ cells_from j done ys (suc d)) (cells_from j done ys d)) (if b then delay_number ys u + 1 else delay_number ys u)
          ≡ cell_by j done (d + (if b then delay_number ys u + 1 else delay_number ys u)) x.twin
      by true r = ap (vector_at (cell_by j done d y.twin ∷ cells_from j done ys (suc d))) (add-one (delay_number ys u)) ∙ r (suc d)
          ∙ ap (λ (n : ℕ). cell_by j done n x.twin) (let g : suc d + delay_number ys u ≡ d + (delay_number ys u + 1) = omega arith in g)
      by false r = r d

  -- before any computation they are the opening values
  pub cells_none : (done : ℕ → ℕ) → ((v : ℕ) → done v ≡ 0) → (xs : List Vertex) (d : ℕ) → length j.opening ≡ d + length (initial_cells xs) → cells_from j done xs d ≡ drop d j.opening
  cells_none done h [] d e = sym (drop_all d j.opening (let g = e in omega arith))
  cells_none done h (x ∷ xs) d e = by x.kind e (λ c. cells_none done h xs c)
    where
      cell : (o : Option ℕ) → cell_by j done d o ≡ vector_at j.opening d
      cell None = refl
      cell (Some t) = ap (λ (n : ℕ). vector_at (cells_after j.graph j.sensors j.opening n) d) (h t)

      by : (k : Kind) → length j.opening ≡ d + length (initial_cell k ++ initial_cells xs) → ((c : ℕ) → length j.opening ≡ c + length (initial_cells xs) → cells_from j done xs c ≡ drop c j.opening)
          → cond (is_get k) (cell_by j done d x.twin ∷ cells_from j done xs (suc d)) (cells_from j done xs d) ≡ drop d j.opening
      by (Get z) f r = (λ i. cell x.twin i ∷ (r (suc d) (let g = f in omega arith) ∙ ap (λ (n : ℕ). drop n j.opening) (sym (add-one d))) i) ∙ sym (drop_more j.opening d [] (let g = f in omega arith))
      by (Sensor i) f r = r d f
      by (Actuator i) f r = r d f
      by (Function b) f r = r d f
      by (Constant z) f r = r d f
      by Set f r = r d f
      by Explode f r = r d f
      by Implode f r = r d f
      by (Merge z) f r = r d f
