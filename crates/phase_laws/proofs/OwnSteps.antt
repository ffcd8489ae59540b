-- What one micro-step makes of the cells and rows that are told: only the last load of a set half or of an actuator changes them.
use Rattle.std.proofs.Common.{◌≡◌, ℕ, ◌+◌, ◌-◌, ◌<◌, ◌≤◌, ◌⊎◌, true, List, [], ◌++◌, length, map, Option, Some, refl, sym, ap, subst, inl, inr, ⊎_elim, arith, ◌∙◌, ℤ, zero-add, add-one}
use Rattle.std.specs.Prelude.{slice_get, slice_index_or, slice_set, nat_lt}
use Rattle.std.proofs.lemmas.Option.{same_Some}
use Rattle.std.proofs.lemmas.Bool.{cases_eq, cases_lt, lt-ltb, le-ltb, eq-eqb, ne_eqb}
use Rattle.executive_program.specs.Sites.{place_at, reaction_at}
use Rattle.executive_program.specs.System.{Micro}
use Rattle.executive_program.specs.Level.{all_joined}
use Rattle.executive_program.specs.declared.Kind.{Kind}
use Rattle.executive_program.specs.declared.Kind.TheVariants.{Actuator, Get, Set}
use Rattle.executive_program.specs.declared.Vertex.{Vertex}
use Rattle.executive_program.specs.Fire.{kept}
use Rattle.executive_program.specs.Meaning.{is_get, delay_number, cell_of, cells_after, flat_act}
use Rattle.executive_program.specs.declared.program.Instr.{Instr}
use Rattle.executive_program.specs.declared.program.Instr.TheVariants.{Call}
use Rattle.executive_program.specs.Instructions.{turn}
use Rattle.executive_program.specs.MicroSteps.{code, size, begins}
use Rattle.executive_program.specs.Places.{calling}
use Rattle.executive_program.specs.Steps.{elements_in}
use Rattle.semaphore_core.specs.Operation.{vectors_from, lens_in, delay_by, delay_of, cell_at, with_cell, rows_by as rows_with, cells_left, rows_left, conditions_in, inputs_in}
use Rattle.semaphore_core.specs.Job.{JobData, reactions}
use Rattle.semaphore_core.specs.Told.{made, last_load, done_by, own_after, cell_by, rows_from, cells_by, rows_by, buffer_value}
use Rattle.executive_program.specs.WellFormed.{Stands}
use Rattle.phase_laws.specs.Values.{IsSupplied}
use Rattle.phase_laws.proofs.Blocks.{sum_same_block}
use Rattle.phase_laws.proofs.Standing.{Here, made_here, made_else}
use Rattle.phase_laws.proofs.Halves.{GetHalf, set_half, get_half}
use Rattle.phase_laws.proofs.Lengths.{Carry}
use Rattle.phase_laws.proofs.Computing.{rows_are, kept_is, cells_other, rows_other, set_or, actuator_or}
use Rattle.phase_laws.proofs.OwnCells.{HasTwin, cells_same, cells_set, cells_at}
use Rattle.phase_laws.proofs.OwnRows.{SameAt, act_is, rows_same, row_set, rows_by_set, row_of_rows, rows_by_same}
use Rattle.phase_laws.proofs.Stateful.{Stateful, fed, last_inner, last_low}
use Rattle.syn_base.specs.Vectors.{Vector, Values, vector_at}

get_is : (k : Kind) → is_get k ≡ true → (z : List ℤ) × (k ≡ Get z)
get_is (Get z) e = (z, refl)
get_is (Actuator a) e = absurd cc
get_is k e = absurd cc

module _ (j : JobData) (h : IsSupplied j) (s n : ℕ) (m : Micro) (o : Here j.program s n m) where
  abbrev pub Now : ℕ → ℕ
  Now = done_by j s n

  abbrev pub Then : ℕ → ℕ
  Then = done_by j s (n + 1)

  -- the micro-step is the last load of operation t
  abbrev pub Passed : ℕ → Type 0
  Passed t = ((calling j.program t).sequence ≡ s) × (last_load j t ≡ place_at (code j.program s) n)

  -- there its call stands
  pend : (t : ℕ) → Stateful j h t → Passed t → (o.instr ≡ Call t (calling j.program t).ins (calling j.program t).outs) × (o.at + 1 ≡ elements_in j.program (calling j.program t).ins)
  pend t q e = (
    same_Some o.instr _ (sym o.stands ∙ ap (slice_get (turn j.program s)) (sym b.0)
        ∙ ap (λ (v : ℕ). slice_get (turn j.program v) (calling j.program t).at) (sym e.0) ∙ (h.formed.called t q.0 q.1).stands),
    let y = b.1 in let z = fed j h t q in omega arith,
  )
    where
      b : ((calling j.program t).at ≡ o.index) × (elements_in j.program (calling j.program t).ins - 1 ≡ o.at)
      b = sum_same_block (size j.program s) (calling j.program t).at o.index (elements_in j.program (calling j.program t).ins - 1) o.at
          (let z = last_inner j h t q in let y = ap (λ (v : ℕ). size j.program v (calling j.program t).at) e.0 in omega arith) o.inner
          (let y = ap (λ (v : ℕ). begins j.program v (calling j.program t).at) e.0 in let z = o.is in let x = e.1 in omega arith)

  done_at : (c t : ℕ) → (calling j.program t).sequence ≡ s → done_by j s c t ≡ made j s (last_load j t) c
  done_at c t e = rw (eq-eqb (calling j.program t).sequence s e) refl

  done_kept : (t : ℕ) → Stateful j h t → (Passed t → ⊥) → Now t ≡ Then t
  done_kept t q x = by (cases_eq (calling j.program t).sequence s)
    where
      by : ((calling j.program t).sequence ≡ s) ⊎ ((calling j.program t).sequence ≡ s → ⊥) → done_by j s n t ≡ done_by j s (n + 1) t
      by (inl e) = done_at n t e ∙ sym
          (made_else j.program s n (last_load j t) o.late o.low
          (let z = last_low j h t q in let y = ap (λ (v : ℕ). length (code j.program v).turn) e in omega arith) (λ l. x (e, l))) ∙ sym (done_at (n + 1) t e)
      by (inr e) = rw (ne_eqb (calling j.program t).sequence s e) refl

  done_passed : (t : ℕ) → Passed t → (Now t ≡ reaction_at (code j.program s) n) × (Then t ≡ reaction_at (code j.program s) n + 1)
  done_passed t q = let z = made_here j.program s n (last_load j t) o.late o.low q.1 in (done_at n t q.0 ∙ z.0, done_at (n + 1) t q.0 ∙ z.1)

  -- before its set half stores, a get half finds the cell of the reaction
  pub cell_found : (v t : ℕ) (x : Vertex) → slice_get j.graph.vertices v ≡ Some x → is_get x.kind ≡ true → x.twin ≡ Some t
      → (calling j.program t).sequence ≡ s → place_at (code j.program s) n < last_load j t
      → vector_at (cells_by j (done_by j s n)) (delay_number j.graph.vertices v) ≡ cell_of j.graph (cells_after j.graph j.sensors j.opening (reaction_at (code j.program s) n)) v
  cell_found v t x e k w q l = cells_at j (done_by j s n) j.graph.vertices 0 v x e k
      ∙ (λ i. cell_by j (done_by j s n) (zero-add (delay_number j.graph.vertices v) i) (w i))
      ∙ ap (λ (c : ℕ). vector_at (cells_after j.graph j.sensors j.opening c) (delay_number j.graph.vertices v))
      (done_at n t q ∙ rw (le-ltb (last_load j t) (place_at (code j.program s) n) (omega arith)) (omega arith))

  twin_stateful : (u t : ℕ) (x : Vertex) → HasTwin j.graph.vertices u x t → (y : Vertex) × (slice_get j.graph.vertices t ≡ Some y) × (y.kind ≡ Set) × (y.twin ≡ Some u)
  twin_stateful u t x e = let g = get_is x.kind e.1 in let q = set_half j.graph h.valid u x e.0 g.0 g.1 in
      let z : q.at ≡ t = same_Some q.at t (sym q.twin_is ∙ e.2) in (q.half, ap (slice_get j.graph.vertices) (sym z) ∙ q.stands, q.kind, q.back)

  stateful_set : (u t : ℕ) (x : Vertex) → HasTwin j.graph.vertices u x t → Stateful j h t
  stateful_set u t x e = let q = twin_stateful u t x e in (q.0, q.1, inl q.2)

  cells_kept : ((u t : ℕ) (x : Vertex) → HasTwin j.graph.vertices u x t → Passed t → ⊥) → cells_by j (done_by j s n) ≡ cells_by j (done_by j s (n + 1))
  cells_kept x = cells_same j (done_by j s n) (done_by j s (n + 1)) j.graph.vertices 0 (λ u t y e. done_kept t (stateful_set u t y e) (x u t y e))

  same_test : (t k : ℕ) → Now t ≡ Then t → SameAt j Now Then k t
  same_test t k e = ap (nat_lt k) e

  rows_kept : ((t a : ℕ) (y : Vertex) → slice_get j.graph.vertices t ≡ Some y → y.kind ≡ Actuator a → Passed t → ⊥) → rows_by j (done_by j s n) ≡ rows_by j (done_by j s (n + 1))
  rows_kept x = rows_by_same j (done_by j s n) (done_by j s (n + 1)) (λ k. rows_same j (done_by j s n) (done_by j s (n + 1)) k j.graph.vertices 0
      (λ w t a y e q c. let z : t ≡ w = q ∙ zero-add w in let f = ap (slice_get j.graph.vertices) z ∙ e in same_test t k (done_kept t (y, f, inr (a, c)) (x t a y f c))))

  -- a micro-step that is no last load leaves cells and rows
  pub kept_all : ((t : ℕ) → Stateful j h t → o.instr ≡ Call t (calling j.program t).ins (calling j.program t).outs → o.at + 1 ≡ elements_in j.program (calling j.program t).ins → ⊥)
      → ((own_after j s n).cells ≡ (own_after j s (n + 1)).cells) × ((own_after j s n).rows ≡ (own_after j s (n + 1)).rows)
  kept_all x = (
    cells_kept (λ u t y e q. let d = stateful_set u t y e in let z = pend t d q in x t d z.0 z.1),
    rows_kept (λ t a y e c q. let z = pend t (y, e, inr (a, c)) q in x t (y, e, inr (a, c)) z.0 z.1),
  )

  -- the last load of operation v
  module _ (low : reaction_at (code j.program s) n < reactions j) (v : ℕ) (ins outs : List ℕ) (call : o.instr ≡ Call v ins outs)
      (x : Vertex) (is : slice_get j.graph.vertices v ≡ Some x) (last : o.at + 1 ≡ elements_in j.program ins)
      (carry : Carry j h ins (map (λ d. d.source) x.guards ++ x.ins)) (loaded : List ℤ) (all : loaded ≡ all_joined (map (λ b. buffer_value j b (reaction_at (code j.program s) n)) ins)) where
    abbrev K : ℕ
    K = reaction_at (code j.program s) n

    abbrev V : Values
    V = vectors_from loaded 0 (lens_in j.graph x)

    same_call : (a b : ℕ) (c d q r : List ℕ) → Call a c d ≡ Call b q r → (a ≡ b) × (c ≡ q) × (d ≡ r)
    same_call a b c d q r e = (cc, cc, cc)

    -- the call is the operation's own
    own_call : (s ≡ (calling j.program v).sequence) × (o.index ≡ (calling j.program v).at)
    own_call = (h.formed.called v x is).only s o.index ins outs (subst (λ (i : Instr). Stands j.program s o.index i) call o.stands)

    own_ins : ins ≡ (calling j.program v).ins
    own_ins = (same_call v v ins outs (calling j.program v).ins (calling j.program v).outs
        (sym call ∙ same_Some o.instr _
        (sym o.stands ∙ ap (λ (w : ℕ). slice_get (turn j.program w) o.index) own_call.0
        ∙ ap (slice_get (turn j.program (calling j.program v).sequence)) own_call.1 ∙ (h.formed.called v x is).stands))).1

    passed : Passed v
    passed = (
      sym own_call.0,
      let z = ap (elements_in j.program) own_ins in let a = o.is in
          let b = ap (λ (w : ℕ). begins j.program w o.index) own_call.0 in let c = ap (begins j.program (calling j.program v).sequence) own_call.1 in omega arith,
    )

    only_this : (t : ℕ) → Stateful j h t → Passed t → t ≡ v
    only_this t q e = (same_call t v (calling j.program t).ins (calling j.program t).outs ins outs (sym (pend t q e).0 ∙ call)).0

    set_cells : x.kind ≡ Set → cells_left j.graph v x (vectors_from loaded 0 (lens_in j.graph x)) (own_after j s n).cells ≡ (own_after j s (n + 1)).cells
    set_cells k = ap (λ (d : Option ℕ). with_cell (own_after j s n).cells d (kept x (cell_at (own_after j s n).cells d) (conditions_in x V) (inputs_in x V))) delay
        ∙ cells_set j (done_by j s n) (done_by j s (n + 1)) j.graph.vertices 0 g.at v g.half (g.stands, ap is_get g.kind, g.back) others z stored
      where
        g : GetHalf j.graph v x.twin
        g = get_half j.graph h.valid v x is k

        delay : delay_of j.graph v x ≡ Some (delay_number j.graph.vertices (get_half j.graph h.valid v x is k).at)
        delay = λ i. delay_by j.graph.vertices v (k i) (g.twin_is i)

        cell : vector_at (own_after j s n).cells (delay_number j.graph.vertices (get_half j.graph h.valid v x is k).at)
            ≡ cell_of j.graph (cells_after j.graph j.sensors j.opening (reaction_at (code j.program s) n)) (get_half j.graph h.valid v x is k).at
        cell = cells_at j (done_by j s n) j.graph.vertices 0 g.at g.half g.stands (ap is_get g.kind)
            ∙ (λ i. cell_by j (done_by j s n) (zero-add (delay_number j.graph.vertices g.at) i) (g.back i))
            ∙ ap (λ (c : ℕ). vector_at (cells_after j.graph j.sensors j.opening c) (delay_number j.graph.vertices g.at)) (done_passed v passed).0

        z : Vector
        z = kept x (vector_at (own_after j s n).cells (delay_number j.graph.vertices (get_half j.graph h.valid v x is k).at))
            (conditions_in x (vectors_from loaded 0 (lens_in j.graph x))) (inputs_in x (vectors_from loaded 0 (lens_in j.graph x)))

        stored : kept x (vector_at (own_after j s n).cells (delay_number j.graph.vertices (get_half j.graph h.valid v x is k).at))
            (conditions_in x (vectors_from loaded 0 (lens_in j.graph x))) (inputs_in x (vectors_from loaded 0 (lens_in j.graph x)))
            ≡ vector_at (cells_after j.graph j.sensors j.opening (done_by j s (n + 1) v)) (0 + delay_number j.graph.vertices (get_half j.graph h.valid v x is k).at)
        stored = kept_is j h K v x low is ins carry loaded all g.at g.half g.values g.stands g.kind g.back (vector_at (own_after j s n).cells (delay_number j.graph.vertices g.at)) cell
            ∙ (λ i. vector_at (cells_after j.graph j.sensors j.opening (sym ((done_passed v passed).1 ∙ add-one K) i)) (sym (zero-add (delay_number j.graph.vertices g.at)) i))

        others : (w r : ℕ) (y : Vertex) → HasTwin j.graph.vertices w y r → (w ≡ (get_half j.graph h.valid v x is k).at → ⊥) → done_by j s n r ≡ done_by j s (n + 1) r
        others w r y e no_twin = done_kept r (stateful_set w r y e) (λ q. let c = only_this r (stateful_set w r y e) q in let d = twin_stateful w r y e in
            no_twin (same_Some w g.at (sym d.3 ∙ ap (λ (i : Vertex). i.twin) (same_Some d.0 x (sym d.1 ∙ ap (slice_get j.graph.vertices) c ∙ is)) ∙ g.twin_is)))

    other_cells : (x.kind ≡ Set → ⊥) → cells_left j.graph v x (vectors_from loaded 0 (lens_in j.graph x)) (own_after j s n).cells ≡ (own_after j s (n + 1)).cells
    other_cells k = cells_other j.graph v x V (own_after j s n).cells k
        ∙ cells_kept (λ u t y e q. let c = only_this t (stateful_set u t y e) q in let d = twin_stateful u t y e in
        k (ap (λ (i : Vertex). i.kind) (same_Some x d.0 (sym is ∙ ap (slice_get j.graph.vertices) (sym c) ∙ d.1)) ∙ d.2))

    pub computed_cells : cells_left j.graph v x (vectors_from loaded 0 (lens_in j.graph x)) (own_after j s n).cells ≡ (own_after j s (n + 1)).cells
    computed_cells = ⊎_elim set_cells other_cells (set_or x.kind)

    actuator_rows : (a : ℕ) → x.kind ≡ Actuator a
        → rows_left j.graph x (reaction_at (code j.program s) n) (vectors_from loaded 0 (lens_in j.graph x)) (own_after j s n).rows
        ≡ (own_after j s (n + 1)).rows
    actuator_rows a k = rows_are j h K v x low is ins carry loaded all (own_after j s n).rows
        ∙ (λ i. rows_with (k i) K (sym (act_is j h.valid K v a x is k) i) (own_after j s n).rows)
        ∙ rows_by_set j (done_by j s n) (done_by j s (n + 1)) K low others (slice_set (slice_index_or (own_after j s n).rows K []) a (flat_act j.graph j.sensors j.opening a K))
        (ap (λ (r : Values). slice_set r a (flat_act j.graph j.sensors j.opening a K)) (row_of_rows j (done_by j s n) (done_by j s (n + 1)) K low)
        ∙ row_set j (done_by j s n) (done_by j s (n + 1)) K h.valid v a x is k (λ w b y e c d. same_test w K (done_kept w (y, e, inr (b, c)) (λ q. d (only_this w (y, e, inr (b, c)) q)))) taken_now)
      where
        taken_now : nat_lt (reaction_at (code j.program s) n) (done_by j s (n + 1) v) ≡ true
        taken_now = lt-ltb K (done_by j s (n + 1) v) (let z = (done_passed v passed).1 in omega arith)

        -- in the other reactions nothing changes
        other_test : (i : ℕ) → (i ≡ reaction_at (code j.program s) n → ⊥) → SameAt j (done_by j s n) (done_by j s (n + 1)) i v
        other_test i d = by (cases_lt i K)
          where
            by : (i < reaction_at (code j.program s) n) ⊎ (reaction_at (code j.program s) n ≤ i) → SameAt j (done_by j s n) (done_by j s (n + 1)) i v
            by (inl l) = let a = (done_passed v passed).0 in let b = (done_passed v passed).1 in lt-ltb i (done_by j s n v) (omega arith) ∙ sym (lt-ltb i (done_by j s (n + 1) v) (omega arith))
            by (inr l) = let a = (done_passed v passed).0 in let b = (done_passed v passed).1 in
                let c : reaction_at (code j.program s) n < i = ⊎_elim (λ q. absurd (d q)) (λ q. omega arith) (cases_eq i (reaction_at (code j.program s) n)) in
                le-ltb i (done_by j s n v) (omega arith) ∙ sym (le-ltb i (done_by j s (n + 1) v) (omega arith))

        others : (i : ℕ) → (i ≡ reaction_at (code j.program s) n → ⊥) → rows_from j (done_by j s n) j.graph.vertices 0 i ≡ rows_from j (done_by j s (n + 1)) j.graph.vertices 0 i
        others i d = rows_same j (done_by j s n) (done_by j s (n + 1)) i j.graph.vertices 0
            (λ w t b y e q c. let z : t ≡ w = q ∙ zero-add w in at t b y (ap (slice_get j.graph.vertices) z ∙ e) c (cases_eq t v))
          where
            at : (t b : ℕ) (y : Vertex) → slice_get j.graph.vertices t ≡ Some y → y.kind ≡ Actuator b → (t ≡ v) ⊎ (t ≡ v → ⊥) → SameAt j (done_by j s n) (done_by j s (n + 1)) i t
            at t b y e c (inl q) = subst (λ (w : ℕ). SameAt j (done_by j s n) (done_by j s (n + 1)) i w) (sym q) (other_test i d)
            at t b y e c (inr q) = same_test t i (done_kept t (y, e, inr (b, c)) (λ p. q (only_this t (y, e, inr (b, c)) p)))

    other_rows : ((a : ℕ) → x.kind ≡ Actuator a → ⊥)
        → rows_left j.graph x (reaction_at (code j.program s) n) (vectors_from loaded 0 (lens_in j.graph x)) (own_after j s n).rows
        ≡ (own_after j s (n + 1)).rows
    other_rows k = rows_other x.kind K (vector_at (inputs_in x V) 0) (own_after j s n).rows k
        ∙ rows_kept (λ t a y e c q. let w = only_this t (y, e, inr (a, c)) q in k a (ap (λ (i : Vertex). i.kind) (same_Some x y (sym is ∙ ap (slice_get j.graph.vertices) (sym w) ∙ e)) ∙ c))

    pub computed_rows : rows_left j.graph x (reaction_at (code j.program s) n) (vectors_from loaded 0 (lens_in j.graph x)) (own_after j s n).rows ≡ (own_after j s (n + 1)).rows
    computed_rows = ⊎_elim (λ q. actuator_rows q.0 q.1) other_rows (actuator_or x.kind)
