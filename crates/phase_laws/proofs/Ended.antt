-- Cells and rows of a run, so far and when all is done.
use Rattle.std.proofs.Common.{
  ◌≡◌,
  ℕ,
  zero,
  suc,
  ◌+◌,
  ◌*◌,
  ◌<◌,
  ◌==◌,
  Bool,
  true,
  false,
  cond,
  List,
  [],
  ◌∷◌,
  ◌++◌,
  map,
  drop,
  length,
  Some,
  refl,
  sym,
  ap,
  subst,
  inl,
  inr,
  arith,
  ◌∙◌,
  ℤ,
  add-zero,
  zero-add,
  add-one,
}
use Rattle.std.specs.Prelude.{slice_get, slice_index_or, nat_lt}
use Rattle.std.specs.List.{range_with_len}
use Rattle.std.proofs.lemmas.Bool.{lt-ltb, le-ltb, and_parts, eqb-true}
use Rattle.std.proofs.lemmas.Option.{same_Some}
use Rattle.std.proofs.lemmas.List.{drop_more, drop_all, length-map}
use Rattle.executive_program.specs.Sites.{reaction_at, place_at, number_of}
use Rattle.executive_program.proofs.Numbers.{reaction_number, place_number}
use Rattle.executive_program.specs.declared.Source.{Source}
use Rattle.executive_program.specs.declared.Vertex.{Vertex}
use Rattle.executive_program.specs.declared.Kind.{Kind}
use Rattle.executive_program.specs.declared.Kind.TheVariants.{Sensor, Actuator, Function, Constant, Get, Set, Explode, Implode, Merge}
use Rattle.executive_program.specs.Graph.{lens_of}
use Rattle.executive_program.specs.FlatOrder.{is_acyclic}
use Rattle.executive_program.specs.FlatValid.{fits, actuators_from, kinds_of}
use Rattle.executive_program.specs.FlatLaws.{delay_len, delay_lens}
use Rattle.executive_program.specs.Meaning.{is_get, initial_cell, initial_cells, value_in, taken, taken_by, cells_after, flat_act, flat_act_row}
use Rattle.executive_program.proofs.Facts.{vertex_valid, fits_of}
use Rattle.executive_program.proofs.KindLens.{one_is}
use Rattle.executive_program.specs.declared.program.Instr.TheVariants.{Call}
use Rattle.executive_program.specs.MicroSteps.{code}
use Rattle.executive_program.specs.Places.{calling}
use Rattle.semaphore_core.specs.Job.{JobData, reactions}
use Rattle.semaphore_core.specs.Core.{Core, run, count, full}
use Rattle.semaphore_core.specs.Told.{made, last_load, cell_by, cells_from, cells_by, row_by, row_of, rows_from, rows_by, done_in}
use Rattle.phase_laws.specs.Agrees.{IsFormed, caller, row_at}
use Rattle.phase_laws.specs.Values.{IsSupplied}
use Rattle.phase_laws.proofs.AgreeSteps.{steps_matched}
use Rattle.phase_laws.proofs.Halves.{set_half}
use Rattle.phase_laws.proofs.Lengths.{cells_lens}
use Rattle.phase_laws.proofs.OwnRows.{act_is, row_of_rows}
use Rattle.phase_laws.proofs.Places.{stands_sequence}
use Rattle.phase_laws.proofs.Stateful.{Stateful, last_low}
use Rattle.phase_laws.proofs.Together.{have_laws}
use Rattle.phase_laws.specs.Central.{RowsAreTaken}
use Rattle.phase_laws.specs.Ended.{last_cells, all_acts, full_counts, RunsEnd, RunsTakeRows, FullIsEnded}
use Rattle.std.proofs.lemmas.List.FromFn.{get_or-map-range_with_len}
use Rattle.syn_base.specs.Vectors.{Vector, Values, vector_at, zeros}

get_of : (k : Kind) → is_get k ≡ true → (z : List ℤ) × (k ≡ Get z)
get_of (Get z) h = (z, refl)
get_of (Sensor i) h = absurd (cc)
get_of (Actuator i) h = absurd (cc)
get_of (Function b) h = absurd (cc)
get_of (Constant z) h = absurd (cc)
get_of Set h = absurd (cc)
get_of Explode h = absurd (cc)
get_of Implode h = absurd (cc)
get_of (Merge z) h = absurd (cc)

one_length : (xs : List Vertex) → length (initial_cells xs) ≡ length (delay_lens xs)
one_length [] = refl
one_length (x ∷ xs) = by x.kind (one_length xs)
  where
    by : (k : Kind) → length (initial_cells xs) ≡ length (delay_lens xs) → length (initial_cell k ++ initial_cells xs) ≡ length (delay_len k ++ delay_lens xs)
    by (Get z) e = ap suc e
    by (Sensor i) e = e
    by (Actuator i) e = e
    by (Function b) e = e
    by (Constant z) e = e
    by Set e = e
    by Explode e = e
    by Implode e = e
    by (Merge z) e = e

module _ (j : JobData) (h : IsSupplied j) where
  formed : IsFormed j
  formed = record { seqs = h.seqs; formed = (h.order, h.formed); valid = h.valid; opened = h.opened }

  -- at its full count a sequence has made each place of its loop once in each reaction
  all_made : (s l : ℕ) → l < length (code j.program s).turn → made j s l (full j s) ≡ reactions j
  all_made s l low = ap (made j s l) ends ∙ (λ i. at_end i + cond (none i) 1 0) ∙ (let z : reactions j + 0 ≡ reactions j = omega arith in z)
    where
      ends : full j s ≡ number_of (code j.program s) (reactions j) 0
      ends = let m = steps_matched j formed s in let p = m.prologues_as_long in let t = ap (λ (n : ℕ). reactions j * n) m.turns_as_long in omega arith

      at_end : reaction_at (code j.program s) (number_of (code j.program s) (reactions j) 0) ≡ reactions j
      at_end = reaction_number (code j.program s) (reactions j) 0 (omega arith)

      none : nat_lt l (place_at (code j.program s) (number_of (code j.program s) (reactions j) 0)) ≡ false
      none = ap (nat_lt l) (place_number (code j.program s) (reactions j) 0 (omega arith)) ∙ le-ltb l 0 (omega arith)

  -- so each operation that changes a cell or a row was computed once in each reaction
  all_done : (c : ℕ → ℕ) → ((s : ℕ) → s < length j.program.seqs → c s ≡ full j s) → (v : ℕ) → Stateful j h v → done_in j c v ≡ reactions j
  all_done c done v q =
      let here = h.formed.called v q.0 q.1 in
      let full_is : c (caller j v) ≡ full j (caller j v) =
      done (caller j v) (stands_sequence j.program (caller j v) (calling j.program v).at
      (Call v (calling j.program v).ins (calling j.program v).outs) here.stands) in
      ap (made j (caller j v) (last_load j v)) full_is ∙ all_made (caller j v) (last_load j v) (last_low j h v q)

  -- The cells, where the set half of each delay was computed n times.
  module _ (done : ℕ → ℕ) (n : ℕ) where
    abbrev after : Values
    after = cells_after j.graph j.sensors j.opening n

    cells_all : (xs : List Vertex) (d : ℕ) → ((u : ℕ) (x : Vertex) → slice_get xs u ≡ Some x → is_get x.kind ≡ true → (t : ℕ) × (x.twin ≡ Some t) × (done t ≡ n))
        → length after ≡ d + length (initial_cells xs) → cells_from j done xs d ≡ drop d after
    cells_all [] d each e = sym (drop_all d after (let g = e in omega arith))
    cells_all (x ∷ xs) d each e = by x.kind (λ k. each 0 x refl k) e (λ c. cells_all xs c (λ u y. each (suc u) y))
      where
        cell : (t : ℕ) → x.twin ≡ Some t → done t ≡ n → cell_by j done d x.twin ≡ vector_at after d
        cell t w q = ap (cell_by j done d) w ∙ ap (λ (m : ℕ). vector_at (cells_after j.graph j.sensors j.opening m) d) q

        by : (k : Kind) → (is_get k ≡ true → (t : ℕ) × (x.twin ≡ Some t) × (done t ≡ n)) → length after ≡ d + length (initial_cell k ++ initial_cells xs)
            → ((c : ℕ) → length after ≡ c + length (initial_cells xs) → cells_from j done xs c ≡ drop c after)
            → cond (is_get k) (cell_by j done d x.twin ∷ cells_from j done xs (suc d)) (cells_from j done xs d) ≡ drop d after
        by (Get z) t f r = let w = t refl in
            (λ i. cell w.0 w.1 w.2 i ∷ (r (suc d) (let g = f in omega arith) ∙ ap (λ (m : ℕ). drop m after) (sym (add-one d))) i)
            ∙ sym (drop_more after d [] (let g = f in omega arith))
        by (Sensor i) t f r = r d f
        by (Actuator i) t f r = r d f
        by (Function b) t f r = r d f
        by (Constant z) t f r = r d f
        by Set t f r = r d f
        by Explode t f r = r d f
        by Implode t f r = r d f
        by (Merge z) t f r = r d f

  as_many : length (last_cells j) ≡ 0 + length (initial_cells j.graph.vertices)
  as_many = let l = cells_lens j h (reactions j) (omega arith) in let m = sym (length-map (last_cells j) length) ∙ ap (λ (ns : List ℕ). length ns) l ∙ sym (one_length j.graph.vertices) in omega arith

  ended_cells : (c : ℕ → ℕ) → ((s : ℕ) → s < length j.program.seqs → c s ≡ full j s) → cells_by j (done_in j c) ≡ last_cells j
  ended_cells c done = cells_all (done_in j c) (reactions j) j.graph.vertices 0 (λ u x e k.
      let q = set_half j.graph h.valid u x e (get_of x.kind k).0 (get_of x.kind k).1 in
      (q.at, q.twin_is, all_done c done q.at (q.half, q.stands, inl q.kind))) as_many

  -- The row of reaction k, where each actuator has taken it.
  module _ (done : ℕ → ℕ) (k : ℕ) where
    abbrev look : Source → Vector
    look = value_in j.graph (cells_after j.graph j.sensors j.opening k) (slice_index_or j.sensors k [])

    single : (v : ℕ) (x : Vertex) (a : ℕ) → slice_get j.graph.vertices v ≡ Some x → x.kind ≡ Actuator a → lens_of j.graph.vertices x.ins ≡ slice_index_or (lens_of j.graph.vertices x.ins) 0 0 ∷ []
    single v x a e q = one_is (lens_of j.graph.vertices x.ins) (and_parts (length (lens_of j.graph.vertices x.ins) == 1) (length x.outs == 0)
        (subst (λ (q : Kind). fits j.graph.bodies q (lens_of j.graph.vertices x.ins) x.outs ≡ true) q (fits_of j.graph v x (vertex_valid j.graph h.valid v x e)))).0

    row_all : (v : ℕ) (x : Vertex) → slice_get j.graph.vertices v ≡ Some x → (q : Kind) → x.kind ≡ q → ((a : ℕ) → x.kind ≡ Actuator a → k < done v) → row_of j done v x k q ≡ taken_by look x q
    row_all v x e (Actuator a) q t =
        ap (λ (ns : List ℕ). map (λ n. row_by j done v a n k) ns) (single v x a e q)
        ∙ ap (λ (b : Bool). cond b (flat_act j.graph j.sensors j.opening a k) (zeros (slice_index_or (lens_of j.graph.vertices x.ins) 0 0)) ∷ []) (lt-ltb k (done v) (t a q))
        ∙ ap (λ (w : Vector). w ∷ []) (act_is j h.valid k v a x e q)
    row_all v x e (Sensor i) q t = refl
    row_all v x e (Function b) q t = refl
    row_all v x e (Constant z) q t = refl
    row_all v x e (Get z) q t = refl
    row_all v x e Set q t = refl
    row_all v x e Explode q t = refl
    row_all v x e Implode q t = refl
    row_all v x e (Merge z) q t = refl

    rows_all : (xs : List Vertex) (v : ℕ) → ((w n : ℕ) (x : Vertex) → slice_get xs w ≡ Some x → n ≡ v + w → (slice_get j.graph.vertices n ≡ Some x) × ((a : ℕ) → x.kind ≡ Actuator a → k < done n))
        → rows_from j done xs v k ≡ taken look xs
    rows_all [] v each = refl
    rows_all (x ∷ xs) v each = let here = each 0 v x refl (sym (add-zero v)) in
        (λ i. row_all v x here.0 x.kind refl here.1 i ++ rows_all xs (suc v) (λ w n y e q. each (suc w) n y e (let g : n ≡ v + suc w = omega (arith, q) in g)) i)

    -- the entry of one actuator
    first_number : (m a : ℕ) (kinds : List Kind) → actuators_from m (Actuator a ∷ kinds) ≡ true → (a ≡ m) × (actuators_from (m + 1) kinds ≡ true)
    first_number m a kinds g = let q = and_parts (a == m) (actuators_from (m + 1) kinds) g in (eqb-true a m q.0, q.1)

    abbrev entry : ℕ → ℕ → Vertex → Vector
    entry v a x = row_by j done v a (slice_index_or (lens_of j.graph.vertices x.ins) 0 0) k

    one_row : (v : ℕ) (x : Vertex) (a : ℕ) → slice_get j.graph.vertices v ≡ Some x → x.kind ≡ Actuator a → (w : ℕ) → row_of j done w x k (Actuator a) ≡ entry w a x ∷ []
    one_row v x a e q w = ap (λ (ns : List ℕ). map (λ n. row_by j done w a n k) ns) (single v x a e q)

    abbrev Are : List Vertex → ℕ → Type 0
    Are xs v = (w n : ℕ) (x : Vertex) → slice_get xs w ≡ Some x → n ≡ v + w → slice_get j.graph.vertices n ≡ Some x

    row_entry : (m u v a : ℕ) (xs : List Vertex) (x : Vertex) → Are xs v → actuators_from m (kinds_of xs) ≡ true → slice_get xs u ≡ Some x → x.kind ≡ Actuator a
        → (q : ℕ) × (a ≡ m + q) × (vector_at (rows_from j done xs v k) q ≡ entry (v + u) a x)
    row_entry m u v a [] x are g e c = absurd cc
    row_entry m zero v a (y ∷ ys) x are g e c = (
      0,
      n.0 ∙ sym (add-zero m),
      ap (λ (r : Values). vector_at (r ++ rows_from j done ys (suc v) k) 0) (ap (row_of j done v y k) kind ∙ one_row v y a (are 0 v y refl (sym (add-zero v))) kind v)
          ∙ ap (entry v a) same ∙ ap (λ (w : ℕ). entry w a x) (sym (add-zero v)),
    )
      where
        same : y ≡ x
        same = same_Some y x e

        kind : y.kind ≡ Actuator a
        kind = ap (λ (w : Vertex). w.kind) same ∙ c

        n : (a ≡ m) × (actuators_from (m + 1) (kinds_of ys) ≡ true)
        n = first_number m a (kinds_of ys) (ap (λ (q : Kind). actuators_from m (q ∷ kinds_of ys)) (sym kind) ∙ g)
    row_entry m (suc u) v a (y ∷ ys) x are g e c = by y.kind refl g (λ n f. row_entry n u (suc v) a ys x (λ w n z d q. are (suc w) n z d (let b : n ≡ v + suc w = omega (arith, q) in b)) f e c)
      where
        moved : (q : ℕ) → vector_at (rows_from j done ys (suc v) k) q ≡ entry (suc v + u) a x → vector_at (rows_from j done ys (suc v) k) q ≡ entry (v + suc u) a x
        moved q z = z ∙ ap (λ (w : ℕ). entry w a x) (let b : suc v + u ≡ v + suc u = omega arith in b)

        by : (kind : Kind) → y.kind ≡ kind → actuators_from m (kind ∷ kinds_of ys) ≡ true
            → ((n : ℕ) → actuators_from n (kinds_of ys) ≡ true → (q : ℕ) × (a ≡ n + q) × (vector_at (rows_from j done ys (suc v) k) q ≡ entry (suc v + u) a x))
            → (q : ℕ) × (a ≡ m + q) × (vector_at (row_of j done v y k kind ++ rows_from j done ys (suc v) k) q ≡ entry (v + suc u) a x)
        by (Actuator i) q f r = let n = first_number m i (kinds_of ys) f in let z = r (m + 1) n.1 in (
          suc z.0,
          (let w = z.1 in omega arith),
          ap (λ (l : Values). vector_at (l ++ rows_from j done ys (suc v) k) (suc z.0))
              (one_row v y i (are 0 v y refl (sym (add-zero v))) q v) ∙ moved z.0 z.2,
        )
        by (Sensor i) q f r = let z = r m f in (z.0, z.1, moved z.0 z.2)
        by (Function b) q f r = let z = r m f in (z.0, z.1, moved z.0 z.2)
        by (Constant b) q f r = let z = r m f in (z.0, z.1, moved z.0 z.2)
        by (Get b) q f r = let z = r m f in (z.0, z.1, moved z.0 z.2)
        by Set q f r = let z = r m f in (z.0, z.1, moved z.0 z.2)
        by Explode q f r = let z = r m f in (z.0, z.1, moved z.0 z.2)
        by Implode q f r = let z = r m f in (z.0, z.1, moved z.0 z.2)
        by (Merge b) q f r = let z = r m f in (z.0, z.1, moved z.0 z.2)

  numbered : actuators_from 0 (kinds_of j.graph.vertices) ≡ true
  numbered = (and_parts _ (actuators_from 0 (kinds_of j.graph.vertices)) (and_parts _ (is_acyclic j.graph.vertices) h.valid).0).1

  so_far : (done : ℕ → ℕ) (v a k : ℕ) (x : Vertex) → slice_get j.graph.vertices v ≡ Some x → x.kind ≡ Actuator a → k < reactions j
      → row_at (rows_by j done) k a ≡ cond (nat_lt k (done v)) (flat_act j.graph j.sensors j.opening a k) (zeros (slice_index_or (lens_of j.graph.vertices x.ins) 0 0))
  so_far done v a k x e q within =
      let r = row_entry done k 0 v 0 a j.graph.vertices x (λ w n y d g. ap (slice_get j.graph.vertices) (g ∙ zero-add w) ∙ d) numbered e q in
      ap (λ (w : Values). vector_at w a) (row_of_rows j done done k within)
      ∙ ap (vector_at (rows_from j done j.graph.vertices 0 k)) (r.1 ∙ zero-add r.0) ∙ r.2 ∙ ap (λ (w : ℕ). entry done k w a x) (zero-add v)

  ended_rows : (c : ℕ → ℕ) → ((s : ℕ) → s < length j.program.seqs → c s ≡ full j s) → rows_by j (done_in j c) ≡ all_acts j
  ended_rows c done = from 0 (reactions j) (omega arith)
    where
      one : (k : ℕ) → k < reactions j → rows_from j (done_in j c) j.graph.vertices 0 k ≡ flat_act_row j.graph j.sensors j.opening k
      one k l = rows_all (done_in j c) k j.graph.vertices 0 (λ w n x e q.
          let g : n ≡ w = q ∙ zero-add w in
          let f = ap (slice_get j.graph.vertices) g ∙ e in
          (f, λ a t. let m = all_done c done n (x, f, inr (a, t)) in omega arith))

      from : (a m : ℕ) → a + m ≡ reactions j → map (rows_from j (done_in j c) j.graph.vertices 0) (range_with_len a m) ≡ map (flat_act_row j.graph j.sensors j.opening) (range_with_len a m)
      from a zero e = refl
      from a (suc m) e = λ i. one a (omega (arith, e)) i ∷ from (a + 1) m (omega (arith, e)) i

pub runs_end : RunsEnd
runs_end j h list done =
    let z : Core = run j list in
    let c : ℕ → ℕ = λ s. slice_index_or z.counts s 0 in
    let told_is = (have_laws j h).told list in
    record {
      cells = ap (λ (y : Core). y.cells) told_is ∙ ended_cells j h c done;
      rows = ap (λ (y : Core). y.rows) told_is ∙ ended_rows j h c done;
    }

pub runs_take_rows : RunsTakeRows
runs_take_rows j h list v a k x e q within =
    ap (λ (y : Core). row_at y.rows k a) ((have_laws j h).told list) ∙ so_far j h (done_in j (count (run j list))) v a k x e q within

-- what full counts tell
pub full_is_ended : FullIsEnded
full_is_ended j h = record { cells = ended_cells j h c done; rows = ended_rows j h c done }
  where
    c : ℕ → ℕ
    c s = slice_index_or (full_counts j) s 0

    done : (s : ℕ) → s < length j.program.seqs → c s ≡ full j s
    done s l = get_or-map-range_with_len (full j) 0 (length j.program.seqs) s s 0 l (zero-add s)

-- when all is done each actuator has taken its input in each reaction
pub rows_are_taken : RowsAreTaken
rows_are_taken j h list done v a k x e q within =
    runs_take_rows j h list v a k x e q within
    ∙ ap (λ (b : Bool). cond b (flat_act j.graph j.sensors j.opening a k) (zeros (slice_index_or (lens_of j.graph.vertices x.ins) 0 0)))
    (lt-ltb k (done_in j (count (run j list)) v) (let m = all_done j h (count (run j list)) done v (x, e, inr (a, q)) in omega arith))
