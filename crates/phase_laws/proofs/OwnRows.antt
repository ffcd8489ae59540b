-- The actuators' rows as counts of computations tell them: where one more actuator was computed, it has taken its input of the reaction.
use Rattle.std.proofs.Common.{◌≡◌, ℕ, zero, suc, ◌+◌, ◌<◌, ◌⊎◌, Bool, true, cond, ◌==◌, List, [], ◌∷◌, ◌++◌, length, map, Some, refl, sym, ap, subst, inl, inr, arith, ◌∙◌, zero-add, add-zero}
use Rattle.std.specs.Prelude.{slice_get, slice_index_or, slice_set, nat_lt}
use Rattle.std.proofs.lemmas.Option.{same_Some}
use Rattle.std.proofs.lemmas.Bool.{and_parts, eqb-true, cases_eq, le-ltb}
use Rattle.std.proofs.lemmas.List.{same_lists, length-set, get_or-set_same, get_or-set_other, map-append, length-replicate, get_or-replicate}
use Rattle.std.proofs.lemmas.List.FromFn.{length-map-range_with_len, get_or-map-range_with_len}
use Rattle.executive_program.specs.declared.Source.{Source}
use Rattle.executive_program.specs.declared.Kind.{Kind}
use Rattle.executive_program.specs.declared.Kind.TheVariants.{Sensor, Actuator, Function, Constant, Get, Set, Explode, Implode, Merge}
use Rattle.executive_program.specs.declared.Vertex.{Vertex}
use Rattle.executive_program.specs.Graph.{Graph, lens_of}
use Rattle.executive_program.specs.FlatOrder.{is_acyclic}
use Rattle.executive_program.specs.FlatValid.{is_flat, fits, actuators_from, kinds_of}
use Rattle.executive_program.specs.Meaning.{inputs, value_in, taken, taken_by, cells_after, flat_act}
use Rattle.executive_program.proofs.Facts.{vertex_valid, fits_of}
use Rattle.executive_program.proofs.KindLens.{one_is}
use Rattle.executive_program.specs.FlatLaws.{actuator_lens, actuator_len}
use Rattle.semaphore_core.specs.Job.{JobData, reactions, zero_rows}
use Rattle.semaphore_core.specs.Told.{row_by, row_of, rows_from, rows_by}
use Rattle.syn_base.specs.Vectors.{Vector, Values, vector_at, zeros}

numbered : (g : Graph) → is_flat g ≡ true → actuators_from 0 (kinds_of g.vertices) ≡ true
numbered g h = (and_parts _ (actuators_from 0 (kinds_of g.vertices)) (and_parts _ (is_acyclic g.vertices) h).0).1

actuator_one : (g : Graph) (x : Vertex) (a : ℕ) → x.kind ≡ Actuator a → fits g.bodies x.kind (lens_of g.vertices x.ins) x.outs ≡ true
    → lens_of g.vertices x.ins ≡ slice_index_or (lens_of g.vertices x.ins) 0 0 ∷ []
actuator_one g x a k h = one_is (lens_of g.vertices x.ins)
    (and_parts (length (lens_of g.vertices x.ins) == 1) (length x.outs == 0)
    (subst (λ (q : Kind). fits g.bodies q (lens_of g.vertices x.ins) x.outs ≡ true) k h)).0

-- an actuator's number is its place among those that are numbered from m on
first_number : (m a : ℕ) (kinds : List Kind) → actuators_from m (Actuator a ∷ kinds) ≡ true → (a ≡ m) × (actuators_from (m + 1) kinds ≡ true)
first_number m a kinds h = let q = and_parts (a == m) (actuators_from (m + 1) kinds) h in (eqb-true a m q.0, q.1)

module _ (look : Source → Vector) where
  taken_at : (m u a : ℕ) (xs : List Vertex) (x : Vertex) → actuators_from m (kinds_of xs) ≡ true → slice_get xs u ≡ Some x → x.kind
      ≡ Actuator a → (q : ℕ) × (a ≡ m + q) × (vector_at (taken look xs) q ≡ vector_at (inputs look x) 0)
  taken_at m u a [] x h e k = absurd cc
  taken_at m zero a (y ∷ ys) x h e k = let s = same_Some y x e in let kind : y.kind ≡ Actuator a = ap (λ (v : Vertex). v.kind) s ∙ k in
      let n = first_number m a (kinds_of ys) (ap (λ (q : Kind). actuators_from m (q ∷ kinds_of ys)) (sym kind) ∙ h) in
      (0, n.0 ∙ sym (add-zero m), (λ i. vector_at (taken_by look y (kind i) ++ taken look ys) 0) ∙ ap (λ (v : Vertex). vector_at (inputs look v) 0) s)
  taken_at m (suc u) a (y ∷ ys) x h e k = by y.kind h (λ n f. taken_at n u a ys x f e k)
    where
      by : (kind : Kind) → actuators_from m (kind ∷ kinds_of ys) ≡ true
          → ((n : ℕ) → actuators_from n (kinds_of ys) ≡ true → (q : ℕ) × (a ≡ n + q) × (vector_at (taken look ys) q ≡ vector_at (inputs look x) 0))
          → (q : ℕ) × (a ≡ m + q) × (vector_at (taken_by look y kind ++ taken look ys) q ≡ vector_at (inputs look x) 0)
      by (Actuator i) f r = let n = first_number m i (kinds_of ys) f in let z = r (m + 1) n.1 in (suc z.0, (let w = z.1 in omega arith), z.2)
      by (Sensor i) f r = r m f
      by (Function b) f r = r m f
      by (Constant c) f r = r m f
      by (Get c) f r = r m f
      by Set f r = r m f
      by Explode f r = r m f
      by Implode f r = r m f
      by (Merge c) f r = r m f

-- what an actuator takes in a reaction is its input
pub act_is : (j : JobData) → is_flat j.graph ≡ true → (k v a : ℕ) (x : Vertex) → slice_get j.graph.vertices v ≡ Some x → x.kind ≡ Actuator a
    → flat_act j.graph j.sensors j.opening a k ≡ vector_at (inputs (value_in j.graph (cells_after j.graph j.sensors j.opening k) (slice_index_or j.sensors k [])) x) 0
act_is j valid k v a x e q = let look = value_in j.graph (cells_after j.graph j.sensors j.opening k) (slice_index_or j.sensors k []) in
    let r = taken_at look 0 v a j.graph.vertices x (numbered j.graph valid) e q in ap (vector_at (taken look j.graph.vertices)) (r.1 ∙ zero-add r.0) ∙ r.2

module _ (j : JobData) (done done' : ℕ → ℕ) (k : ℕ) where
  -- whether operation v has taken its input of reaction k is the same
  abbrev pub SameAt : ℕ → Type 0
  SameAt v = nat_lt k (done v) ≡ nat_lt k (done' v)

  entries_same : (v a : ℕ) (ns : List ℕ) → SameAt v → map (λ n. row_by j done v a n k) ns ≡ map (λ n. row_by j done' v a n k) ns
  entries_same v a [] h = refl
  entries_same v a (n ∷ ns) h = λ i. cond (h i) (flat_act j.graph j.sensors j.opening a k) (zeros n) ∷ entries_same v a ns h i

  row_same : (v : ℕ) (x : Vertex) (kind : Kind) → ((a : ℕ) → kind ≡ Actuator a → SameAt v) → row_of j done v x k kind ≡ row_of j done' v x k kind
  row_same v x (Actuator a) h = entries_same v a (lens_of j.graph.vertices x.ins) (h a refl)
  row_same v x (Sensor i) h = refl
  row_same v x (Function b) h = refl
  row_same v x (Constant c) h = refl
  row_same v x (Get c) h = refl
  row_same v x Set h = refl
  row_same v x Explode h = refl
  row_same v x Implode h = refl
  row_same v x (Merge c) h = refl

  pub rows_same : (xs : List Vertex) (v : ℕ) → ((w n a : ℕ) (x : Vertex) → slice_get xs w ≡ Some x → n ≡ v + w → x.kind ≡ Actuator a → SameAt n) → rows_from j done xs v k ≡ rows_from j done' xs v k
  rows_same [] v h = refl
  rows_same (x ∷ xs) v h = λ i. row_same v x x.kind (λ a e. h 0 v a x refl (sym (add-zero v)) e) i
      ++ rows_same xs (suc v) (λ w n a y e q. h (suc w) n a y e (let g : n ≡ v + suc w = omega (arith, q) in g)) i

  abbrev AllFit : List Vertex → Type 0
  AllFit xs = (w : ℕ) (x : Vertex) → slice_get xs w ≡ Some x → fits j.graph.bodies x.kind (lens_of j.graph.vertices x.ins) x.outs ≡ true

  one_entry : (d : ℕ → ℕ) (v a : ℕ) (y : Vertex) → y.kind ≡ Actuator a → fits j.graph.bodies y.kind (lens_of j.graph.vertices y.ins) y.outs ≡ true
      → row_of j d v y k y.kind ≡ row_by j d v a (slice_index_or (lens_of j.graph.vertices y.ins) 0 0) k ∷ []
  one_entry d v a y e f = ap (row_of j d v y k) e ∙ ap (map (λ n. row_by j d v a n k)) (actuator_one j.graph y a e f)

  -- where one actuator alone has taken its input now
  rows_set : (m v u a : ℕ) (xs : List Vertex) (x : Vertex) → AllFit xs → actuators_from m (kinds_of xs) ≡ true → slice_get xs u ≡ Some x → x.kind ≡ Actuator a
      → ((w n b : ℕ) (y : Vertex) → slice_get xs w ≡ Some y → n ≡ v + w → y.kind ≡ Actuator b → (w ≡ u → ⊥) → SameAt n) → nat_lt k (done' (v + u)) ≡ true
      → (q : ℕ) × (a ≡ m + q) × (slice_set (rows_from j done xs v k) q (flat_act j.graph j.sensors j.opening a k) ≡ rows_from j done' xs v k)
  rows_set m v u a [] x f h e c o t = absurd cc
  rows_set m v zero a (y ∷ ys) x f h e c o t = (0, n.0 ∙ sym (add-zero m), before ∙ (λ i. sym now i ∷ rest i) ∙ sym after)
    where
      kind : y.kind ≡ Actuator a
      kind = ap (λ (w : Vertex). w.kind) (same_Some y x e) ∙ c

      n : (a ≡ m) × (actuators_from (m + 1) (kinds_of ys) ≡ true)
      n = first_number m a (kinds_of ys) (ap (λ (q : Kind). actuators_from m (q ∷ kinds_of ys)) (sym kind) ∙ h)

      len : ℕ
      len = slice_index_or (lens_of j.graph.vertices y.ins) 0 0

      before : slice_set (rows_from j done (y ∷ ys) v k) 0 (flat_act j.graph j.sensors j.opening a k) ≡ flat_act j.graph j.sensors j.opening a k ∷ rows_from j done ys (suc v) k
      before = ap (λ (r : Values). slice_set (r ++ rows_from j done ys (suc v) k) 0 (flat_act j.graph j.sensors j.opening a k)) (one_entry done v a y kind (f 0 y refl))

      after : rows_from j done' (y ∷ ys) v k ≡ row_by j done' v a (slice_index_or (lens_of j.graph.vertices y.ins) 0 0) k ∷ rows_from j done' ys (suc v) k
      after = ap (λ (r : Values). r ++ rows_from j done' ys (suc v) k) (one_entry done' v a y kind (f 0 y refl))

      now : row_by j done' v a (slice_index_or (lens_of j.graph.vertices y.ins) 0 0) k ≡ flat_act j.graph j.sensors j.opening a k
      now = ap (λ (b : Bool). cond b (flat_act j.graph j.sensors j.opening a k)
          (zeros (slice_index_or (lens_of j.graph.vertices y.ins) 0 0))) (ap (λ (w : ℕ). nat_lt k (done' w)) (sym (add-zero v)) ∙ t)

      rest : rows_from j done ys (suc v) k ≡ rows_from j done' ys (suc v) k
      rest = rows_same ys (suc v) (λ w n b z r q d. o (suc w) n b z r (let g : n ≡ v + suc w = omega (arith, q) in g) d (λ i. absurd (omega arith)))
  rows_set m v (suc u) a (y ∷ ys) x f h e c o t = by y.kind refl h
      (λ n g. rows_set n (suc v) u a ys x (λ w z r. f (suc w) z r) g e c
      (λ w n b z r q d i. o (suc w) n b z r (let g : n ≡ v + suc w = omega (arith, q) in g) d (λ s. i (let g : w ≡ u = omega arith in g)))
      (ap (λ (w : ℕ). nat_lt k (done' w)) (let g : suc v + u ≡ v + suc u = omega arith in g) ∙ t))
      (row_same v y y.kind (λ b d. o 0 v b y refl (sym (add-zero v)) d (λ i. absurd (omega arith))))
    where
      Z : Vector
      Z = flat_act j.graph j.sensors j.opening a k

      by : (kind : Kind) → y.kind ≡ kind → actuators_from m (kind ∷ kinds_of ys) ≡ true → ((n : ℕ) → actuators_from n (kinds_of ys) ≡ true
          → (q : ℕ) × (a ≡ n + q) × (slice_set (rows_from j done ys (suc v) k) q (flat_act j.graph j.sensors j.opening a k) ≡ rows_from j done' ys (suc v) k))
          → row_of j done v y k y.kind ≡ row_of j done' v y k y.kind
          → (q : ℕ) × (a ≡ m + q) × (slice_set (row_of j done v y k kind ++ rows_from j done ys (suc v) k) q
          (flat_act j.graph j.sensors j.opening a k) ≡ row_of j done' v y k kind ++ rows_from j done' ys (suc v) k)
      by (Actuator i) s g r same = let n = first_number m i (kinds_of ys) g in let z = r (m + 1) n.1 in let len = slice_index_or (lens_of j.graph.vertices y.ins) 0 0 in
          let one = λ (d : ℕ → ℕ). sym (ap (row_of j d v y k) s) ∙ one_entry d v i y s (f 0 y refl) in (
            suc z.0,
            (let w = z.1 in omega arith),
            ap (λ (l : Values). slice_set (l ++ rows_from j done ys (suc v) k) (suc z.0) Z) (one done)
                ∙ (λ t. (sym (one done) ∙ sym (ap (row_of j done v y k) s) ∙ same ∙ ap (row_of j done' v y k) s ∙ one done') t ++ z.2 t)
                ∙ ap (λ (l : Values). l ++ rows_from j done' ys (suc v) k) (sym (one done')),
          )
      by (Sensor i) s g r same = r m g
      by (Function b) s g r same = r m g
      by (Constant d) s g r same = r m g
      by (Get d) s g r same = r m g
      by Set s g r same = r m g
      by Explode s g r same = r m g
      by Implode s g r same = r m g
      by (Merge d) s g r same = r m g

  pub row_set : is_flat j.graph ≡ true → (u a : ℕ) (x : Vertex) → slice_get j.graph.vertices u ≡ Some x → x.kind ≡ Actuator a
      → ((w b : ℕ) (y : Vertex) → slice_get j.graph.vertices w ≡ Some y → y.kind ≡ Actuator b → (w ≡ u → ⊥) → SameAt w) → nat_lt k (done' u) ≡ true
      → slice_set (rows_from j done j.graph.vertices 0 k) a (flat_act j.graph j.sensors j.opening a k) ≡ rows_from j done' j.graph.vertices 0 k
  row_set valid u a x e c o t = let r = rows_set 0 0 u a j.graph.vertices x (λ w y q. fits_of j.graph w y (vertex_valid j.graph valid w y q)) (numbered j.graph valid) e c
      (λ w n b y q s d i. subst (λ (z : ℕ). SameAt z) (sym (s ∙ zero-add w)) (o w b y q d i)) (ap (λ (w : ℕ). nat_lt k (done' w)) (zero-add u) ∙ t) in
      ap (λ (n : ℕ). slice_set (rows_from j done j.graph.vertices 0 k) n (flat_act j.graph j.sensors j.opening a k)) (r.1 ∙ zero-add r.0) ∙ r.2

module _ (j : JobData) (done done' : ℕ → ℕ) where
  abbrev Row : (ℕ → ℕ) → ℕ → Values
  Row d k = rows_from j d j.graph.vertices 0 k

  rows_long : (d : ℕ → ℕ) → length (rows_by j d) ≡ reactions j
  rows_long d = length-map-range_with_len (λ k. rows_from j d j.graph.vertices 0 k) 0 (reactions j)

  row_at : (d : ℕ → ℕ) (k : ℕ) → k < reactions j → (e : Values) → slice_index_or (rows_by j d) k e ≡ rows_from j d j.graph.vertices 0 k
  row_at d k l e = get_or-map-range_with_len (λ k. rows_from j d j.graph.vertices 0 k) 0 (reactions j) k k e l (zero-add k)

  -- where the rows of one reaction alone change
  pub rows_by_set : (k : ℕ) → k < reactions j
      → ((i : ℕ) → (i ≡ k → ⊥) → rows_from j done j.graph.vertices 0 i ≡ rows_from j done' j.graph.vertices 0 i) → (row : Values) → row
      ≡ rows_from j done' j.graph.vertices 0 k
      → slice_set (rows_by j done) k row ≡ rows_by j done'
  rows_by_set k l o row e = same_lists (slice_set (rows_by j done) k row) (rows_by j done') (length-set (rows_by j done) k row ∙ rows_long done ∙ sym (rows_long done'))
      (λ i d m. by i d (let z = length-set (rows_by j done) k row in let y = rows_long done in omega arith) (cases_eq i k))
    where
      by : (i : ℕ) (d : Values) → i < reactions j → (i ≡ k) ⊎ (i ≡ k → ⊥) → slice_index_or (slice_set (rows_by j done) k row) i d ≡ slice_index_or (rows_by j done') i d
      by i d m (inl q) = ap (λ (n : ℕ). slice_index_or (slice_set (rows_by j done) k row) n d) q ∙ get_or-set_same (rows_by j done) k row d (let y = rows_long done in omega arith) ∙ e
          ∙ sym (row_at done' k l d) ∙ ap (λ (n : ℕ). slice_index_or (rows_by j done') n d) (sym q)
      by i d m (inr q) = get_or-set_other (rows_by j done) k i row d q ∙ row_at done i m d ∙ o i q ∙ sym (row_at done' i m d)

  pub row_of_rows : (k : ℕ) → k < reactions j → slice_index_or (rows_by j done) k [] ≡ rows_from j done j.graph.vertices 0 k
  row_of_rows k l = row_at done k l []

  pub rows_by_same : ((k : ℕ) → rows_from j done j.graph.vertices 0 k ≡ rows_from j done' j.graph.vertices 0 k) → rows_by j done ≡ rows_by j done'
  rows_by_same h = same_lists (rows_by j done) (rows_by j done') (rows_long done ∙ sym (rows_long done'))
      (λ i d m. let l : i < reactions j = (let y = rows_long done in omega arith) in row_at done i l d ∙ h i ∙ sym (row_at done' i l d))

-- before any computation all rows are zeros
module _ (j : JobData) (done : ℕ → ℕ) (none : (v : ℕ) → done v ≡ 0) where
  zero_entries : (v a k : ℕ) (ns : List ℕ) → map (λ n. row_by j done v a n k) ns ≡ map zeros ns
  zero_entries v a k [] = refl
  zero_entries v a k (n ∷ ns) = λ i. ap (λ (b : Bool). cond b (flat_act j.graph j.sensors j.opening a k) (zeros n)) (ap (nat_lt k) (none v) ∙ le-ltb k 0 (omega arith)) i ∷ zero_entries v a k ns i

  zero_row : (v k : ℕ) (x : Vertex) (kind : Kind) → row_of j done v x k kind ≡ map zeros (actuator_len j.graph x kind)
  zero_row v k x (Actuator a) = zero_entries v a k (lens_of j.graph.vertices x.ins)
  zero_row v k x (Sensor i) = refl
  zero_row v k x (Function b) = refl
  zero_row v k x (Constant c) = refl
  zero_row v k x (Get c) = refl
  zero_row v k x Set = refl
  zero_row v k x Explode = refl
  zero_row v k x Implode = refl
  zero_row v k x (Merge c) = refl

  rows_none_from : (v k : ℕ) (xs : List Vertex) → rows_from j done xs v k ≡ map zeros (actuator_lens j.graph xs)
  rows_none_from v k [] = refl
  rows_none_from v k (x ∷ xs) = (λ i. zero_row v k x x.kind i ++ rows_none_from (suc v) k xs i) ∙ sym (map-append zeros (actuator_len j.graph x x.kind) (actuator_lens j.graph xs))

  pub rows_none : rows_by j done ≡ zero_rows j
  rows_none = same_lists (rows_by j done) (zero_rows j) (rows_long j done done done ∙ sym (length-replicate (reactions j) (map zeros (actuator_lens j.graph j.graph.vertices))))
      (λ i d m. let l : i < reactions j = (let y = rows_long j done done done in omega arith) in
      row_at j done done done i l d ∙ rows_none_from 0 i j.graph.vertices
      ∙ sym (get_or-replicate (reactions j) i (map zeros (actuator_lens j.graph j.graph.vertices)) d l))
