-- What counts tell of the core and what they tell of the theory agree.
use Rattle.std.proofs.Common.{
  ◌≡◌,
  ℕ,
  zero,
  suc,
  ◌+◌,
  ◌-◌,
  ◌*◌,
  ◌/◌,
  ◌%◌,
  ◌<◌,
  ◌≤◌,
  ◌⊎◌,
  Bool,
  true,
  false,
  ◌==◌,
  cond,
  List,
  [],
  ◌∷◌,
  ◌++◌,
  length,
  map,
  Option,
  Some,
  None,
  refl,
  sym,
  ap,
  subst,
  inl,
  inr,
  arith,
  ◌∙◌,
  ℤ,
  pos,
  length-append,
  add-one,
  zero-add,
  suc-mul,
  mul-le-mul_right,
  ext_get_or,
}
use Rattle.std.specs.Prelude.{slice_get, slice_index_or, replicate, nat_lt, if◌then◌else◌}
use Rattle.std.specs.List.{range_with_len}
use Rattle.std.proofs.lemmas.Bool.{cases_lt, and_parts, eqb-true, eq-eqb}
use Rattle.std.proofs.lemmas.List.{length-map, length-replicate, get_or_append_left, get_or-append-add, get_or_past}
use Rattle.std.proofs.lemmas.List.FromFn.{length-map-range_with_len, get_or-map-range_with_len}
use Rattle.std.proofs.lemmas.Nat.{div-mul-add, mod-mul-add}
use Rattle.std.proofs.lemmas.Option.{same_Some}
use Rattle.executive_program.specs.System as theory
use Rattle.executive_program.specs.System.{is_signal, is_take, advances, total}
use Rattle.executive_program.specs.Level.{element_at}
use Rattle.executive_program.specs.declared.Kind.{Kind}
use Rattle.executive_program.specs.declared.Kind.TheVariants.{Sensor, Actuator, Function, Constant, Get, Set, Explode, Implode, Merge}
use Rattle.executive_program.specs.declared.Vertex.{Vertex}
use Rattle.executive_program.specs.Graph.{lens_of}
use Rattle.executive_program.specs.FlatValid.{actuators_from, kinds_of}
use Rattle.executive_program.specs.Meaning.{is_get, delay_number, initial_cell, initial_cells, flat_act, cells_after}
use Rattle.executive_program.specs.FlatLaws.{actuator_lens, actuator_len}
use Rattle.executive_program.specs.Instructions.{len_of, depth_of}
use Rattle.executive_program.specs.MicroSteps.{element_of, wire_of, wire_len}
use Rattle.semaphore_core.specs.Operation.{delay_of}
use Rattle.semaphore_core.specs.Job.{JobData, reactions, zero_rows, system}
use Rattle.semaphore_core.specs.Told.{
  stored_value,
  registers_after,
  made,
  last_load,
  cell_by,
  cells_from,
  cells_by,
  row_by,
  row_of,
  rows_from,
  rows_by,
  done_in,
  done_by,
  own_after,
  element_told,
  buffer_told,
  wire_told,
  told,
}
use Rattle.phase_laws.specs.Agrees.{IsFormed, Agrees, caller, row_at}
use Rattle.phase_laws.proofs.AgreeLists.{same_length, length_at}
use Rattle.phase_laws.proofs.AgreeDelays.{GetHalf, get_half, later_row, numbered_rows}
use Rattle.phase_laws.proofs.AgreePlaces.{opening_elements, lists_many, buffer_list, wire_list}
use Rattle.phase_laws.proofs.AgreeTells.{OneInput, one_input}
use Rattle.syn_base.specs.Vectors.{Vector, Values, vector_at, zeros}

-- entry i of a list made from a function
made_at : {A : Type 0} (g : ℕ → A) (n i : ℕ) (d : A) → i < n → slice_index_or (map g (range_with_len 0 n)) i d ≡ g i
made_at g n i d l = get_or-map-range_with_len g 0 n i i d l (zero-add i)

made_past : {A : Type 0} (g : ℕ → A) (n i : ℕ) (d : A) → n ≤ i → slice_index_or (map g (range_with_len 0 n)) i d ≡ d
made_past g n i d l = get_or_past (map g (range_with_len 0 n)) i d (let e = length-map-range_with_len g 0 n in omega arith)

-- lists of one length each
all_long : (g : ℕ → Values) (z : Values) (a n : ℕ) → ((i : ℕ) → length (g i) ≡ length z) → map length (map g (range_with_len a n)) ≡ map length (replicate n z)
all_long g z a zero h = refl
all_long g z a (suc n) h = λ t. h a t ∷ all_long g z (a + 1) n h t

module _ (j : JobData) where
  -- of two ways to count computations: the cell of a delay, where its set half was computed as often
  cells_same : (c d : ℕ → ℕ) (xs : List Vertex) (n v : ℕ) (x : Vertex) (z : List ℤ) → slice_get xs v ≡ Some x → x.kind ≡ Get z → ((t : ℕ) → x.twin ≡ Some t → c t ≡ d t)
      → vector_at (cells_from j c xs n) (delay_number xs v) ≡ vector_at (cells_from j d xs n) (delay_number xs v)
  cells_same c d [] n v x z e k h = absurd (cc)
  cells_same c d (y ∷ ys) n zero x z e k h = get_first c ∙ by x.twin refl ∙ sym (get_first d)
    where
      same : y ≡ x
      same = same_Some y x e

      get_first : (c : ℕ → ℕ) → vector_at (cells_from j c (y ∷ ys) n) 0 ≡ cell_by j c n x.twin
      get_first c = (λ t. vector_at (cond (is_get ((ap (λ (q : Vertex). q.kind) same ∙ k) t)) (cell_by j c n (same t).twin ∷ cells_from j c ys (suc n)) (cells_from j c ys n)) 0)

      by : (o : Option ℕ) → x.twin ≡ o → cell_by j c n o ≡ cell_by j d n o
      by None q = refl
      by (Some t) q = ap (λ (i : ℕ). vector_at (cells_after j.graph j.sensors j.opening i) n) (h t q)
  cells_same c d (y ∷ ys) n (suc v) x z e k h = by (is_get y.kind) (cells_same c d ys (suc n) v x z e k h) (cells_same c d ys n v x z e k h)
    where
      by : (b : Bool) → vector_at (cells_from j c ys (suc n)) (delay_number ys v)
          ≡ vector_at (cells_from j d ys (suc n)) (delay_number ys v) → vector_at (cells_from j c ys n) (delay_number ys v)
          ≡ vector_at (cells_from j d ys n) (delay_number ys v)
          → vector_at (cond b (cell_by j c n y.twin ∷ cells_from j c ys (suc n)) (cells_from j c ys n)) (if b then delay_number ys v + 1 else delay_number ys v)
          ≡ vector_at (cond b (cell_by j d n y.twin ∷ cells_from j d ys (suc n)) (cells_from j d ys n)) (if b then delay_number ys v + 1 else delay_number ys v)
      by true r q = rw add-one r
      by false r q = q

  -- each delay has its cell
  cells_long : (c : ℕ → ℕ) (xs : List Vertex) (n : ℕ) → length (cells_from j c xs n) ≡ length (initial_cells xs)
  cells_long c [] n = refl
  cells_long c (y ∷ ys) n = by y.kind (cells_long c ys (suc n)) (cells_long c ys n)
    where
      by : (k : Kind) → length (cells_from j c ys (suc n)) ≡ length (initial_cells ys) → length (cells_from j c ys n) ≡ length (initial_cells ys)
          → length (cond (is_get k) (cell_by j c n y.twin ∷ cells_from j c ys (suc n)) (cells_from j c ys n)) ≡ length (initial_cell k ++ initial_cells ys)
      by (Get z) r q = ap (λ (i : ℕ). suc i) r
      by (Sensor i) r q = q
      by (Actuator i) r q = q
      by (Function b) r q = q
      by (Constant z) r q = q
      by Set r q = q
      by Explode r q = q
      by Implode r q = q
      by (Merge z) r q = q

  -- each actuator has its row
  pub rows_long : (c : ℕ → ℕ) (xs : List Vertex) (v k : ℕ) → length (rows_from j c xs v k) ≡ length (actuator_lens j.graph xs)
  rows_long c [] v k = refl
  rows_long c (y ∷ ys) v k = by y.kind (rows_long c ys (suc v) k)
    where
      by : (q : Kind) → length (rows_from j c ys (suc v) k) ≡ length (actuator_lens j.graph ys)
          → length (row_of j c v y k q ++ rows_from j c ys (suc v) k) ≡ length (actuator_len j.graph y q ++ actuator_lens j.graph ys)
      by (Actuator a) r = length-append (map (λ n. row_by j c v a n k) (lens_of j.graph.vertices y.ins)) (rows_from j c ys (suc v) k)
          ∙ (λ t. length-map (lens_of j.graph.vertices y.ins) (λ n. row_by j c v a n k) t + r t)
          ∙ sym (length-append (lens_of j.graph.vertices y.ins) (actuator_lens j.graph ys))
      by (Sensor i) r = r
      by (Function b) r = r
      by (Constant z) r = r
      by (Get z) r = r
      by Set r = r
      by Explode r = r
      by Implode r = r
      by (Merge z) r = r

  -- and takes the same where its operation was computed as often
  rows_same : (c d : ℕ → ℕ) (xs : List Vertex) (n u v a k : ℕ) (x : Vertex) → OneInput j.graph xs → actuators_from n (kinds_of xs) ≡ true
      → slice_get xs v ≡ Some x → x.kind ≡ Actuator (n + a) → c (u + v) ≡ d (u + v)
      → vector_at (rows_from j c xs u k) a ≡ vector_at (rows_from j d xs u k) a
  rows_same c d [] n u v a k x o h e q r = absurd (cc)
  rows_same c d (y ∷ ys) n u zero a k x o h e q r = at_first c ∙ by (lens_of j.graph.vertices y.ins) (o 0 (n + a) y refl kind) ∙ sym (at_first d)
    where
      kind : y.kind ≡ Actuator (n + a)
      kind = ap (λ (w : Vertex). w.kind) (same_Some y x e) ∙ q

      first : a ≡ 0
      first = let f : actuators_from n (Actuator (n + a) ∷ kinds_of ys) ≡ true = subst (λ (w : Kind). actuators_from n (w ∷ kinds_of ys) ≡ true) kind h in
          let g = eqb-true (n + a) n (and_parts (n + a == n) (actuators_from (n + 1) (kinds_of ys)) f).0 in omega arith

      at_first : (c : ℕ → ℕ) → vector_at (rows_from j c (y ∷ ys) u k) a ≡ vector_at (map (λ m. row_by j c u (n + a) m k) (lens_of j.graph.vertices y.ins) ++ rows_from j c ys (suc u) k) 0
      at_first c = λ t. vector_at (row_of j c u y k (kind t) ++ rows_from j c ys (suc u) k) (first t)

      now : c u ≡ d u
      now = let z : u + 0 ≡ u = omega arith in subst (λ (i : ℕ). c i ≡ d i) z r

      by : (l : List ℕ) → length l ≡ 1 → vector_at (map (λ m. row_by j c u (n + a) m k) l ++ rows_from j c ys (suc u) k) 0
          ≡ vector_at (map (λ m. row_by j d u (n + a) m k) l ++ rows_from j d ys (suc u) k) 0
      by [] g = absurd (omega arith)
      by (i ∷ l) g = ap (λ (s : ℕ). cond (nat_lt k s) (flat_act j.graph j.sensors j.opening (n + a) k) (zeros i)) now
  rows_same c d (y ∷ ys) n u (suc v) a k x o h e q r =
      by y.kind refl h (λ m b g w. rows_same c d ys m (suc u) v b k x (λ i s z. o (suc i) s z) g e w
      (let z : u + suc v ≡ suc u + v = omega arith in subst (λ (i : ℕ). c i ≡ d i) z r))
    where
      -- one row stands before those of the later operations
      behind : (i b : ℕ) → a ≡ suc b → (l : List ℕ) → length l ≡ 1 → vector_at (rows_from j c ys (suc u) k) b ≡ vector_at (rows_from j d ys (suc u) k) b
          → vector_at (map (λ m. row_by j c u i m k) l ++ rows_from j c ys (suc u) k) a ≡ vector_at (map (λ m. row_by j d u i m k) l ++ rows_from j d ys (suc u) k) a
      behind i b f [] g s = absurd (omega arith)
      behind i b f (w ∷ []) g s = ap (vector_at (row_by j c u i w k ∷ rows_from j c ys (suc u) k)) f ∙ s ∙ sym (ap (vector_at (row_by j d u i w k ∷ rows_from j d ys (suc u) k)) f)
      behind i b f (w ∷ (z ∷ l)) g s = absurd (omega arith)

      by : (w : Kind) → y.kind ≡ w → actuators_from n (w ∷ kinds_of ys) ≡ true
          → ((m b : ℕ) → actuators_from m (kinds_of ys) ≡ true → x.kind ≡ Actuator (m + b) → vector_at (rows_from j c ys (suc u) k) b ≡ vector_at (rows_from j d ys (suc u) k) b)
          → vector_at (row_of j c u y k w ++ rows_from j c ys (suc u) k) a ≡ vector_at (row_of j d u y k w ++ rows_from j d ys (suc u) k) a
      by (Actuator i) w h s = let g = (and_parts (i == n) (actuators_from (n + 1) (kinds_of ys)) h).1 in let l = later_row ys (n + 1) v (n + a) x g e q in
          behind i (a - 1) (omega arith) (lens_of j.graph.vertices y.ins) (o 0 i y refl w) (s (n + 1) (a - 1) g (q ∙ ap (λ (b : ℕ). Actuator b) (let z : n + a ≡ n + 1 + (a - 1) = omega arith in z)))
      by (Sensor i) w h s = s n a h q
      by (Function b) w h s = s n a h q
      by (Constant z) w h s = s n a h q
      by (Get z) w h s = s n a h q
      by Set w h s = s n a h q
      by Explode w h s = s n a h q
      by Implode w h s = s n a h q
      by (Merge z) w h s = s n a h q

  module _ (f : IsFormed j) (counts : List ℕ) (many : length counts ≡ length j.program.seqs) where
    abbrev C : ℕ → ℕ
    C s = slice_index_or counts s 0

    -- by the sequence that calls an operation it was computed as often as by all
    done_same : (v t : ℕ) → caller j t ≡ caller j v → done_in j C t ≡ done_by j (caller j v) (C (caller j v)) t
    done_same v t e = sym (rw (eq-eqb (caller j t) (caller j v) e) (λ i. made j (sym e i) (last_load j t) (C (sym e i))))

    cells_agree : (v d : ℕ) (x : Vertex) → slice_get j.graph.vertices v ≡ Some x → delay_of j.graph v x ≡ Some d
        → vector_at (cells_by j (done_in j C)) d ≡ vector_at (cells_by j (done_by j (caller j v) (C (caller j v)))) d
    cells_agree v d x is e = subst (λ (n : ℕ). vector_at (cells_by j (done_in j C)) n ≡ vector_at (cells_by j (done_by j (caller j v) (C (caller j v)))) n) g.number
        (cells_same (done_in j C) (done_by j (caller j v) (C (caller j v))) j.graph.vertices 0 g.at g.half g.values g.stands g.kind
        (λ t q. done_same v t (sym ((f.formed.1.called g.at g.half g.stands).twins g.values t g.kind q).0 ∙ g.together)))
      where
        g : GetHalf j.program j.graph v d
        g = get_half j.program j.graph f.seqs j.media f.formed.0 f.formed.1 f.valid v d x is e

    rows_agree : (v a k : ℕ) (x : Vertex) → slice_get j.graph.vertices v ≡ Some x → x.kind ≡ Actuator a
        → row_at (rows_by j (done_in j C)) k a ≡ row_at (rows_by j (done_by j (caller j v) (C (caller j v)))) k a
    rows_agree v a k x is e = by (cases_lt k (reactions j))
      where
        by : (k < reactions j) ⊎ (reactions j ≤ k) → row_at (rows_by j (done_in j C)) k a ≡ row_at (rows_by j (done_by j (caller j v) (C (caller j v)))) k a
        by (inl l) = ap (λ (r : Values). vector_at r a) (made_at (rows_from j (done_in j C) j.graph.vertices 0) (reactions j) k [] l)
            ∙ rows_same (done_in j C) (done_by j (caller j v) (C (caller j v))) j.graph.vertices 0 0 v a k x (one_input j.graph f.valid)
            (numbered_rows j.graph f.valid) is (e ∙ ap (λ (b : ℕ). Actuator b) (sym (zero-add a)))
            (subst (λ (i : ℕ). done_in j C i ≡ done_by j (caller j v) (C (caller j v)) i) (sym (zero-add v)) (done_same v v refl))
            ∙ sym (ap (λ (r : Values). vector_at r a) (made_at (rows_from j (done_by j (caller j v) (C (caller j v))) j.graph.vertices 0) (reactions j) k [] l))
        by (inr l) = ap (λ (r : Values). vector_at r a)
            (made_past (rows_from j (done_in j C) j.graph.vertices 0) (reactions j) k [] l
            ∙ sym (made_past (rows_from j (done_by j (caller j v) (C (caller j v))) j.graph.vertices 0) (reactions j) k [] l))

    -- the lists that are told have the lengths of the opening
    cells_there : (c : ℕ → ℕ) → length (cells_by j c) ≡ length j.opening
    cells_there c = cells_long c j.graph.vertices 0 ∙ sym (same_length j.opening (initial_cells j.graph.vertices) f.opened)

    rows_there : (c : ℕ → ℕ) → map length (rows_by j c) ≡ map length (zero_rows j)
    rows_there c = all_long (rows_from j c j.graph.vertices 0) (map zeros (actuator_lens j.graph j.graph.vertices)) 0 (reactions j)
        (λ k. rows_long c j.graph.vertices 0 k ∙ sym (length-map (actuator_lens j.graph j.graph.vertices) zeros))

    abbrev E : List (List ℤ)
    E = map (buffer_told j C) (range_with_len 0 (length j.program.buffers)) ++ map (wire_told j C) (range_with_len 0 j.media)

    buffers_many : length (map (buffer_told j C) (range_with_len 0 (length j.program.buffers))) ≡ length j.program.buffers
    buffers_many = length-map-range_with_len (buffer_told j C) 0 (length j.program.buffers)

    buffer_is : (b : ℕ) → b < length j.program.buffers → slice_index_or E b [] ≡ buffer_told j C b
    buffer_is b l = get_or_append_left (map (buffer_told j C) (range_with_len 0 (length j.program.buffers)))
        (map (wire_told j C) (range_with_len 0 j.media)) [] b (let e = buffers_many in omega arith)
        ∙ made_at (buffer_told j C) (length j.program.buffers) b [] l

    wire_is : (m : ℕ) → m < j.media → slice_index_or E (length j.program.buffers + m) [] ≡ wire_told j C m
    wire_is m l = ap (λ (n : ℕ). slice_index_or E (n + m) []) (sym buffers_many)
        ∙ get_or-append-add (map (buffer_told j C) (range_with_len 0 (length j.program.buffers)))
        (map (wire_told j C) (range_with_len 0 j.media)) m [] ∙ made_at (wire_told j C) j.media m [] l

    elements_many : length E ≡ length j.program.buffers + j.media
    elements_many = length-append (map (buffer_told j C) (range_with_len 0 (length j.program.buffers)))
        (map (wire_told j C) (range_with_len 0 j.media)) ∙ (let a = buffers_many in let b = length-map-range_with_len (wire_told j C) 0 j.media in omega arith)

    list_long : (n : ℕ) → n < length j.program.buffers + j.media → length (slice_index_or E n []) ≡ length (slice_index_or (opening_elements j.program j.media) n [])
    list_long n l = by (cases_lt n (length j.program.buffers))
      where
        wire : (m : ℕ) → m < j.media → length (slice_index_or E (length j.program.buffers + m) []) ≡ length (slice_index_or (opening_elements j.program j.media) (length j.program.buffers + m) [])
        wire m k = ap (λ (v : Vector). length v) (wire_is m k)
            ∙ length-map-range_with_len (λ i. element_told j C (wire_of j.program m i) 0) 0 (wire_len j.program m)
            ∙ sym (ap (λ (v : Vector). length v) (wire_list j.program j.media m k) ∙ length-replicate (wire_len j.program m) (pos 0))

        by : (n < length j.program.buffers) ⊎ (length j.program.buffers ≤ n) → length (slice_index_or E n []) ≡ length (slice_index_or (opening_elements j.program j.media) n [])
        by (inl h) = ap (λ (v : Vector). length v) (buffer_is n h)
            ∙ length-map-range_with_len (λ i. element_told j C (element_of j.program n (i % len_of j.program n))
            (i / len_of j.program n)) 0 (depth_of j.program n * len_of j.program n)
            ∙ sym (ap (λ (v : Vector). length v) (buffer_list j.program j.media n h) ∙ length-replicate (depth_of j.program n * len_of j.program n) (pos 0))
        by (inr h) = subst (λ (k : ℕ). length (slice_index_or E k []) ≡ length (slice_index_or (opening_elements j.program j.media) k []))
            (let r : length j.program.buffers + (n - length j.program.buffers) ≡ n = omega arith in r) (wire (n - length j.program.buffers) (omega arith))

    elements_there : map length E ≡ map length (opening_elements j.program j.media)
    elements_there = ext_get_or 0 (map length E) (map length (opening_elements j.program j.media)) (many_a ∙ elements_many ∙ sym (many_b ∙ lists_many j.program j.media))
        (λ n l. sym (length_at E n) ∙ list_long n (let a = many_a in let b = elements_many in omega arith) ∙ length_at (opening_elements j.program j.media) n)
      where
        many_a : length (map length E) ≡ length E
        many_a = length-map E (λ (v : Vector). length v)

        many_b : length (map length (opening_elements j.program j.media)) ≡ length (opening_elements j.program j.media)
        many_b = length-map (opening_elements j.program j.media) (λ (v : Vector). length v)

    buffers_agree : (b n q : ℕ) → b < length j.program.buffers → n < len_of j.program b → q < depth_of j.program b
        → element_at (slice_index_or E b []) (q * len_of j.program b + n) ≡ element_told j C (element_of j.program b n) q
    buffers_agree b n q h k l = ap (λ (v : Vector). element_at v (q * len_of j.program b + n)) (buffer_is b h)
        ∙ made_at (λ i. element_told j C (element_of j.program b (i % len_of j.program b)) (i / len_of j.program b)) (depth_of j.program b * len_of j.program b) (q * len_of j.program b + n) (pos 0)
        (let c = suc-mul q (len_of j.program b) in let m = mul-le-mul_right (len_of j.program b) l in omega arith)
        ∙ (λ t. element_told j C (element_of j.program b (mod-mul-add q (len_of j.program b) n k t)) (div-mul-add q (len_of j.program b) n k t))

    pub told_agrees : Agrees j (told j counts) (theory.told (system j) (stored_value j) (own_after j) (λ s. slice_index_or counts s 0))
    told_agrees = record {
      counts = λ s. refl;
      semaphores = λ x h. made_at (λ y. total (system j) (is_signal y) C - total (system j) (is_take y) C) (2 * length j.program.pairs) x 0 h;
      turns = λ m h. made_at (λ n. total (system j) (advances n) C) j.media m 0 h;
      buffers = buffers_agree;
      wires = λ m n h k. ap (λ (v : Vector). element_at v n) (wire_is m h) ∙ made_at (λ i. element_told j C (wire_of j.program m i) 0) (wire_len j.program m) n (pos 0) k;
      registers = λ s h. made_at (λ t. registers_after j t (C t)) (length j.program.seqs) s [] h;
      cells = cells_agree;
      rows = rows_agree;
      counts_there = many;
      semaphores_there = length-map-range_with_len (λ y. total (system j) (is_signal y) C - total (system j) (is_take y) C) 0 (2 * length j.program.pairs);
      turns_there = length-map-range_with_len (λ n. total (system j) (advances n) C) 0 j.media;
      elements_there = elements_there;
      registers_there = length-map-range_with_len (λ t. registers_after j t (C t)) 0 (length j.program.seqs);
      cells_there = cells_there (done_in j C);
      rows_there = rows_there (done_in j C);
      own_cells_there = λ s. cells_there (done_by j s (C s));
      own_rows_there = λ s. rows_there (done_by j s (C s));
    }
