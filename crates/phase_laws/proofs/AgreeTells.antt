-- A state of the core is told by the state of the theory with which it agrees.
use Rattle.std.proofs.Common.{
  ◌≡◌,
  ℕ,
  zero,
  suc,
  ◌+◌,
  ◌-◌,
  ◌*◌,
  ◌/◌,
  ◌%◌,
  ◌<◌,
  ◌≤◌,
  ◌⊎◌,
  true,
  ◌==◌,
  List,
  [],
  ◌∷◌,
  ◌++◌,
  length,
  map,
  Some,
  refl,
  sym,
  ap,
  subst,
  inl,
  inr,
  arith,
  ◌∙◌,
  ℤ,
  pos,
  length-append,
  div-add-mod',
  add-one,
  ext_get_or,
}
use Rattle.std.specs.Prelude.{slice_get, slice_index_or, if◌then◌else◌}
use Rattle.std.proofs.lemmas.Bool.{cases_eq, cases_lt, and_parts, eqb-true}
use Rattle.std.proofs.lemmas.List.{length-map, length-replicate, get_or-replicate}
use Rattle.std.proofs.lemmas.Nat.{div_below, mod_below}
use Rattle.executive_program.specs.System.{State}
use Rattle.executive_program.specs.Level.{element_at}
use Rattle.executive_program.specs.declared.Kind.{Kind}
use Rattle.executive_program.specs.declared.Kind.TheVariants.{Sensor, Actuator, Function, Constant, Get, Set, Explode, Implode, Merge}
use Rattle.executive_program.specs.declared.Vertex.{Vertex}
use Rattle.executive_program.specs.Graph.{Graph, lens_of}
use Rattle.executive_program.specs.FlatValid.{is_flat, fits, actuators_from, kinds_of}
use Rattle.executive_program.specs.Meaning.{is_get, delay_number, initial_cell, initial_cells}
use Rattle.executive_program.proofs.Facts.{vertex_valid, fits_of}
use Rattle.executive_program.specs.FlatLaws.{actuator_lens, actuator_len}
use Rattle.executive_program.specs.Instructions.{len_of, depth_of}
use Rattle.executive_program.specs.MicroSteps.{wire_len}
use Rattle.semaphore_core.specs.Operation.{delay_by, delay_of}
use Rattle.semaphore_core.specs.Registers.{Own}
use Rattle.semaphore_core.specs.Job.{JobData, reactions, zero_rows}
use Rattle.semaphore_core.specs.Core.{Core}
use Rattle.phase_laws.specs.Agrees.{IsFormed, Agrees}
use Rattle.phase_laws.proofs.AgreeLists.{same_length, same_lengths}
use Rattle.phase_laws.proofs.AgreeDelays.{numbered_rows}
use Rattle.phase_laws.proofs.AgreePlaces.{opening_elements, lists_many, buffer_list, wire_list}
use Rattle.syn_base.specs.Vectors.{Vector, Values, vector_at, zeros}

-- the get half of delay d
pub record GetAt (xs : List Vertex) (d : ℕ) : Type 0 where
  pub at : ℕ
  pub vertex : Vertex
  pub values : List ℤ
  pub stands : slice_get xs at ≡ Some vertex
  pub kind : vertex.kind ≡ Get values
  pub number : delay_number xs at ≡ d

pub get_at : (xs : List Vertex) (d : ℕ) → d < length (initial_cells xs) → GetAt xs d
get_at [] d h = absurd (omega arith)
get_at (y ∷ ys) d h = by y.kind refl d h (λ n l. get_at ys n l)
  where
    behind : (n d : ℕ) → GetAt ys n → (if is_get y.kind then n + 1 else n) ≡ d → GetAt (y ∷ ys) d
    behind n d r e = record { at = suc r.at; vertex = r.vertex; values = r.values; stands = r.stands; kind = r.kind; number = ap (λ (i : ℕ). if is_get y.kind then i + 1 else i) r.number ∙ e }

    by : (k : Kind) → y.kind ≡ k → (d : ℕ) → d < length (initial_cell k ++ initial_cells ys) → ((n : ℕ) → n < length (initial_cells ys) → GetAt ys n) → GetAt (y ∷ ys) d
    by (Get z) k zero h r = record { at = 0; vertex = y; values = z; stands = refl; kind = k; number = refl }
    by (Get z) k (suc d) h r = behind d (suc d) (r d (omega arith)) (ap (λ (q : Kind). if is_get q then d + 1 else d) k ∙ add-one d)
    by (Sensor i) k d h r = behind d d (r d h) (ap (λ (q : Kind). if is_get q then d + 1 else d) k)
    by (Actuator i) k d h r = behind d d (r d h) (ap (λ (q : Kind). if is_get q then d + 1 else d) k)
    by (Function b) k d h r = behind d d (r d h) (ap (λ (q : Kind). if is_get q then d + 1 else d) k)
    by (Constant z) k d h r = behind d d (r d h) (ap (λ (q : Kind). if is_get q then d + 1 else d) k)
    by Set k d h r = behind d d (r d h) (ap (λ (q : Kind). if is_get q then d + 1 else d) k)
    by Explode k d h r = behind d d (r d h) (ap (λ (q : Kind). if is_get q then d + 1 else d) k)
    by Implode k d h r = behind d d (r d h) (ap (λ (q : Kind). if is_get q then d + 1 else d) k)
    by (Merge z) k d h r = behind d d (r d h) (ap (λ (q : Kind). if is_get q then d + 1 else d) k)

-- the operation that is actuator a
pub record RowAt (xs : List Vertex) (a : ℕ) : Type 0 where
  pub at : ℕ
  pub vertex : Vertex
  pub stands : slice_get xs at ≡ Some vertex
  pub kind : vertex.kind ≡ Actuator a

-- each actuator has one input
abbrev pub OneInput : Graph → List Vertex → Type 0
OneInput g xs = (v a : ℕ) (x : Vertex) → slice_get xs v ≡ Some x → x.kind ≡ Actuator a → length (lens_of g.vertices x.ins) ≡ 1

pub one_input : (g : Graph) → is_flat g ≡ true → OneInput g g.vertices
one_input g valid v a x e k = let f : fits g.bodies (Actuator a) (lens_of g.vertices x.ins) x.outs
    ≡ true = subst (λ (q : Kind). fits g.bodies q (lens_of g.vertices x.ins) x.outs ≡ true) k (fits_of g v x (vertex_valid g valid v x e)) in
    eqb-true (length (lens_of g.vertices x.ins)) 1 (and_parts (length (lens_of g.vertices x.ins) == 1) (length x.outs == 0) f).0

row_from : (g : Graph) (xs : List Vertex) (n a : ℕ) → OneInput g xs → actuators_from n (kinds_of xs) ≡ true → a < length (actuator_lens g xs) → RowAt xs (n + a)
row_from g [] n a o h l = absurd (omega arith)
row_from g (y ∷ ys) n a o h l = by y.kind refl h a l (λ m b h' l'. row_from g ys m b (λ v c x. o (suc v) c x) h' l')
  where
    behind : (b : ℕ) → RowAt ys b → RowAt (y ∷ ys) b
    behind b r = record { at = suc r.at; vertex = r.vertex; stands = r.stands; kind = r.kind }

    Goal : ℕ → Type 0
    Goal a = RowAt (y ∷ ys) (n + a)

    by : (k : Kind) → y.kind ≡ k → actuators_from n (k ∷ kinds_of ys) ≡ true → (a : ℕ) → a < length (actuator_len g y k ++ actuator_lens g ys)
        → ((m b : ℕ) → actuators_from m (kinds_of ys) ≡ true → b < length (actuator_lens g ys) → RowAt ys (m + b)) → Goal a
    by (Actuator i) k h zero l r = record {
      at = 0;
      vertex = y;
      stands = refl;
      kind = k
          ∙ ap (λ (b : ℕ). Actuator b) (let e = eqb-true i n (and_parts (i == n) (actuators_from (n + 1) (kinds_of ys)) h).0 in
          let z : i ≡ n + 0 = omega arith in z);
    }
    by (Actuator i) k h (suc a) l r =
        subst (λ (b : ℕ). RowAt (y ∷ ys) b) (let z : n + 1 + a ≡ n + suc a = omega arith in z)
        (behind (n + 1 + a) (r (n + 1) a (and_parts (i == n) (actuators_from (n + 1) (kinds_of ys)) h).1
        (let e = length-append (lens_of g.vertices y.ins) (actuator_lens g ys) in let q = o 0 i y refl k in omega arith)))
    by (Sensor i) k h a l r = behind (n + a) (r n a h l)
    by (Function b) k h a l r = behind (n + a) (r n a h l)
    by (Constant z) k h a l r = behind (n + a) (r n a h l)
    by (Get z) k h a l r = behind (n + a) (r n a h l)
    by Set k h a l r = behind (n + a) (r n a h l)
    by Explode k h a l r = behind (n + a) (r n a h l)
    by Implode k h a l r = behind (n + a) (r n a h l)
    by (Merge z) k h a l r = behind (n + a) (r n a h l)

pub row_is : (g : Graph) → is_flat g ≡ true → (a : ℕ) → a < length (actuator_lens g g.vertices) → RowAt g.vertices a
row_is g valid a h = subst (λ (b : ℕ). RowAt g.vertices b) (let z : 0 + a ≡ a = omega arith in z) (row_from g g.vertices 0 a (one_input g valid) (numbered_rows g valid) h)

module _ (j : JobData) (f : IsFormed j) (z y : Core) (w : State Own) (a : Agrees j z w) (b : Agrees j y w) where
  counts_same : z.counts ≡ y.counts
  counts_same = ext_get_or 0 z.counts y.counts (a.counts_there ∙ sym b.counts_there) (λ s l. a.counts s ∙ sym (b.counts s))

  semaphores_same : z.semaphores ≡ y.semaphores
  semaphores_same = ext_get_or 0 z.semaphores y.semaphores (a.semaphores_there ∙ sym b.semaphores_there)
      (λ x l. let h : x < 2 * length j.program.pairs = (let e = a.semaphores_there in omega arith) in a.semaphores x h ∙ sym (b.semaphores x h))

  turns_same : z.turns ≡ y.turns
  turns_same = ext_get_or 0 z.turns y.turns (a.turns_there ∙ sym b.turns_there) (λ m l. let h : m < j.media = (let e = a.turns_there in omega arith) in a.turns m h ∙ sym (b.turns m h))

  registers_same : z.registers ≡ y.registers
  registers_same = ext_get_or [] z.registers y.registers (a.registers_there ∙ sym b.registers_there)
      (λ s l. let h : s < length j.program.seqs = (let e = a.registers_there in omega arith) in a.registers s h ∙ sym (b.registers s h))

  -- lists of elements
  abbrev O : List (List ℤ)
  O = opening_elements j.program j.media

  lens_same : map length z.elements ≡ map length y.elements
  lens_same = a.elements_there ∙ sym b.elements_there

  buffer_same : (n : ℕ) → n < length j.program.buffers → slice_index_or z.elements n [] ≡ slice_index_or y.elements n []
  buffer_same n h = ext_get_or (pos 0) (slice_index_or z.elements n []) (slice_index_or y.elements n []) (same_lengths z.elements y.elements n lens_same) (λ i l. at i (few i l))
    where
      len : ℕ
      len = len_of j.program n

      few : (i : ℕ) → i < length (slice_index_or z.elements n []) → i < depth_of j.program n * len_of j.program n
      few i l = let e = same_lengths z.elements O n a.elements_there ∙ ap (λ (v : Vector). length v) (buffer_list j.program j.media n h)
          ∙ length-replicate (depth_of j.program n * len_of j.program n) (pos 0) in omega arith

      at : (i : ℕ) → i < depth_of j.program n * len_of j.program n → element_at (slice_index_or z.elements n []) i ≡ element_at (slice_index_or y.elements n []) i
      at i l = subst (λ (k : ℕ). element_at (slice_index_or z.elements n []) k ≡ element_at (slice_index_or y.elements n []) k) (div-add-mod' i (len_of j.program n))
          (a.buffers n (i % len_of j.program n) (i / len_of j.program n) h low high ∙ sym (b.buffers n (i % len_of j.program n) (i / len_of j.program n) h low high))
        where
          some : 0 < len_of j.program n
          some = by (cases_eq (len_of j.program n) 0)
            where
              by : (len_of j.program n ≡ 0) ⊎ (len_of j.program n ≡ 0 → ⊥) → 0 < len_of j.program n
              by (inl e) = let q = ap (λ (k : ℕ). depth_of j.program n * k) e in absurd (omega arith)
              by (inr e) = omega arith

          low : i % len_of j.program n < len_of j.program n
          low = mod_below i (len_of j.program n) some

          high : i / len_of j.program n < depth_of j.program n
          high = div_below i (len_of j.program n) (depth_of j.program n) some l

  wire_same : (m : ℕ) → m < j.media → slice_index_or z.elements (length j.program.buffers + m) [] ≡ slice_index_or y.elements (length j.program.buffers + m) []
  wire_same m h = ext_get_or (pos 0) (slice_index_or z.elements (length j.program.buffers + m) [])
      (slice_index_or y.elements (length j.program.buffers + m) []) (same_lengths z.elements y.elements (length j.program.buffers + m) lens_same)
      (λ i l. let k = few i l in a.wires m i h k ∙ sym (b.wires m i h k))
    where
      few : (i : ℕ) → i < length (slice_index_or z.elements (length j.program.buffers + m) []) → i < wire_len j.program m
      few i l = let e = same_lengths z.elements O (length j.program.buffers + m) a.elements_there
          ∙ ap (λ (v : Vector). length v) (wire_list j.program j.media m h) ∙ length-replicate (wire_len j.program m) (pos 0) in omega arith

  list_same : (n : ℕ) → n < length z.elements → slice_index_or z.elements n [] ≡ slice_index_or y.elements n []
  list_same n l = by (cases_lt n (length j.program.buffers))
    where
      by : (n < length j.program.buffers) ⊎ (length j.program.buffers ≤ n) → slice_index_or z.elements n [] ≡ slice_index_or y.elements n []
      by (inl h) = buffer_same n h
      by (inr h) = let e = same_length z.elements O a.elements_there in let q = lists_many j.program j.media in
          subst (λ (k : ℕ). slice_index_or z.elements k [] ≡ slice_index_or y.elements k [])
          (let r : length j.program.buffers + (n - length j.program.buffers) ≡ n = omega arith in r)
          (wire_same (n - length j.program.buffers) (omega arith))

  elements_same : z.elements ≡ y.elements
  elements_same = ext_get_or [] z.elements y.elements (same_length z.elements y.elements lens_same) list_same

  -- each delay has its get half, and each actuator's row its operation
  cells_same : z.cells ≡ y.cells
  cells_same = ext_get_or [] z.cells y.cells (a.cells_there ∙ sym b.cells_there) at
    where
      at : (d : ℕ) → d < length z.cells → vector_at z.cells d ≡ vector_at y.cells d
      at d l = let g = get_at j.graph.vertices d (let e = a.cells_there in let q = same_length j.opening (initial_cells j.graph.vertices) f.opened in omega arith) in
          let delay : delay_of j.graph g.at g.vertex ≡ Some d = ap (λ (k : Kind). delay_by j.graph.vertices g.at k g.vertex.twin) g.kind ∙ ap (λ (n : ℕ). Some n) g.number in
          a.cells g.at d g.vertex g.stands delay ∙ sym (b.cells g.at d g.vertex g.stands delay)

  row_lens : map length z.rows ≡ map length y.rows
  row_lens = a.rows_there ∙ sym b.rows_there

  rows_same : z.rows ≡ y.rows
  rows_same = ext_get_or [] z.rows y.rows (same_length z.rows y.rows row_lens) (λ k l. row k l)
    where
      row : (k : ℕ) → k < length z.rows → slice_index_or z.rows k [] ≡ slice_index_or y.rows k []
      row k l = ext_get_or [] (slice_index_or z.rows k []) (slice_index_or y.rows k []) (same_lengths z.rows y.rows k row_lens) at
        where
          zero_row : length (slice_index_or (zero_rows j) k []) ≡ length (actuator_lens j.graph j.graph.vertices)
          zero_row = ap (λ (r : Values). length r) (get_or-replicate (reactions j) k (map zeros (actuator_lens j.graph j.graph.vertices)) [] (let e = same_length z.rows (zero_rows j) a.rows_there in
              let q = length-replicate (reactions j) (map zeros (actuator_lens j.graph j.graph.vertices)) in omega arith)) ∙ length-map (actuator_lens j.graph j.graph.vertices) zeros

          at : (n : ℕ) → n < length (slice_index_or z.rows k []) → vector_at (slice_index_or z.rows k []) n ≡ vector_at (slice_index_or y.rows k []) n
          at n h = let r = row_is j.graph f.valid n (let e = same_lengths z.rows (zero_rows j) k a.rows_there in let q = zero_row in omega arith) in
              a.rows r.at n k r.vertex r.stands r.kind ∙ sym (b.rows r.at n k r.vertex r.stands r.kind)

  pub tells : z ≡ y
  tells = λ i. record {
    counts = counts_same i;
    semaphores = semaphores_same i;
    turns = turns_same i;
    elements = elements_same i;
    registers = registers_same i;
    cells = cells_same i;
    rows = rows_same i;
  }

pub agreement_tells : (j : JobData) → IsFormed j → (z y : Core) (w : State Own) → Agrees j z w → Agrees j y w → z ≡ y
agreement_tells j f z y w a b = tells j f z y w a b
