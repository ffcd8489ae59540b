-- What counts tell: the state as a function of the micro-steps that each sequence has made.
use Rattle.std.specs.Prelude.{
  ℕ,
  suc,
  ◌+◌,
  ◌-◌,
  ◌*◌,
  ◌/◌,
  ◌%◌,
  cond,
  nat_eq,
  nat_lt,
  List,
  [],
  ◌∷◌,
  ◌++◌,
  map,
  take,
  length,
  Option,
  Some,
  None,
  slice_get,
  slice_index_or,
  ℤ,
}
use Rattle.std.specs.List.{range_with_len}
use Rattle.executive_program.specs.Sites.{place_at, reaction_at}
use Rattle.executive_program.specs.System.{is_take, is_signal, advances, stores, total, latest}
use Rattle.executive_program.specs.Level.{element_at, all_joined}
use Rattle.executive_program.specs.declared.Source.{Source}
use Rattle.executive_program.specs.declared.Vertex.{Vertex}
use Rattle.executive_program.specs.declared.Kind.{Kind}
use Rattle.executive_program.specs.declared.Kind.TheVariants.{Actuator}
use Rattle.executive_program.specs.Graph.{lens_of}
use Rattle.executive_program.specs.Meaning.{is_get, flat_outputs, flat_val, flat_act, cells_after}
use Rattle.executive_program.specs.declared.program.Instr.{Instr}
use Rattle.executive_program.specs.declared.program.Instr.TheVariants.{Call, Send, Recv}
use Rattle.executive_program.specs.Blocks.{block_at}
use Rattle.executive_program.specs.Instructions.{turn, len_of, depth_of}
use Rattle.executive_program.specs.MicroSteps.{
  code,
  size,
  begins,
  sent,
  transfers,
  uses,
  element_of,
  wire_of,
  buffer_elements,
  wire_len,
}
use Rattle.executive_program.specs.Places.{calling, carried}
use Rattle.operation_desks.specs.Registers.{Own}
use Rattle.executive_program.specs.declared.program.Program.{Program}
use Rattle.executive_program.specs.Steps.{elements_in}
use Rattle.semaphore_core.specs.Job.{JobData, reactions, buffer_at, wire_at, number_at, depth_at, period_at, system}
use Rattle.semaphore_core.specs.Core.{Core}
use Rattle.syn_base.specs.Vectors.{Vector, Values, vector_at, zeros}

-- the instruction of the loop at which s stands after n micro-steps, and the place in it
module _ (p : Program) where
  -- After n micro-steps of sequence s, the next micro-step of its loop is one of this instruction.
  abbrev pub index_at : ℕ → ℕ → ℕ
  index_at s n = block_at (size p s) (length (turn p s)) (place_at (code p s) n)

  -- Of the instruction to which sequence s has come after n micro-steps, it has made
  -- this many micro-steps.
  abbrev pub offset_at : ℕ → ℕ → ℕ
  offset_at s n = place_at (code p s) n - begins p s (index_at s n)

module _ (j : JobData) where
  -- A source has this value in reaction k, by the meaning of the flat graph over the
  -- job's rows and opening cells.
  abbrev pub source_value : Source → ℕ → Vector
  source_value s k = flat_val j.graph j.sensors j.opening s.vertex s.port k

  -- the vector that a buffer holds in reaction k
  abbrev pub buffer_value : ℕ → ℕ → Vector
  buffer_value b k = source_value (carried j.program b) k

  -- A buffer that is sent holds this vector in reaction k; it is the empty vector if none is sent.
  abbrev pub sent_value : Option ℕ → ℕ → Vector
  sent_value None k = []
  sent_value (Some b) k = buffer_value b k

  -- element `number` of the wire of medium m in round t, of which there are `period` in a reaction
  abbrev pub wire_value : ℕ → ℕ → ℕ → ℕ → ℤ
  wire_value m number period t =
      element_at (sent_value (sent j.program m (block_at (uses j.program m number) (transfers j.program m)
      (t % period))) (t / period)) number

  -- the value of element y in round t: of a buffer in reaction t, of a wire in the t-th transfer that uses it
  abbrev pub stored_value : ℕ → ℕ → ℤ
  stored_value y t = cond (nat_lt y (buffer_elements j.program))
      (element_at (buffer_value (buffer_at j.program j.media y) t) (number_at j.program j.media y))
      (wire_value (wire_at j.program j.media y) (number_at j.program j.media y) (period_at j.program j.media y) t)

  -- The registers after r micro-steps of a send or a receive in reaction k, if buffer b holds
  -- the value that is carried: an element of it if it was loaded and is not stored yet, and none
  -- otherwise.
  abbrev pub copied : ℕ → ℕ → ℕ → List ℤ
  copied b k r = cond (nat_eq (r % 2) 0) (cond (nat_eq r 0) [] (element_at (buffer_value b k) (r / 2 - 1) ∷ [])) []

  -- After r micro-steps of this instruction in reaction k the registers have, of a call, what it
  -- has loaded, and then its outputs, and of a transfer the element on its way; otherwise none.
  abbrev pub registers_in : ℕ → Option Instr → ℕ → List ℤ
  registers_in k (Some (Call v ins outs)) r = cond (nat_eq r 0) [] (cond (nat_lt r (elements_in j.program ins))
      (take r (all_joined (map (λ b. buffer_value b k) ins)))
      (all_joined (flat_outputs j.graph j.sensors j.opening v k)))
  registers_in k (Some (Send b o)) r = copied b k r
  registers_in k (Some (Recv b o)) r = copied b k r
  registers_in k _ r = []

  -- Sequence s has these registers after n micro-steps.
  abbrev pub registers_after : ℕ → ℕ → List ℤ
  registers_after s n = registers_in (reaction_at (code j.program s) n)
      (slice_get (turn j.program s) (index_at j.program s n)) (offset_at j.program s n)

  -- how often sequence s passed the place l of its loop in its first n micro-steps
  abbrev pub made : ℕ → ℕ → ℕ → ℕ
  made s l n = reaction_at (code j.program s) n + cond (nat_lt l (place_at (code j.program s) n)) 1 0

  -- the place in the loop of its sequence at which operation v has loaded all
  abbrev pub last_load : ℕ → ℕ
  last_load v = begins j.program (calling j.program v).sequence (calling j.program v).at +
      (elements_in j.program (calling j.program v).ins - 1)

  -- The cells and the rows, where operation v was computed `done v` times.
  module _ (done : ℕ → ℕ) where
    -- Delay d has this cell if the given operation, its set half, was computed as often
    -- as `done` says; if no set half is given, it is the opening cell.
    abbrev pub cell_by : ℕ → Option ℕ → Vector
    cell_by d None = vector_at j.opening d
    cell_by d (Some t) = vector_at (cells_after j.graph j.sensors j.opening (done t)) d

    -- of delays from number d on
    abbrev pub cells_from : List Vertex → ℕ → Values
    cells_from [] d = []
    cells_from (x ∷ xs) d = cond (is_get x.kind) (cell_by d x.twin ∷ cells_from xs (suc d)) (cells_from xs d)

    -- These are the cells of all delays, by number.
    abbrev pub cells_by : Values
    cells_by = cells_from j.graph.vertices 0

    -- what actuator a has taken in reaction k, by operation v
    abbrev pub row_by : ℕ → ℕ → ℕ → ℕ → Vector
    row_by v a len k = cond (nat_lt k (done v)) (flat_act j.graph j.sensors j.opening a k) (zeros len)

    -- Operation v, which is x, has taken this in reaction k: if it is an actuator its vector, or
    -- zeros as long as it was not computed in that reaction; otherwise nothing.
    abbrev pub row_of : ℕ → Vertex → ℕ → Kind → Values
    row_of v x k (Actuator a) = map (λ n. row_by v a n k) (lens_of j.graph.vertices x.ins)
    row_of v x k _ = []

    -- of the operations from number v on
    abbrev pub rows_from : List Vertex → ℕ → ℕ → Values
    rows_from [] v k = []
    rows_from (x ∷ xs) v k = row_of v x k x.kind ++ rows_from xs (suc v) k

    -- These are the rows of all reactions, each with the vectors of the actuators in
    -- the order of the operations.
    abbrev pub rows_by : List Values
    rows_by = map (rows_from j.graph.vertices 0) (range_with_len 0 (reactions j))

  -- how often operation v was computed when its sequence has made n
  -- micro-steps; for the sequence s alone, 0 where another computes it
  abbrev pub done_in : (ℕ → ℕ) → ℕ → ℕ
  done_in c v = made (calling j.program v).sequence (last_load v) (c (calling j.program v).sequence)

  -- Sequence s has computed operation v this often after n micro-steps; it is 0 if
  -- another sequence calls v.
  abbrev pub done_by : ℕ → ℕ → ℕ → ℕ
  done_by s n v = cond (nat_eq (calling j.program v).sequence s) (made s (last_load v) n) 0

  -- what belongs to sequence s after n of its micro-steps; the cells and rows of other sequences stay as at the opening
  abbrev pub own_after : ℕ → ℕ → Own
  own_after s n = record {
    registers = registers_after s n;
    cells = cells_by (done_by s n);
    rows = rows_by (done_by s n);
  }

  -- element y at its place q: the value of the last of its rounds there whose store was made
  abbrev pub element_told : (ℕ → ℕ) → ℕ → ℕ → ℤ
  element_told c y q = latest (system j) (stored_value y) (depth_at j.program j.media y)
      (total (system j) (stores y) c) q

  -- Buffer b has these elements when the counts are c, by place and in each place by number.
  abbrev pub buffer_told : (ℕ → ℕ) → ℕ → List ℤ
  buffer_told c b = map (λ i. element_told c (element_of j.program b (i % len_of j.program b))
      (i / len_of j.program b)) (range_with_len 0 (depth_of j.program b * len_of j.program b))

  -- The wire of medium m has these elements when the counts are c, by number.
  abbrev pub wire_told : (ℕ → ℕ) → ℕ → List ℤ
  wire_told c m = map (λ i. element_told c (wire_of j.program m i) 0) (range_with_len 0 (wire_len j.program m))

  -- This is the state that the counts c determine, if `counts` is the list of them by sequence.
  abbrev pub told_by : (ℕ → ℕ) → List ℕ → Core
  told_by c counts = record {
    counts = counts;
    semaphores = map (λ x. total (system j) (is_signal x) c - total (system j) (is_take x) c)
        (range_with_len 0 (2 * length j.program.pairs));
    turns = map (λ m. total (system j) (advances m) c) (range_with_len 0 j.media);
    elements = map (buffer_told c) (range_with_len 0 (length j.program.buffers)) ++
        map (wire_told c) (range_with_len 0 j.media);
    registers = map (λ s. registers_after s (c s)) (range_with_len 0 (length j.program.seqs));
    cells = cells_by (done_in c);
    rows = rows_by (done_in c);
  }

  -- This is the state that counts determine, a function of the micro-steps that each sequence has
  -- made, with the values of the flat graph; a sequence without a count has made none.
  abbrev pub told : List ℕ → Core
  told counts = told_by (λ s. slice_index_or counts s 0) counts
