-- Each sequence by itself computes the flat values.
use Rattle.std.proofs.Common.{◌≡◌, ℕ, ◌+◌, ◌*◌, ◌<◌, ◌≤◌, ◌⊎◌, Bool, true, false, cond, List, length, Option, Some, refl, sym, ap, subst, inl, inr, ⊎_elim, arith, ◌∙◌, ℤ, zero-add}
use Rattle.std.specs.Prelude.{slice_get, nat_eq, nat_lt}
use Rattle.std.specs.List.{count_by}
use Rattle.std.proofs.lemmas.Bool.{cases_lt, lt-ltb, le-ltb}
use Rattle.std.proofs.lemmas.List.{length-map}
use Rattle.std.proofs.Math.Nat.{mul-le-mul_right}
use Rattle.executive_program.specs.Sites.{step_at, place_at, reaction_at}
use Rattle.executive_program.proofs.Numbers.{number_split}
use Rattle.executive_program.specs.System.{Micro, take as taken, see, sub, signal, await, advance, load, store, round_number, full}
use Rattle.executive_program.specs.Owners.{sum_below}
use Rattle.executive_program.specs.Sound.{IsRightAt}
use Rattle.executive_program.specs.Level.{element_at}
use Rattle.executive_program.specs.declared.Source.{Source}
use Rattle.executive_program.specs.Meaning.{initial_cells}
use Rattle.executive_program.specs.declared.program.Instr.{Instr}
use Rattle.executive_program.specs.declared.program.Instr.TheVariants.{Suc0, Suc1, Pre0, Pre1, Call, Send, Recv, Sync}
use Rattle.executive_program.specs.declared.steps.Place.TheVariants.{Buffer, Wire}
use Rattle.executive_program.specs.declared.steps.OnLoad.TheVariants.{Carry as CarryIn}
use Rattle.executive_program.specs.declared.steps.OnStore.TheVariants.{Carry as CarryOut}
use Rattle.executive_program.specs.declared.steps.MicroStep.{MicroStep}
use Rattle.executive_program.specs.declared.steps.MicroStep.TheVariants.{Load, Store}
use Rattle.executive_program.specs.Instructions.{is_communication, turn, medium, number_or, len_of, communications, len_by}
use Rattle.executive_program.specs.MicroSteps.{code, transfers, transfer_len, loads_at, stores_at}
use Rattle.executive_program.specs.Places.{places, transfer, calling}
use Rattle.executive_program.specs.Steps.{steps, steps_of, call_steps, on_load, on_store, len_at, elements_in}
use Rattle.semaphore_core.specs.Registers.{Own, absorb_at, emit_at, after_at}
use Rattle.semaphore_core.specs.Job.{JobData, reactions, system}
use Rattle.semaphore_core.specs.Told.{index_at, source_value, buffer_value, stored_value, registers_in, made, last_load, done_by, own_after}
use Rattle.executive_program.specs.WellFormed.{Stands, ReadsAt, WritesAt}
use Rattle.phase_laws.specs.Values.{IsSupplied, SequencesComputeTheirValues}
use Rattle.phase_laws.proofs.Setting.{Conditions}
use Rattle.phase_laws.proofs.From.{LoadsBuffer, LoadsWire, StoresBuffer, StoresWire, load_place, store_place}
use Rattle.phase_laws.proofs.Pairs.{front_is}
use Rattle.phase_laws.proofs.Buffers.{MediumAt}
use Rattle.phase_laws.proofs.Sent.{found}
use Rattle.phase_laws.proofs.Wires.{Sending, sending_is, Receiving, receiving_is}
use Rattle.phase_laws.proofs.Programs.{parts_of, conditions_of}
use Rattle.phase_laws.proofs.Standing.{early_place, offset_first, Here, here}
use Rattle.phase_laws.proofs.StepsAt.{sum_equal, loads_length, stores_length, loads_count, input_step, output_step, send_load, send_store, receive_load, receive_store, step_is}
use Rattle.phase_laws.proofs.CallRegisters.{zero_registers}
use Rattle.phase_laws.proofs.OwnCells.{cells_none}
use Rattle.phase_laws.proofs.OwnRows.{rows_none}
use Rattle.phase_laws.proofs.OwnCalls.{same_own, call_load, call_store, finds_load}
use Rattle.phase_laws.proofs.OwnCopies.{copy_load, copy_store, idle, half_idle}
use Rattle.phase_laws.proofs.StoredValues.{buffer_round, wire_round}
use Rattle.syn_base.specs.Vectors.{Vector}

module _ (j : JobData) (h : IsSupplied j) where
  abbrev C : Conditions j.program (places j.program)
  C = conditions_of j h.seqs h.order h.formed

  abbrev A : ℕ → ℕ → Own
  A = own_after j

  -- a micro-step of a reaction
  module _ (s n : ℕ) (m : Micro) (o : Here j.program s n m) (low : reaction_at (code j.program s) n < reactions j) where
    abbrev At : ℕ → ℕ → ℤ
    At y i = stored_value j y (round_number (system j) s n y i)

    -- what the core does there with the registers
    at_instr : (x : Instr) → o.instr ≡ x → step_at (steps j.program s) n
        ≡ slice_get (steps_of j.program (number_or 0 (medium j.program s)) (count_by is_communication (turn j.program s))
        (communications j.program s o.index) x) o.at
    at_instr x e = step_is j.program s n m o
        ∙ ap (λ (i : Instr). slice_get (steps_of j.program (number_or 0 (medium j.program s))
        (count_by is_communication (turn j.program s)) (communications j.program s o.index) i) o.at) e

    absorbs : (x : MicroStep) (c : Own) (z : ℤ) → step_at (steps j.program s) n ≡ Some x → (system j).absorb s n c z ≡ absorb_at j.graph j.sensors (Some x) (reaction_at (code j.program s) n) c z
    absorbs x c z e = ap (λ (d : Option MicroStep). absorb_at j.graph j.sensors d (reaction_at (code j.program s) n) c z) e

    emits : (x : MicroStep) (c : Own) → step_at (steps j.program s) n ≡ Some x → (system j).emit s n c ≡ emit_at j.graph j.sensors (Some x) (reaction_at (code j.program s) n) c
    emits x c e = ap (λ (d : Option MicroStep). emit_at j.graph j.sensors d (reaction_at (code j.program s) n) c) e

    leaves : (x : MicroStep) (c : Own) → step_at (steps j.program s) n ≡ Some x → (system j).after s n c ≡ after_at j.graph j.sensors (Some x) (reaction_at (code j.program s) n) c
    leaves x c e = ap (λ (d : Option MicroStep). after_at j.graph j.sensors d (reaction_at (code j.program s) n) c) e

    abbrev Loads : ℕ → ℕ → Type 0
    Loads y i = own_after j s (n + 1) ≡ (system j).absorb s n (own_after j s n) (stored_value j y (round_number (system j) s n y i))

    abbrev Stores : ℕ → ℕ → Type 0
    Stores y i = ((system j).emit s n (own_after j s n) ≡ stored_value j y (round_number (system j) s n y i)) × (own_after j s (n + 1) ≡ (system j).after s n (own_after j s n))

    load_buffer : (x : Instr) (y i : ℕ) → o.instr ≡ x → LoadsBuffer j.program x o.at y i → Loads y i
    load_buffer x y i e f = by x e f.reads f.at
      where
        value : At y i ≡ element_at (buffer_value j f.buffer (reaction_at (code j.program s) n)) f.number
        value = (λ t. At (f.is t) (f.first t)) ∙ buffer_round j s n f.buffer f.number f.inside

        by : (x : Instr) → o.instr ≡ x → ReadsAt x f.port f.buffer → o.at ≡ load_place j.program x f.port f.number → own_after j s (n + 1)
            ≡ (system j).absorb s n (own_after j s n) (stored_value j y (round_number (system j) s n y i))
        by (Call v ins outs) e r at = let place : o.at ≡ sum_below (len_at j.program ins) f.port + f.number
            = at ∙ ap (λ (k : ℕ). k + f.number) (sum_equal (λ a. length (loads_at j.program ins a)) (len_at j.program ins) f.port (λ a. loads_length j.program (slice_get ins a))) in
            call_load j h s n m o low v ins outs e (At y i) (finds_load j h s n m o low v ins outs e f.port f.buffer f.number r f.inside place ∙ ap (λ (z : ℤ). Some z) (sym value))
            ∙ sym (absorbs (Load (Buffer f.buffer f.number) (on_load v (elements_in j.program ins) (elements_in j.program ins + elements_in j.program outs) o.at)) (A s n) (At y i)
            (at_instr (Call v ins outs) e ∙ ap (slice_get (call_steps j.program v ins outs)) place ∙ input_step j.program v ins outs f.port f.buffer f.number r f.inside
            ∙ ap (λ (k : ℕ). Some (Load (Buffer f.buffer f.number) (on_load v (elements_in j.program ins) (elements_in j.program ins + elements_in j.program outs) k))) (sym place)))
        by (Send b q) e r at = let l : f.number < len_of j.program b = (let z = ap (len_of j.program) r.0 in let k = f.inside in omega arith) in
            copy_load j h s n m o b q f.number (inl e) l at (At y i) (value ∙ ap (λ (c : ℕ). element_at (buffer_value j c (reaction_at (code j.program s) n)) f.number) (sym r.0))
            ∙ sym (absorbs (Load (Buffer b f.number) CarryIn) (A s n) (At y i)
            (at_instr (Send b q) e ∙ send_load j.program (number_or 0 (medium j.program s))
            (count_by is_communication (turn j.program s)) (communications j.program s o.index) b q f.number l o.at at))
        by (Recv b q) e r at = absurd r
        by (Suc0 q) e r at = absurd r
        by (Suc1 q) e r at = absurd r
        by (Pre0 q) e r at = absurd r
        by (Pre1 q) e r at = absurd r
        by (Sync a q) e r at = absurd r

    sent_len : (t : ℕ) → MediumAt j.program s < j.media → t < transfers j.program (MediumAt j.program s)
        → transfer_len j.program (MediumAt j.program s) t ≡ len_of j.program (transfer j.program (MediumAt j.program s) t).sent
    sent_len t a b = ap (len_by j.program) (found j.program (places j.program) C (reactions j) (parts_of j) (MediumAt j.program s) t a b)

    load_wire : (y i : ℕ) → LoadsWire j.program (MediumAt j.program s) (communications j.program s o.index) o.instr o.at y i → Loads y i
    load_wire y i f = copy_load j h s n m o f.buffer f.from f.number (inr f.receives) f.inside f.at (At y i) value
        ∙ sym (absorbs (Load (Wire (MediumAt j.program s) f.number) CarryIn) (A s n) (At y i)
        (at_instr (Recv f.buffer f.from) f.receives
        ∙ receive_load j.program (number_or 0 (medium j.program s)) (count_by is_communication (turn j.program s))
        (communications j.program s o.index) f.buffer f.from f.number f.inside o.at f.at))
      where
        k : Receiving j.program (places j.program) C (reactions j) (parts_of j) s o.index f.buffer
        k = receiving_is j.program (places j.program) C (reactions j) (parts_of j) s o.index f.buffer f.from (subst (λ (x : Instr). Stands j.program s o.index x) f.receives o.stands)

        value : At y i ≡ element_at (buffer_value j f.buffer (reaction_at (code j.program s) n)) f.number
        value = (λ t. At (f.is t) (f.access_is t))
            ∙ wire_round j h (MediumAt j.program s) (communications j.program s o.index) f.number k.medium_there k.below
            (let a = k.len in let b = f.inside in let c = sent_len (communications j.program s o.index) k.medium_there k.below in omega arith) s n
            ∙ ap (λ (c : Source). element_at (source_value j c (reaction_at (code j.program s) n)) f.number)
            (sym (h.formed.carries (MediumAt j.program s) (communications j.program s o.index) k.medium_there k.below))
            ∙ ap (λ (c : ℕ). element_at (buffer_value j c (reaction_at (code j.program s) n)) f.number) (sym k.buffer)

    store_buffer : (x : Instr) (y i : ℕ) → o.instr ≡ x → StoresBuffer j.program x o.at y i → Stores y i
    store_buffer x y i e f = by x e f.writes f.at
      where
        value : At y i ≡ element_at (buffer_value j f.buffer (reaction_at (code j.program s) n)) f.number
        value = (λ t. At (f.is t) (f.first t)) ∙ buffer_round j s n f.buffer f.number f.inside

        by : (x : Instr) → o.instr ≡ x → WritesAt x f.port f.buffer → o.at ≡ store_place j.program x f.port f.number
            → ((system j).emit s n (own_after j s n) ≡ stored_value j y (round_number (system j) s n y i)) × (own_after j s (n + 1) ≡ (system j).after s n (own_after j s n))
        by (Call v ins outs) e r at = let z = call_store j h s n m o low v ins outs e f.port f.buffer f.number r f.inside place in
            (emits micro (A s n) stands_there ∙ z.0 ∙ sym value, z.1 ∙ sym (leaves micro (A s n) stands_there))
          where
            place : o.at ≡ elements_in j.program ins + sum_below (len_at j.program outs) f.port + f.number
            place = let a = loads_count j.program ins in
                let b = sum_equal (λ a. length (stores_at j.program outs a)) (len_at j.program outs) f.port
                (λ a. stores_length j.program (slice_get outs a)) in omega arith

            micro : MicroStep
            micro = Store (Buffer f.buffer f.number) (on_store v (elements_in j.program ins) (elements_in j.program ins + elements_in j.program outs) o.at)

            stands_there : step_at (steps j.program s) n
                ≡ Some (Store (Buffer f.buffer f.number) (on_store v (elements_in j.program ins) (elements_in j.program ins + elements_in j.program outs) o.at))
            stands_there = at_instr (Call v ins outs) e ∙ ap (slice_get (call_steps j.program v ins outs)) place ∙ output_step j.program v ins outs f.port f.buffer f.number r f.inside
                ∙ ap (λ (k : ℕ). Some (Store (Buffer f.buffer f.number) (on_store v (elements_in j.program ins) (elements_in j.program ins + elements_in j.program outs) k))) (sym place)
        by (Recv b q) e r at = let l : f.number < len_of j.program b = (let z = ap (len_of j.program) r.0 in let k = f.inside in omega arith) in
            let a : o.at ≡ 2 * f.number + 2 = omega arith in let z = copy_store j h s n m o b q f.number (inr e) a in
            let w = at_instr (Recv b q) e ∙ receive_store j.program (number_or 0 (medium j.program s))
            (count_by is_communication (turn j.program s)) (communications j.program s o.index) b q f.number l o.at a in (
              emits (Store (Buffer b f.number) CarryOut) (A s n) w ∙ z.0 ∙ ap (λ (c : ℕ). element_at (buffer_value j c (reaction_at (code j.program s) n)) f.number) r.0 ∙ sym value,
              z.1 ∙ sym (leaves (Store (Buffer b f.number) CarryOut) (A s n) w),
            )
        by (Send b q) e r at = absurd r
        by (Suc0 q) e r at = absurd r
        by (Suc1 q) e r at = absurd r
        by (Pre0 q) e r at = absurd r
        by (Pre1 q) e r at = absurd r
        by (Sync a q) e r at = absurd r

    store_wire : (y i : ℕ) → StoresWire j.program (MediumAt j.program s) (communications j.program s o.index) o.instr o.at y i → Stores y i
    store_wire y i f = let z = copy_store j h s n m o f.buffer f.to f.number (inl f.sends) f.at in (
      emits (Store (Wire (MediumAt j.program s) f.number) CarryOut) (A s n) there ∙ z.0
          ∙ ap (λ (c : ℕ). element_at (buffer_value j c (reaction_at (code j.program s) n)) f.number) k.buffer ∙ sym value,
      z.1 ∙ sym (leaves (Store (Wire (MediumAt j.program s) f.number) CarryOut) (A s n) there),
    )
      where
        there : step_at (steps j.program s) n ≡ Some (Store (Wire (MediumAt j.program s) f.number) CarryOut)
        there = at_instr (Send f.buffer f.to) f.sends
            ∙ send_store j.program (number_or 0 (medium j.program s)) (count_by is_communication (turn j.program s))
            (communications j.program s o.index) f.buffer f.to f.number f.inside o.at f.at

        k : Sending j.program (places j.program) C (reactions j) (parts_of j) s o.index f.buffer
        k = sending_is j.program (places j.program) C (reactions j) (parts_of j) s o.index f.buffer f.to (subst (λ (x : Instr). Stands j.program s o.index x) f.sends o.stands)

        value : At y i ≡ element_at (buffer_value j (transfer j.program (MediumAt j.program s) (communications j.program s o.index)).sent (reaction_at (code j.program s) n)) f.number
        value = (λ t. At (f.is t) (f.access_is t))
            ∙ wire_round j h (MediumAt j.program s) (communications j.program s o.index) f.number k.medium_there k.below (let a = ap (len_of j.program) k.buffer in let b = f.inside in omega arith) s n

  right_late : (s n : ℕ) (m : Micro) → reaction_at (code j.program s) n < reactions j → Here j.program s n m → IsRightAt (system j) (stored_value j) (own_after j) s n m
  right_late s n (taken x) good o =
      ⊎_elim (λ e. idle j h s n (taken x) o (Suc0 o.from.0) (λ r. refl) (λ u ins outs c. cc) e.0)
      (λ e. idle j h s n (taken x) o (Suc1 o.from.0) (λ r. refl) (λ u ins outs c. cc) e.0) o.from.3
  right_late s n (see x) good o =
      ⊎_elim (λ e. idle j h s n (see x) o (Suc0 o.from.0) (λ r. refl) (λ u ins outs c. cc) e.0)
      (λ e. idle j h s n (see x) o (Suc1 o.from.0) (λ r. refl) (λ u ins outs c. cc) e.0) o.from.3
  right_late s n (sub x) good o =
      ⊎_elim (λ e. idle j h s n (sub x) o (Suc0 o.from.0) (λ r. refl) (λ u ins outs c. cc) e.0)
      (λ e. idle j h s n (sub x) o (Suc1 o.from.0) (λ r. refl) (λ u ins outs c. cc) e.0) o.from.3
  right_late s n (signal x) good o =
      ⊎_elim (λ e. idle j h s n (signal x) o (Pre0 o.from.0) (λ r. refl) (λ u ins outs c. cc) e.0)
      (λ e. idle j h s n (signal x) o (Pre1 o.from.0) (λ r. refl) (λ u ins outs c. cc) e.0) o.from.2
  right_late s n (await y i true) good o = half_idle j h s n (await y i true) o i o.from.2 (inl o.from.1)
  right_late s n (await y i false) good o = idle j h s n (await y i false) o (Sync o.from.2.0 o.from.2.1) (λ r. refl) (λ u ins outs c. cc) o.from.2.2
  right_late s n (advance y i) good o = half_idle j h s n (advance y i) o i o.from.2 (inr o.from.1)
  right_late s n (load y i) good o = ⊎_elim (λ q. load_buffer s n (load y i) o good o.instr y i refl q) (λ q. load_wire s n (load y i) o good y i q) o.from
  right_late s n (store y i) good o = ⊎_elim (λ q. store_buffer s n (store y i) o good o.instr y i refl q) (λ q. store_wire s n (store y i) o good y i q) o.from

  -- before the loop nothing is done
  nothing : (s n : ℕ) → n ≤ length (code j.program s).prologue → own_after j s n ≡ (system j).start s
  nothing s n l = let z = early_place (code j.program s) n l in same_own (own_after j s n) ((system j).start s)
      (ap (registers_in j (reaction_at (code j.program s) n) (slice_get (turn j.program s) (index_at j.program s n)))
      (offset_first j.program s n z.0) ∙ zero_registers j (reaction_at (code j.program s) n) (slice_get (turn j.program s) (index_at j.program s n)))
      (cells_none j (done_by j s n) none j.graph.vertices 0 as_many)
      (rows_none j (done_by j s n) none)
    where
      none_made : (c : ℕ) → made j s c n ≡ 0
      none_made c = let z = early_place (code j.program s) n l in
          let low : nat_lt c (place_at (code j.program s) n) ≡ false = ap (nat_lt c) z.0 ∙ le-ltb c 0 (omega arith) in λ i. z.1 i + cond (low i) 1 0

      none : (v : ℕ) → done_by j s n v ≡ 0
      none v = ap (λ (c : ℕ). cond (nat_eq (calling j.program v).sequence s) c 0) (none_made (last_load j v)) ∙ both (nat_eq (calling j.program v).sequence s)
        where
          both : (b : Bool) → ◌≡◌ {A = ℕ} (cond b 0 0) 0
          both true = refl
          both false = refl

      as_many : length j.opening ≡ 0 + length (initial_cells j.graph.vertices)
      as_many = sym (length-map j.opening (λ (v : Vector). length v)) ∙ ap (λ (ns : List ℕ). length ns) h.opened
          ∙ length-map (initial_cells j.graph.vertices) (λ (v : Vector). length v) ∙ sym (zero-add (length (initial_cells j.graph.vertices)))

  in_reactions : (s n : ℕ) (m : Micro) → Here j.program s n m → n < full (system j) s → reaction_at (code j.program s) n < reactions j
  in_reactions s n m o l = ⊎_elim (λ k. k)
      (λ k. let r : reactions j * length (code j.program s).turn
      ≤ reaction_at (code j.program s) n * length (code j.program s).turn = mul-le-mul_right (length (code j.program s).turn) k in
      let q = number_split (code j.program s) n o.late in absurd (omega arith)) (cases_lt (reaction_at (code j.program s) n) (reactions j))

  right : (s n : ℕ) (m : Micro) → n < full (system j) s → step_at (code j.program s) n ≡ Some m → IsRightAt (system j) (stored_value j) (own_after j) s n m
  right s n m below e = by (cases_lt n (length (code j.program s).prologue))
    where
      by : (n < length (code j.program s).prologue) ⊎ (length (code j.program s).prologue ≤ n) → IsRightAt (system j) (stored_value j) (own_after j) s n m
      by (inl l) = let u : step_at (code j.program s) n ≡ slice_get (code j.program s).prologue n = rw (lt-ltb n (length (code j.program s).prologue) l) refl in
          let q = front_is j.program (places j.program) C (reactions j) (parts_of j) s n m (sym u ∙ e) in
          subst (λ (x : Micro). IsRightAt (system j) (stored_value j) (own_after j) s n x) q.5 (nothing s (n + 1) (omega arith) ∙ sym (nothing s n (omega arith)))
      by (inr l) = let o = here j.program s n m l e in right_late s n m (in_reactions s n m o below) o

pub compute_their_values : SequencesComputeTheirValues
compute_their_values j h = record { first = λ s. nothing j h s 0 (omega arith); right = right j h }
