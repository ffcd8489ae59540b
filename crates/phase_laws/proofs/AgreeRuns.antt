-- A step of the core and a step of the theory lead from states that agree to states that agree, and so do runs.
use Rattle.std.proofs.Common.{
  ◌≡◌,
  ℕ,
  ◌+◌,
  ◌-◌,
  ◌*◌,
  ◌/◌,
  ◌%◌,
  ◌<◌,
  ◌≤◌,
  ◌⊎◌,
  Bool,
  true,
  false,
  cond,
  List,
  [],
  ◌∷◌,
  length,
  map,
  Option,
  Some,
  None,
  refl,
  sym,
  ap,
  subst,
  inl,
  inr,
  arith,
  ◌∙◌,
  ℤ,
  pos,
}
use Rattle.std.specs.Prelude.{slice_get, slice_index_or, slice_set, replicate, nat_eq, nat_lt, nat_le}
use Rattle.std.proofs.lemmas.Bool.{cases_eq, cases_lt, eq-eqb, ne_eqb, ltb-true}
use Rattle.std.proofs.lemmas.List.{length-set, length-replicate, get_or-replicate, get_or_past}
use Rattle.executive_program.specs.Sites.{step_at, reaction_at, place_at}
use Rattle.executive_program.specs.Precedence.{one_more}
use Rattle.executive_program.specs.System as theory
use Rattle.executive_program.specs.System.{Micro, State, put, place_number, load, store, turn_reached}
use Rattle.executive_program.specs.Level.{element_at}
use Rattle.executive_program.specs.declared.Vertex.{Vertex}
use Rattle.executive_program.specs.declared.Kind.TheVariants.{Actuator}
use Rattle.executive_program.specs.declared.steps.Place.{Place}
use Rattle.executive_program.specs.declared.steps.Place.TheVariants.{Buffer, Wire}
use Rattle.executive_program.specs.declared.steps.OnLoad.{OnLoad}
use Rattle.executive_program.specs.declared.steps.OnStore.{OnStore}
use Rattle.executive_program.specs.declared.steps.MicroStep.{MicroStep}
use Rattle.executive_program.specs.declared.steps.MicroStep.TheVariants.{Take, See, Lower, Signal, Await, Advance, Load, Store}
use Rattle.executive_program.specs.Instructions.{len_of, depth_of, HasPlaces}
use Rattle.executive_program.specs.MicroSteps.{code, transfers, wire_len}
use Rattle.executive_program.specs.Steps.{steps}
use Rattle.semaphore_core.specs.Operation.{delay_of}
use Rattle.semaphore_core.specs.Registers.{Own, absorb_by, emit_by, after_by, absorb_at, emit_at, after_at}
use Rattle.semaphore_core.specs.Job.{JobData, reactions, zero_rows, system}
use Rattle.semaphore_core.specs.Core.{Core, home_of, slot_of, opening, count, counted, reaction, full, next, own, enabled_by, is_enabled, element_of, with_own, done_by, step, run_from, run}
use Rattle.executive_program.proofs.Formed.{formed_has_places}
use Rattle.phase_laws.specs.Agrees.{IsFormed, IsMatched, LiesAt, LoadsHere, StoresHere, caller, row_at, Agrees, StepsTogether}
use Rattle.phase_laws.proofs.AgreeSteps.{AtSame, matched_at, steps_matched}
use Rattle.phase_laws.proofs.AgreeLists.{put_here, put_there, set_put, set_in, set_in_lens}
use Rattle.phase_laws.proofs.AgreePlaces.{word_of, slot_at, AllSame, stored_same, Placed, placed, opening_elements, buffer_list, wire_list}
use Rattle.phase_laws.proofs.AgreeOwn.{IsOwn, absorb_same, emit_same, after_same}
use Rattle.syn_base.specs.Vectors.{Vector, vector_at}

-- each entry of a list of one thing, and what is read past its end
replicate_at : {A : Type 0} (n i : ℕ) (a : A) → slice_index_or (replicate n a) i a ≡ a
replicate_at {A = A} n i a = by (cases_lt i n)
  where
    by : (i < n) ⊎ (n ≤ i) → slice_index_or (replicate n a) i a ≡ a
    by (inl l) = get_or-replicate n i a a l
    by (inr l) = get_or_past (replicate n a) i a (let e : length (replicate n a) ≡ n = length-replicate n a in omega arith)

module _ (j : JobData) (f : IsFormed j) where
  -- buffers have places, and both codes the same reactions and ends
  has_places : HasPlaces j.program
  has_places = formed_has_places j.program j.graph f.seqs j.media f.formed

  reaction_same : (s n : ℕ) → reaction_at (steps j.program s) n ≡ reaction_at (code j.program s) n
  reaction_same s n = let m = steps_matched j f s in λ i. (n - m.prologues_as_long i) / m.turns_as_long i

  pub full_same : (s : ℕ) → full j s ≡ theory.full (system j) s
  full_same s = let m = steps_matched j f s in λ i. m.prologues_as_long i + reactions j * m.turns_as_long i

  module _ (s : ℕ) where
    abbrev Same : Option MicroStep → Option Micro → Type 0
    Same o u = AtSame j.program j.media s o u

    -- next micro-steps match
    cond_same : (b c : Bool) (x y : Option MicroStep) (u v : Option Micro) → b ≡ c → Same x u → Same y v → Same (cond b x y) (cond c u v)
    cond_same b c x y u v e h k = subst (λ (d : Bool). Same (cond b x y) (cond d u v)) e (by b)
      where
        by : (b : Bool) → Same (cond b x y) (cond b u v)
        by true = h
        by false = k

    at_same : (n : ℕ) → Same (step_at (steps j.program s) n) (step_at (code j.program s) n)
    at_same n = cond_same (nat_lt n (length (steps j.program s).prologue)) (nat_lt n (length (code j.program s).prologue)) _ _ _ _ (ap (nat_lt n) m.prologues_as_long)
        (matched_at j.program j.media s (steps j.program s).prologue (code j.program s).prologue n m.prologues)
        (subst (λ (l : ℕ). Same (slice_get (steps j.program s).turn (place_at (steps j.program s) n)) (slice_get (code j.program s).turn l)) (λ i. (n - m.prologues_as_long i) % m.turns_as_long i)
        (matched_at j.program j.media s (steps j.program s).turn (code j.program s).turn (place_at (steps j.program s) n) m.turns))
      where
        m : IsMatched j.program j.media s
        m = steps_matched j f s

    pub next_same : (z : Core) → Same (next j z s) (theory.next (system j) (count z) s)
    next_same z = cond_same (nat_lt s (length j.program.seqs)) (nat_lt s (length j.program.seqs)) _ None _ None refl
        (cond_same (nat_lt (count z s) (full j s)) (nat_lt (count z s) (theory.full (system j) s)) _ None _ None (ap (nat_lt (count z s)) (full_same s)) (at_same (count z s)) tt) tt

  module _ (z : Core) (w : State Own) (a : Agrees j z w) where
    -- the same state, whose counts are read in the core
    abbrev V : State Own
    V = record w { counts = count z }

    to_given : V ≡ w
    to_given = λ i. record w { counts = λ s. a.counts s i }

    given : Agrees j z V
    given = subst (λ (v : State Own). Agrees j z v) (sym to_given) a

    -- its elements
    all_same : AllSame j.program j.media z.elements w.elements
    all_same (Buffer b n) q h = a.buffers b n q h.0 h.1 h.2
    all_same (Wire m n) q h = a.wires m n h.0 h.1 ∙ ap (w.elements (word_of j.program j.media (Wire m n))) (sym h.2)

    module _ (s : ℕ) (there : s < length j.program.seqs) where
      -- the counts with one more
      counts_more : (t : ℕ) → slice_index_or (counted z s) t 0 ≡ one_more (count z) s t
      counts_more t = by (cases_eq t s)
        where
          by : (t ≡ s) ⊎ (t ≡ s → ⊥) → slice_index_or (counted z s) t 0 ≡ one_more (count z) s t
          by (inl e) = set_put z.counts (count z) s t (count z s + 1) (count z s + 1) 0 (let l = a.counts_there in omega arith) refl refl ∙ put_here (count z) s (count z s + 1) t e
              ∙ ap (λ (i : ℕ). count z i + 1) (sym e) ∙ sym (rw (eq-eqb t s e) refl)
          by (inr e) = set_put z.counts (count z) s t (count z s + 1) (count z s + 1) 0 (let l = a.counts_there in omega arith) refl refl
              ∙ put_there (count z) s (count z s + 1) t e ∙ sym (rw (ne_eqb t s e) refl)

      counts_long : length (counted z s) ≡ length j.program.seqs
      counts_long = length-set z.counts s (count z s + 1) ∙ a.counts_there

      -- a step that changes words alone
      words_step : (x t : List ℕ) (y u : ℕ → ℕ) → length x ≡ 2 * length j.program.pairs → ((i : ℕ) → i < 2 * length j.program.pairs → slice_index_or x i 0 ≡ y i)
          → length t ≡ j.media → ((i : ℕ) → i < j.media → slice_index_or t i 0 ≡ u i)
          → Agrees j (record z { counts = counted z s; semaphores = x; turns = t }) (record V { counts = one_more (count z) s; semaphores = y; turns = u })
      words_step x t y u xl xs tl ts = record {
        counts = counts_more;
        semaphores = xs;
        turns = ts;
        buffers = a.buffers;
        wires = a.wires;
        registers = a.registers;
        cells = a.cells;
        rows = a.rows;
        counts_there = counts_long;
        semaphores_there = xl;
        turns_there = tl;
        elements_there = a.elements_there;
        registers_there = a.registers_there;
        cells_there = a.cells_there;
        rows_there = a.rows_there;
        own_cells_there = a.own_cells_there;
        own_rows_there = a.own_rows_there;
      }

      semaphore_step : (x n m : ℕ) → x < 2 * length j.program.pairs → n ≡ m
          → Agrees j (record z { counts = counted z s; semaphores = slice_set z.semaphores x n })
          (record V { counts = one_more (count z) s; semaphores = put w.semaphores x m })
      semaphore_step x n m l e = words_step (slice_set z.semaphores x n) z.turns (put w.semaphores x m) w.turns (length-set z.semaphores x n ∙ a.semaphores_there)
          (λ i k. set_put z.semaphores w.semaphores x i n m 0 (let q = a.semaphores_there in omega arith) e (a.semaphores i k)) a.turns_there a.turns

      waits : Agrees j (record z { counts = counted z s }) (record V { counts = one_more (count z) s })
      waits = words_step z.semaphores z.turns w.semaphores w.turns a.semaphores_there a.semaphores a.turns_there a.turns

      turn_step : (m : ℕ) → m < j.media
          → Agrees j (record z { counts = counted z s; turns = slice_set z.turns m (slice_index_or z.turns m 0 + 1) })
          (record V { counts = one_more (count z) s; turns = put w.turns m (w.turns m + 1) })
      turn_step m l = words_step z.semaphores (slice_set z.turns m (slice_index_or z.turns m 0 + 1)) w.semaphores
          (put w.turns m (w.turns m + 1)) a.semaphores_there a.semaphores (length-set z.turns m _ ∙ a.turns_there)
          (λ i k. set_put z.turns w.turns m i (slice_index_or z.turns m 0 + 1) (w.turns m + 1) 0 (let q = a.turns_there in omega arith) (ap (λ (n : ℕ). n + 1) (a.turns m l)) (a.turns i k))

      -- what the sequence has of its own before the step
      own_start : IsOwn j f z.cells z.rows s (own j z s) (w.own s)
      own_start = record {
        registers = a.registers s there;
        cells_there = a.cells_there;
        rows_there = a.rows_there;
        own_cells_there = a.own_cells_there s;
        own_rows_there = a.own_rows_there s;
        cells_same = λ v d x is e h. a.cells v d x is e ∙ ap (λ (t : ℕ). vector_at (w.own t).cells d) h;
        cells_kept = λ v d x is e h. refl;
        rows_same = λ v n k x is e h. a.rows v n k x is e ∙ ap (λ (t : ℕ). row_at (w.own t).rows k n) h;
        rows_kept = λ v n k x is e h. refl;
      }

      -- a step that changes what the sequence has of its own, and may store an element
      module _ (e : List (List ℤ)) (g : ℕ → ℕ → ℤ) (long : map length e ≡ map length (opening_elements j.program j.media))
          (same : AllSame j.program j.media e g) (c o : Own) (i : IsOwn j f z.cells z.rows s c o) where
        abbrev O : ℕ → Own
        O = put w.own s o

        here : (t : ℕ) → t ≡ s → put w.own s o t ≡ o
        here t q = put_here w.own s o t q

        away : (t : ℕ) → (t ≡ s → ⊥) → put w.own s o t ≡ w.own t
        away t q = put_there w.own s o t q

        -- registers, cells and rows afterwards, and their lengths
        registers_are : (t : ℕ) → t < length j.program.seqs → slice_index_or (slice_set z.registers s c.registers) t [] ≡ (O t).registers
        registers_are t l = set_put z.registers (λ u. (w.own u).registers) s t c.registers o.registers [] (let q = a.registers_there in omega arith) i.registers (a.registers t l) ∙ by (cases_eq t s)
          where
            by : (t ≡ s) ⊎ (t ≡ s → ⊥) → put (λ u. (w.own u).registers) s o.registers t ≡ (put w.own s o t).registers
            by (inl q) = put_here (λ u. (w.own u).registers) s o.registers t q ∙ sym (ap (λ (k : Own). k.registers) (here t q))
            by (inr q) = put_there (λ u. (w.own u).registers) s o.registers t q ∙ sym (ap (λ (k : Own). k.registers) (away t q))

        cells_are : (v d : ℕ) (x : Vertex) → slice_get j.graph.vertices v ≡ Some x → delay_of j.graph v x ≡ Some d → vector_at c.cells d ≡ vector_at (O (caller j v)).cells d
        cells_are v d x is q = by (cases_eq (caller j v) s)
          where
            by : (caller j v ≡ s) ⊎ (caller j v ≡ s → ⊥) → vector_at c.cells d ≡ vector_at (O (caller j v)).cells d
            by (inl h) = i.cells_same v d x is q h ∙ sym (ap (λ (k : Own). vector_at k.cells d) (here (caller j v) h))
            by (inr h) = i.cells_kept v d x is q h ∙ a.cells v d x is q ∙ sym (ap (λ (k : Own). vector_at k.cells d) (away (caller j v) h))

        rows_are : (v n k : ℕ) (x : Vertex) → slice_get j.graph.vertices v ≡ Some x → x.kind ≡ Actuator n → row_at c.rows k n ≡ row_at (O (caller j v)).rows k n
        rows_are v n k x is q = by (cases_eq (caller j v) s)
          where
            by : (caller j v ≡ s) ⊎ (caller j v ≡ s → ⊥) → row_at c.rows k n ≡ row_at (O (caller j v)).rows k n
            by (inl h) = i.rows_same v n k x is q h ∙ sym (ap (λ (u : Own). row_at u.rows k n) (here (caller j v) h))
            by (inr h) = i.rows_kept v n k x is q h ∙ a.rows v n k x is q ∙ sym (ap (λ (u : Own). row_at u.rows k n) (away (caller j v) h))

        own_cells_are : (t : ℕ) → length (O t).cells ≡ length j.opening
        own_cells_are t = by (cases_eq t s)
          where
            by : (t ≡ s) ⊎ (t ≡ s → ⊥) → length (O t).cells ≡ length j.opening
            by (inl q) = ap (λ (k : Own). length k.cells) (here t q) ∙ i.own_cells_there
            by (inr q) = ap (λ (k : Own). length k.cells) (away t q) ∙ a.own_cells_there t

        own_rows_are : (t : ℕ) → map length (O t).rows ≡ map length (zero_rows j)
        own_rows_are t = by (cases_eq t s)
          where
            by : (t ≡ s) ⊎ (t ≡ s → ⊥) → map length (O t).rows ≡ map length (zero_rows j)
            by (inl q) = ap (λ (k : Own). map length k.rows) (here t q) ∙ i.own_rows_there
            by (inr q) = ap (λ (k : Own). map length k.rows) (away t q) ∙ a.own_rows_there t

        own_step : Agrees j (with_own j z s e c) (record V { counts = one_more (count z) s; elements = g; own = put w.own s o })
        own_step = record {
          counts = counts_more;
          semaphores = a.semaphores;
          turns = a.turns;
          buffers = λ b n q h k l. same (Buffer b n) q (h, k, l);
          wires = λ m n h k. same (Wire m n) 0 (h, k, refl);
          registers = registers_are;
          cells = cells_are;
          rows = rows_are;
          counts_there = counts_long;
          semaphores_there = a.semaphores_there;
          turns_there = a.turns_there;
          elements_there = long;
          registers_there = length-set z.registers s c.registers ∙ a.registers_there;
          cells_there = i.cells_there;
          rows_there = i.rows_there;
          own_cells_there = own_cells_are;
          own_rows_there = own_rows_are;
        }

      -- the reaction of the step, in the core and in the theory
      abbrev K : ℕ
      K = reaction j z s

      abbrev R : ℕ
      R = reaction_at (code j.program s) (count z s)

      pub reactions_same : K ≡ R
      reactions_same = reaction_same s (count z s)

      module _ (x : Place) (y i : ℕ) (lies : LiesAt j.program j.media x y i) where
        p : Placed j.program j.media x y i R
        p = placed j.program j.media has_places x y i R lies

        slot_is : slot_of j.program x K ≡ slot_at j.program j.media x p.at
        slot_is = ap (slot_of j.program x) reactions_same ∙ p.slot

        pub element_is : element_of j z x K ≡ w.elements y (place_number (system j) s (count z s) y i)
        element_is = ap (λ (k : ℕ). element_at (slice_index_or z.elements (home_of j.program x) []) k) slot_is ∙ all_same x p.at p.inside ∙ (λ t. w.elements (sym p.word t) (sym p.number t))

        load_step : (then : OnLoad) → LoadsHere j.program j.media s then → step_at (steps j.program s) (count z s) ≡ Some (Load x then)
            → Agrees j (done_by j z s (Some (Load x then))) (theory.done_by (system j) V s (Some (load y i)))
        load_step then h is = subst (λ (o : Own). Agrees j (done_by j z s (Some (Load x then))) (record V { counts = one_more (count z) s; own = put w.own s o }))
            (λ t. absorb_at j.graph j.sensors (sym is t) (reactions_same t) (w.own s) (element_is t))
            (own_step z.elements w.elements a.elements_there all_same (absorb_by j.graph j.sensors then K (own j z s) (element_of j z x K))
            (absorb_by j.graph j.sensors then K (w.own s) (element_of j z x K))
            (absorb_same j f z.cells z.rows s then K (own j z s) (w.own s) (element_of j z x K) h own_start))

        store_step : (what : OnStore) → StoresHere j.program j.media s what → step_at (steps j.program s) (count z s) ≡ Some (Store x what)
            → Agrees j (done_by j z s (Some (Store x what))) (theory.done_by (system j) V s (Some (store y i)))
        store_step what h is = subst (λ (o : Own). Agrees j (done_by j z s (Some (Store x what))) (record V { counts = one_more (count z) s; elements = G'; own = put w.own s o }))
            (λ t. after_at j.graph j.sensors (sym is t) (reactions_same t) (w.own s))
            (own_step (set_in z.elements (home_of j.program x) (slot_of j.program x K) E) G' (set_in_lens z.elements (home_of j.program x) (slot_of j.program x K) E ∙ a.elements_there) stored
            (after_by j.graph j.sensors what K (own j z s)) (after_by j.graph j.sensors what K (w.own s)) (after_same j f z.cells z.rows s what K (own j z s) (w.own s) h own_start))
          where
            E : ℤ
            E = emit_by j.graph j.sensors what K (own j z s)

            emitted : E ≡ emit_at j.graph j.sensors (step_at (steps j.program s) (count z s)) R (w.own s)
            emitted = emit_same j f z.cells z.rows s what K (own j z s) (w.own s) h own_start ∙ (λ t. emit_at j.graph j.sensors (sym is t) (reactions_same t) (w.own s))

            G' : ℕ → ℕ → ℤ
            G' = put w.elements y (put (w.elements y) (place_number (system j) s (count z s) y i) (emit_at j.graph j.sensors (step_at (steps j.program s) (count z s)) R (w.own s)))

            stored : AllSame j.program j.media (set_in z.elements (home_of j.program x) (slot_of j.program x K) E) G'
            stored = subst (λ (l : List (List ℤ)). AllSame j.program j.media l G') (ap (λ (k : ℕ). set_in z.elements (home_of j.program x) k E) (sym slot_is))
                (subst (λ (g : ℕ → ℕ → ℤ). AllSame j.program j.media (set_in z.elements (home_of j.program x) (slot_at j.program j.media x p.at) E) g)
                (λ t. put w.elements (sym p.word t) (put (w.elements (sym p.word t)) (sym p.number t) (emitted t)))
                (stored_same j.program j.media z.elements w.elements a.elements_there all_same x p.at E p.inside))

      -- both are enabled or neither is, and both states agree afterwards
      record Together (m : MicroStep) (c : Micro) : Type 0 where
        enabled : enabled_by j z s (Some m) ≡ theory.enabled_by (system j) V s (Some c)
        steps : Agrees j (done_by j z s (Some m)) (theory.done_by (system j) V s (Some c))

      -- each kind of micro-step
      one : (m : MicroStep) (c : Micro) → Same s (Some m) (Some c) → step_at (steps j.program s) (count z s) ≡ Some m → Together m c
      one (Take x) c h is = subst (λ (q : Micro). Together (Take x) q) (sym h.1) (record { enabled = ap (λ (n : ℕ). nat_eq n 1) (a.semaphores x h.0); steps = semaphore_step x 0 0 h.0 refl })
      one (See x) c h is = subst (λ (q : Micro). Together (See x) q) (sym h.1) (record { enabled = ap (λ (n : ℕ). nat_le 1 n) (a.semaphores x h.0); steps = waits })
      one (Lower x) c h is = subst (λ (q : Micro). Together (Lower x) q) (sym h.1)
          (record {
            enabled = refl;
            steps =
                semaphore_step x (slice_index_or z.semaphores x 0 - 1) (w.semaphores x - 1) h.0 (ap (λ (n : ℕ). n - 1) (a.semaphores x h.0));
          })
      one (Signal x) c h is = subst (λ (q : Micro). Together (Signal x) q) (sym h.1)
          (record {
            enabled = refl;
            steps =
                semaphore_step x (slice_index_or z.semaphores x 0 + 1) (w.semaphores x + 1) h.0 (ap (λ (n : ℕ). n + 1) (a.semaphores x h.0));
          })
      one (Await m i n exact) c h is = subst (λ (q : Micro). Together (Await m i n exact) q) (sym h.2)
          (record { enabled = (λ t. turn_reached exact (a.turns m h.0 t) (reactions_same t * h.1 t + i)); steps = waits })
      one (Advance m) c h is = subst (λ (q : Micro). Together (Advance m) q) (sym h.2) (record { enabled = refl; steps = turn_step m h.0 })
      one (Load x then) c h is = subst (λ (q : Micro). Together (Load x then) q) (sym h.4) (record { enabled = refl; steps = load_step x h.1 h.2 h.3 then h.0 is })
      one (Store x what) c h is = subst (λ (q : Micro). Together (Store x what) q) (sym h.4) (record { enabled = refl; steps = store_step x h.1 h.2 h.3 what h.0 is })

    -- the next micro-step is one of a sequence that is there
    next_is : (s : ℕ) (m : MicroStep) → next j z s ≡ Some m → (s < length j.program.seqs) × (step_at (steps j.program s) (count z s) ≡ Some m)
    next_is s m e = by (nat_lt s (length j.program.seqs)) refl (nat_lt (count z s) (full j s)) e
      where
        by : (b : Bool) → nat_lt s (length j.program.seqs) ≡ b → (d : Bool)
            → cond b (cond d (step_at (steps j.program s) (count z s)) None) None ≡ Some m → (s < length j.program.seqs)
            × (step_at (steps j.program s) (count z s) ≡ Some m)
        by true q true e = (ltb-true s (length j.program.seqs) q, e)
        by true q false e = absurd (cc)
        by false q d e = absurd (cc)

    together : (s : ℕ) (o : Option MicroStep) (u : Option Micro) → next j z s ≡ o → Same s o u
        → (enabled_by j z s o ≡ theory.enabled_by (system j) V s u) × Agrees j (done_by j z s o) (theory.done_by (system j) V s u)
    together s None None e h = (refl, given)
    together s None (Some c) e h = absurd h
    together s (Some m) None e h = absurd h
    together s (Some m) (Some c) e h = let n = next_is s m e in let r = one s n.0 m c h n.1 in (r.enabled, r.steps)

    -- a step that is not enabled changes neither
    either : (b c : Bool) (x y : Core) (u v : State Own) → b ≡ c → Agrees j x u → Agrees j y v → Agrees j (cond b x y) (cond c u v)
    either b c x y u v e h k = subst (λ (d : Bool). Agrees j (cond b x y) (cond d u v)) e (by b)
      where
        by : (b : Bool) → Agrees j (cond b x y) (cond b u v)
        by true = h
        by false = k

    pub steps_agree : (s : ℕ) → StepsTogether j z w s
    steps_agree s = let r = together s (next j z s) (theory.next (system j) (count z) s) refl (next_same s z) in
        subst (λ (v : State Own). StepsTogether j z v s) to_given (record { enabled = r.0; steps = either (is_enabled j z s) (theory.enabled (system j) V s) _ z _ V r.0 r.1 given })

  pub opening_agrees : Agrees j (opening j) (theory.opening (system j))
  opening_agrees = record {
    counts = λ s. replicate_at (length j.program.seqs) s 0;
    semaphores = λ x h. replicate_at (2 * length j.program.pairs) x 0;
    turns = λ m h. replicate_at j.media m 0;
    buffers = λ b n q h k l. ap (λ (v : Vector). element_at v (q * len_of j.program b + n)) (buffer_list j.program j.media b h)
        ∙ replicate_at (depth_of j.program b * len_of j.program b) (q * len_of j.program b + n) (pos 0);
    wires = λ m n h k. ap (λ (v : Vector). element_at v n) (wire_list j.program j.media m h) ∙ replicate_at (wire_len j.program m) n (pos 0);
    registers = λ s h. replicate_at (length j.program.seqs) s [];
    cells = λ v d x is e. refl;
    rows = λ v n k x is e. refl;
    counts_there = length-replicate (length j.program.seqs) 0;
    semaphores_there = length-replicate (2 * length j.program.pairs) 0;
    turns_there = length-replicate j.media 0;
    elements_there = refl;
    registers_there = length-replicate (length j.program.seqs) [];
    cells_there = refl;
    rows_there = refl;
    own_cells_there = λ s. refl;
    own_rows_there = λ s. refl;
  }

  -- entry by entry of the list
  runs_from_agree : (z : Core) (w : State Own) (list : List ℕ) → Agrees j z w → Agrees j (run_from j z list) (theory.run_from (system j) w list)
  runs_from_agree z w [] a = a
  runs_from_agree z w (s ∷ ss) a = runs_from_agree (step j z s) (theory.step (system j) w s) ss (steps_agree z w a s).steps

  pub runs_agree : (list : List ℕ) → Agrees j (run j list) (theory.run (system j) list)
  runs_agree list = runs_from_agree (opening j) (theory.opening (system j)) list opening_agrees
