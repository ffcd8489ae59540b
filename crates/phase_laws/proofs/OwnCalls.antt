-- A load and a store of a call: what they find in the registers, and what they leave.
use Rattle.std.proofs.Common.{◌≡◌, ℕ, ◌+◌, ◌-◌, ◌<◌, ◌≤◌, ◌⊎◌, cond, List, [], ◌∷◌, ◌++◌, length, map, Option, Some, refl, sym, ap, subst, inl, inr, ⊎_elim, arith, ◌∙◌, ℤ}
use Rattle.std.specs.Prelude.{slice_get, nat_lt}
use Rattle.std.proofs.lemmas.Option.{same_Some, slice_get_within}
use Rattle.std.proofs.lemmas.Bool.{cases_eq, lt-ltb, le-ltb, eq-eqb, ne_eqb}
use Rattle.executive_program.specs.Sites.{reaction_at}
use Rattle.executive_program.specs.System.{Micro}
use Rattle.executive_program.specs.Owners.{sum_below}
use Rattle.executive_program.specs.Level.{element_at, all_joined}
use Rattle.executive_program.specs.declared.Kind.TheVariants.{Get}
use Rattle.executive_program.specs.declared.Vertex.{Vertex}
use Rattle.executive_program.specs.Meaning.{is_get, delay_number, cell_of, cells_after, flat_outputs}
use Rattle.executive_program.specs.declared.program.Instr.{Instr}
use Rattle.executive_program.specs.declared.program.Instr.TheVariants.{Call}
use Rattle.executive_program.specs.Instructions.{turn, len_of}
use Rattle.executive_program.specs.MicroSteps.{code, size, begins}
use Rattle.executive_program.specs.Places.{calling, places, carried, ins_in, outs_in}
use Rattle.executive_program.specs.Steps.{len_at, elements_in, on_load, on_store}
use Rattle.semaphore_core.specs.Operation.{vectors_from, lens_in, inputs_in}
use Rattle.semaphore_core.specs.Registers.{Own, with_registers, kept, gathered, compute, compute_by, absorb_by, emit_by, after_by}
use Rattle.semaphore_core.specs.Job.{JobData, reactions}
use Rattle.semaphore_core.specs.Told.{index_at, registers_in, buffer_value, own_after}
use Rattle.executive_program.specs.WellFormed.{Stands, IsCalled}
use Rattle.phase_laws.specs.Values.{IsSupplied}
use Rattle.phase_laws.proofs.Places.{slice_get_some, earlier}
use Rattle.phase_laws.proofs.Standing.{Here}
use Rattle.phase_laws.proofs.Halves.{set_half}
use Rattle.phase_laws.proofs.Lengths.{Carry, Give}
use Rattle.phase_laws.proofs.Computing.{cells_other, rows_other}
use Rattle.phase_laws.proofs.CallRegisters.{zero_registers, loads_are, loaded_at, stored_at, more_loaded, computed, gathers, full_load, compute_is}
use Rattle.phase_laws.proofs.Stateful.{Changes, fed, call_size}
use Rattle.phase_laws.proofs.OwnSteps.{cell_found, kept_all, computed_cells, computed_rows}
use Rattle.syn_base.specs.Vectors.{vector_at}

pub same_own : (c d : Own) → c.registers ≡ d.registers → c.cells ≡ d.cells → c.rows ≡ d.rows → c ≡ d
same_own c d a b e = λ i. record { registers = a i; cells = b i; rows = e i }

module _ (j : JobData) (h : IsSupplied j) (s n : ℕ) (m : Micro) (o : Here j.program s n m) where
  abbrev K : ℕ
  K = reaction_at (code j.program s) n

  instr_is : slice_get (turn j.program s) (index_at j.program s n) ≡ Some o.instr
  instr_is = ap (slice_get (turn j.program s)) o.index_is ∙ o.stands

  -- the registers now, and after the micro-step
  pub now : (own_after j s n).registers ≡ registers_in j (reaction_at (code j.program s) n) (Some o.instr) o.at
  now = λ i. registers_in j (reaction_at (code j.program s) n) (instr_is i) (o.offset_is i)

  pub then : (own_after j s (n + 1)).registers ≡ cond (nat_lt (o.at + 1) (size j.program s o.index)) (registers_in j (reaction_at (code j.program s) n) (Some o.instr) (o.at + 1)) []
  then = ⊎_elim
      (λ q. rw (lt-ltb (o.at + 1) (size j.program s o.index) q.0) (λ i. registers_in j (q.3 i) ((ap (slice_get (turn j.program s)) q.1 ∙ o.stands) i) (q.2 i)))
      (λ q. rw (le-ltb (o.at + 1) (size j.program s o.index) q.0)
      (ap (registers_in j (reaction_at (code j.program s) (n + 1)) (slice_get (turn j.program s) (index_at j.program s (n + 1)))) q.1
      ∙ zero_registers j (reaction_at (code j.program s) (n + 1)) (slice_get (turn j.program s) (index_at j.program s (n + 1))))) o.next

  module _ (low : reaction_at (code j.program s) n < reactions j) (v : ℕ) (ins outs : List ℕ) (call : o.instr ≡ Call v ins outs) where
    stands : Stands j.program s o.index (Call v ins outs)
    stands = subst (λ (x : Instr). Stands j.program s o.index x) call o.stands

    vertex : (y : Vertex) × (slice_get j.graph.vertices v ≡ Some y)
    vertex = slice_get_some j.graph.vertices v (h.formed.named s o.index (Call v ins outs) stands).0

    called : IsCalled j.program h.order (places j.program) (carried j.program) j.graph v vertex.0
    called = h.formed.called v vertex.0 vertex.1

    own_place : (s ≡ (calling j.program v).sequence) × (o.index ≡ (calling j.program v).at)
    own_place = called.only s o.index ins outs stands

    same_call : Call v (calling j.program v).ins (calling j.program v).outs ≡ Call v ins outs
    same_call = same_Some _ (Call v ins outs)
        (sym called.stands ∙ ap (slice_get (turn j.program (calling j.program v).sequence)) (sym own_place.1) ∙ ap (λ (t : ℕ). slice_get (turn j.program t) o.index) (sym own_place.0) ∙ stands)

    same_ins : (calling j.program v).ins ≡ ins
    same_ins = ap (λ (x : Instr). ins_in (Some x)) same_call

    same_outs : (calling j.program v).outs ≡ outs
    same_outs = ap (λ (x : Instr). outs_in (Some x)) same_call

    carry : Carry j h ins (map (λ d. d.source) vertex.0.guards ++ vertex.0.ins)
    carry = subst (λ (l : List ℕ). Carry j h l (map (λ d. d.source) vertex.0.guards ++ vertex.0.ins)) same_ins called.takes

    give : Give j h v 0 outs vertex.0.outs
    give = subst (λ (l : List ℕ). Give j h v 0 l vertex.0.outs) same_outs called.gives

    -- a get half reads its cell before its set half stores
    cell_is : (z : List ℤ) → vertex.0.kind ≡ Get z → vector_at (own_after j s n).cells (delay_number j.graph.vertices v)
        ≡ cell_of j.graph (cells_after j.graph j.sensors j.opening (reaction_at (code j.program s) n)) v
    cell_is z e = let t = set_half j.graph h.valid v vertex.0 vertex.1 z e in let c = called.twins z t.at e t.twin_is in
        cell_found j h s n m o v t.at vertex.0 vertex.1 (ap is_get e) t.twin_is (sym c.0 ∙ sym own_place.0)
        (let q = earlier j.program s o.index (calling j.program t.at).at o.at (elements_in j.program (calling j.program t.at).ins - 1) (let a = own_place.1 in let b = c.1 in omega arith) o.inner in
        let d = o.is in let r = ap (λ (u : ℕ). begins j.program u (calling j.program t.at).at) (own_place.0 ∙ c.0) in omega arith)

    abbrev N : ℕ
    N = elements_in j.program ins

    abbrev M : ℕ
    M = elements_in j.program ins + elements_in j.program outs

    abbrev A : Own
    A = own_after j s n

    size_is : size j.program s o.index ≡ elements_in j.program ins + elements_in j.program outs
    size_is = call_size j h s o.index v ins outs stands

    computes : (loaded : List ℤ) → loaded ≡ all_joined (map (λ b. buffer_value j b (reaction_at (code j.program s) n)) ins)
        → (compute j.graph j.sensors v (reaction_at (code j.program s) n) loaded (own_after j s n)).registers
        ≡ all_joined (flat_outputs j.graph j.sensors j.opening v (reaction_at (code j.program s) n))
    computes loaded e = compute_is j h K v vertex.0 low vertex.1 ins outs carry give loaded A e cell_is

    now_call : (own_after j s n).registers ≡ registers_in j (reaction_at (code j.program s) n) (Some (Call v ins outs)) o.at
    now_call = now ∙ ap (λ (i : Instr). registers_in j K (Some i) o.at) call

    then_call : (own_after j s (n + 1)).registers
        ≡ cond (nat_lt (o.at + 1) (elements_in j.program ins + elements_in j.program outs)) (registers_in j (reaction_at (code j.program s) n) (Some (Call v ins outs)) (o.at + 1)) []
    then_call = then ∙ (λ i. cond (nat_lt (o.at + 1) (size_is i)) (registers_in j K (Some (call i)) (o.at + 1)) [])

    then_computed : elements_in j.program ins ≤ o.at + 1 → (own_after j s (n + 1)).registers
        ≡ cond (nat_lt (o.at + 1) (elements_in j.program ins + elements_in j.program outs)) (all_joined (flat_outputs j.graph j.sensors j.opening v (reaction_at (code j.program s) n))) []
    then_computed l = then_call ∙ ap (λ (r : List ℤ). cond (nat_lt (o.at + 1) M) r []) (computed j h K v vertex.0 low vertex.1 ins outs carry give (o.at + 1) (omega arith) l)

    -- what a load finds
    pub finds_load : (i b c : ℕ) → slice_get ins i ≡ Some b → c < len_of j.program b → o.at ≡ sum_below (len_at j.program ins) i + c
        → slice_get (all_joined (map (λ b. buffer_value j b (reaction_at (code j.program s) n)) ins)) o.at ≡ Some (element_at (buffer_value j b (reaction_at (code j.program s) n)) c)
    finds_load i b c e l at = ap (slice_get (all_joined (map (λ b. buffer_value j b K) ins))) at ∙ loaded_at j h K v vertex.0 low vertex.1 ins outs carry give i b c e l

    pub call_load : (z : ℤ) → slice_get (all_joined (map (λ b. buffer_value j b (reaction_at (code j.program s) n)) ins)) o.at ≡ Some z
        → own_after j s (n + 1) ≡ absorb_by j.graph j.sensors
        (on_load v (elements_in j.program ins) (elements_in j.program ins + elements_in j.program outs) o.at)
        (reaction_at (code j.program s) n) (own_after j s n) z
    call_load z e = by (cases_eq (o.at + 1) N)
      where
        inside : o.at < elements_in j.program ins
        inside = let a = slice_get_within (all_joined (map (λ b. buffer_value j b (reaction_at (code j.program s) n)) ins)) o.at z e in
            let b = loads_are j h K v vertex.0 low vertex.1 ins outs carry give in omega arith

        last : o.at + 1 ≡ elements_in j.program ins → own_after j s (n + 1)
            ≡ kept (nat_lt (o.at + 1) (elements_in j.program ins + elements_in j.program outs))
            (compute j.graph j.sensors v (reaction_at (code j.program s) n) (gathered (own_after j s n).registers o.at z) (own_after j s n))
        last q = let full = full_load j h K v vertex.0 low vertex.1 ins outs carry give o.at A.registers z q e now_call in
            same_own (own_after j s (n + 1)) _
            (then_computed (omega arith) ∙ ap (λ (r : List ℤ). cond (nat_lt (o.at + 1) M) r []) (sym (computes (gathered A.registers o.at z) full)))
            (sym (ap (λ (x : Option Vertex). (compute_by j.graph j.sensors v K (gathered A.registers o.at z) A x).cells) vertex.1
            ∙ computed_cells j h s n m o low v ins outs call vertex.0 vertex.1 q carry (gathered A.registers o.at z) full))
            (sym (ap (λ (x : Option Vertex). (compute_by j.graph j.sensors v K (gathered A.registers o.at z) A x).rows) vertex.1
            ∙ computed_rows j h s n m o low v ins outs call vertex.0 vertex.1 q carry (gathered A.registers o.at z) full))

        before : (o.at + 1 ≡ elements_in j.program ins → ⊥) → own_after j s (n + 1) ≡ with_registers (own_after j s n) (gathered (own_after j s n).registers o.at z)
        before q = let w = inside in let l : o.at + 1 < elements_in j.program ins = omega arith in
            let k = kept_all j h s n m o (λ t a b c. q (c ∙ ap (λ (x : Instr). elements_in j.program (ins_in (Some x))) (sym b ∙ call))) in
            same_own (own_after j s (n + 1)) _
            (then_call ∙ rw (lt-ltb (o.at + 1) (elements_in j.program ins + elements_in j.program outs) (omega arith))
            (more_loaded j h K v vertex.0 low vertex.1 ins outs carry give o.at l ∙ sym (gathers j h K v vertex.0 low vertex.1 ins outs carry give o.at A.registers z inside e now_call)))
            (sym k.0) (sym k.1)

        by : (o.at + 1 ≡ elements_in j.program ins) ⊎ (o.at + 1 ≡ elements_in j.program ins → ⊥)
            → own_after j s (n + 1) ≡ absorb_by j.graph j.sensors
            (on_load v (elements_in j.program ins) (elements_in j.program ins + elements_in j.program outs) o.at)
            (reaction_at (code j.program s) n) (own_after j s n) z
        by (inl q) = rw (eq-eqb (o.at + 1) (elements_in j.program ins) q) (last q)
        by (inr q) = rw (ne_eqb (o.at + 1) (elements_in j.program ins) q) (before q)

    module _ (i b c : ℕ) (e : slice_get outs i ≡ Some b) (l : c < len_of j.program b) (at : o.at ≡ elements_in j.program ins + sum_below (len_at j.program outs) i + c) where
      value : (registers : List ℤ) → registers ≡ all_joined (flat_outputs j.graph j.sensors j.opening v (reaction_at (code j.program s) n)) → (r : ℕ) → r ≡ o.at - elements_in j.program ins
          → element_at registers r ≡ element_at (buffer_value j b (reaction_at (code j.program s) n)) c
      value registers q r w = (λ t. element_at (q t) ((w ∙ rest) t)) ∙ stored_at j h K v vertex.0 low vertex.1 ins outs carry give i b c e l
        where
          rest : o.at - elements_in j.program ins ≡ sum_below (len_at j.program outs) i + c
          rest = omega arith

      stays : ((own_after j s n).cells ≡ (own_after j s (n + 1)).cells) × ((own_after j s n).rows ≡ (own_after j s (n + 1)).rows)
      stays = kept_all j h s n m o (λ t a b c. let z = ap (λ (x : Instr). elements_in j.program (ins_in (Some x))) (sym b ∙ call) in omega arith)

      -- an operation that loads nothing changes no cell and no row
      module _ (zero_at : o.at ≡ 0) where
        unfed : Changes j h vertex.0 → ⊥
        unfed q = let y = fed j h v (vertex.0, vertex.1, q) in let z = ap (elements_in j.program) same_ins in omega arith

        all_loaded : [] ≡ all_joined (map (λ b. buffer_value j b (reaction_at (code j.program s) n)) ins)
        all_loaded = sym (empty _ (let a = loads_are j h K v vertex.0 low vertex.1 ins outs carry give in omega arith))
          where
            empty : (xs : List ℤ) → length xs ≡ 0 → xs ≡ []
            empty [] q = refl
            empty (x ∷ xs) q = absurd (omega arith)

        first_emits : element_at (compute j.graph j.sensors v (reaction_at (code j.program s) n) [] (own_after j s n)).registers 0 ≡ element_at (buffer_value j b (reaction_at (code j.program s) n)) c
        first_emits = value _ (computes [] all_loaded) 0 (omega arith)

        first_leaves : own_after j s (n + 1)
            ≡ kept (nat_lt (o.at + 1) (elements_in j.program ins + elements_in j.program outs))
            (compute j.graph j.sensors v (reaction_at (code j.program s) n) [] (own_after j s n))
        first_leaves = same_own (own_after j s (n + 1)) _
            (then_computed (omega arith) ∙ ap (λ (r : List ℤ). cond (nat_lt (o.at + 1) M) r []) (sym (computes [] all_loaded)))
            (sym (ap (λ (x : Option Vertex). (compute_by j.graph j.sensors v K [] A x).cells) vertex.1
            ∙ cells_other j.graph v vertex.0 (vectors_from [] 0 (lens_in j.graph vertex.0)) A.cells (λ q. unfed (inl q)) ∙ stays.0))
            (sym (ap (λ (x : Option Vertex). (compute_by j.graph j.sensors v K [] A x).rows) vertex.1
            ∙ rows_other vertex.0.kind K (vector_at (inputs_in vertex.0 (vectors_from [] 0 (lens_in j.graph vertex.0))) 0) A.rows (λ a q. unfed (inr (a, q))) ∙ stays.1))

      module _ (later : o.at ≡ 0 → ⊥) where
        given_now : (own_after j s n).registers ≡ all_joined (flat_outputs j.graph j.sensors j.opening v (reaction_at (code j.program s) n))
        given_now = now_call ∙ computed j h K v vertex.0 low vertex.1 ins outs carry give o.at (omega arith) (omega arith)

        later_leaves : own_after j s (n + 1) ≡ kept (nat_lt (o.at + 1) (elements_in j.program ins + elements_in j.program outs)) (own_after j s n)
        later_leaves = same_own (own_after j s (n + 1)) _ (then_computed (omega arith) ∙ ap (λ (r : List ℤ). cond (nat_lt (o.at + 1) M) r []) (sym given_now)) (sym stays.0) (sym stays.1)

      pub call_store : (emit_by j.graph j.sensors
          (on_store v (elements_in j.program ins) (elements_in j.program ins + elements_in j.program outs) o.at)
          (reaction_at (code j.program s) n) (own_after j s n) ≡ element_at (buffer_value j b (reaction_at (code j.program s) n)) c)
          × (own_after j s (n + 1) ≡ after_by j.graph j.sensors
          (on_store v (elements_in j.program ins) (elements_in j.program ins + elements_in j.program outs) o.at)
          (reaction_at (code j.program s) n) (own_after j s n))
      call_store = by (cases_eq o.at 0)
        where
          by : (o.at ≡ 0) ⊎ (o.at ≡ 0 → ⊥)
              → (emit_by j.graph j.sensors (on_store v (elements_in j.program ins)
              (elements_in j.program ins + elements_in j.program outs) o.at) (reaction_at (code j.program s) n) (own_after j s n)
              ≡ element_at (buffer_value j b (reaction_at (code j.program s) n)) c)
              × (own_after j s (n + 1) ≡ after_by j.graph j.sensors
              (on_store v (elements_in j.program ins) (elements_in j.program ins + elements_in j.program outs) o.at)
              (reaction_at (code j.program s) n) (own_after j s n))
          by (inl q) = (rw (eq-eqb o.at 0 q) (first_emits q), rw (eq-eqb o.at 0 q) (first_leaves q))
          by (inr q) = (rw (ne_eqb o.at 0 q) (value A.registers (given_now q) (o.at - N) refl), rw (ne_eqb o.at 0 q) (later_leaves q))
