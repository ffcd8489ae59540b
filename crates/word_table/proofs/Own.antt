-- What a driver's sequences have of their own stays what counts tell.
use Rattle.std.proofs.Common.{
  ◌≡◌,
  ℕ,
  ◌+◌,
  ◌-◌,
  ◌/◌,
  ◌%◌,
  ◌<◌,
  ◌⊎◌,
  inl,
  inr,
  ⊎_elim,
  Bool,
  true,
  false,
  cond,
  List,
  [],
  map,
  length,
  get_or,
  set,
  Option,
  Some,
  None,
  refl,
  sym,
  ap,
  subst,
  arith,
  ◌∙◌,
  ℤ,
  get_or-set_same,
  get_or-set_other,
  length-set,
}
use Rattle.std.specs.Prelude.{slice_get, nat_lt, replicate}
use Rattle.std.proofs.lemmas.List.{length-replicate}
use Rattle.std.proofs.lemmas.Bool.{cases_eq}
use Rattle.std.proofs.lemmas.Option.{same_Some}
use Rattle.executive_program.specs.declared.Vertex.{Vertex}
use Rattle.executive_program.specs.declared.Kind.TheVariants.{Actuator}
use Rattle.executive_program.specs.Sites.{step_at, reaction_at, place_at}
use Rattle.executive_program.specs.System as theory
use Rattle.executive_program.specs.System.{Micro}
use Rattle.executive_program.specs.Sound.{AreValues, IsRightAt}
use Rattle.executive_program.specs.declared.steps.Place.{Place}
use Rattle.executive_program.specs.declared.steps.OnLoad.{OnLoad}
use Rattle.executive_program.specs.declared.steps.OnStore.{OnStore}
use Rattle.executive_program.specs.declared.steps.MicroStep.{MicroStep}
use Rattle.executive_program.specs.declared.steps.MicroStep.TheVariants.{Take, See, Lower, Signal, Await, Advance, Load, Store}
use Rattle.executive_program.specs.MicroSteps.{code}
use Rattle.executive_program.specs.Steps.{steps}
use Rattle.word_rule.specs.Job.{JobData, zero_rows, system}
use Rattle.word_rule.specs.Operation.{delay_of}
use Rattle.word_rule.specs.Registers.{Own, absorb_by, emit_by, after_by, after_at}
use Rattle.word_rule.specs.Core.{Core, full, own, element_of, done_in}
use Rattle.word_rule.specs.Told.{told, own_after, stored_value}
use Rattle.word_rule.specs.Laws.{one_more}
use Rattle.word_rule.specs.Agrees.{IsFormed, IsMatched, Matches, Agrees, caller, row_at, LoadsHere, StoresHere}
use Rattle.word_rule.proofs.AgreeOwn.{IsOwn, absorb_same, emit_same, after_same}
use Rattle.word_rule.proofs.AgreeRuns.{full_same}
use Rattle.word_rule.proofs.AgreeSteps.{AtSame, matched_at, steps_matched}
use Rattle.word_rule.proofs.AgreeTold.{told_agrees}
use Rattle.word_rule.specs.declared.view.Knowledge.{Knowledge}
use Rattle.word_rule.specs.Views.{count_in, raised}
use Rattle.word_rule.specs.Rule.{AreTold}
use Rattle.word_rule.specs.Given.{RunsOnWords}
use Rattle.word_table.specs.Parts.{HasOwn}
use Rattle.word_rule.proofs.Views.{raised-same, raised-other}
use Rattle.word_rule.proofs.Further.{shaped, tells}
use Rattle.syn_base.specs.Vectors.{Values, vector_at}

module _ (j : JobData) where
  -- of the sequences that are driven, what the driver has is what the state has
  pub record IsOwnOf (k : Knowledge) (registers : List (List ℤ)) (cells : Values) (rows : List Values) (z : Core) : Type 0 where
    pub same_registers : (s n : ℕ) → count_in k.driven s ≡ Some n → get_or registers s [] ≡ get_or z.registers s []
    pub same_cells : (s n v d : ℕ) (x : Vertex) → count_in k.driven s ≡ Some n → slice_get j.graph.vertices v ≡ Some x → delay_of j.graph v x ≡ Some d → caller j v ≡ s
        → vector_at cells d ≡ vector_at z.cells d
    pub same_rows : (s n v a i : ℕ) (x : Vertex) → count_in k.driven s ≡ Some n → slice_get j.graph.vertices v ≡ Some x → x.kind ≡ Actuator a → caller j v ≡ s
        → row_at rows i a ≡ row_at z.rows i a

-- a micro-step that neither loads nor stores changes nothing of what its sequence has of its own
abbrev pub IsQuiet : MicroStep → Type 0
IsQuiet (Load x then) = ⊥
IsQuiet (Store x what) = ⊥
IsQuiet _ = Unit {0}

module _ (j : JobData) (f : IsFormed j) (right : AreValues (system j) (stored_value j) (own_after j)) where
  -- On what s calls, and in the registers, the two are the same.
  pub record Alike (s : ℕ) (c o : Own) : Type 0 where
    pub same_registers : c.registers ≡ o.registers
    pub same_cells : (v d : ℕ) (x : Vertex) → slice_get j.graph.vertices v ≡ Some x → delay_of j.graph v x ≡ Some d → caller j v ≡ s → vector_at c.cells d ≡ vector_at o.cells d
    pub same_rows : (v a k : ℕ) (x : Vertex) → slice_get j.graph.vertices v ≡ Some x → x.kind ≡ Actuator a → caller j v ≡ s → row_at c.rows k a ≡ row_at o.rows k a

  alike : (cells : Values) (rows : List Values) (s : ℕ) (c o : Own) → IsOwn j f cells rows s c o → Alike s c o
  alike cells rows s c o i = record { same_registers = i.registers; same_cells = i.cells_same; same_rows = i.rows_same }

  back : (s : ℕ) (c o : Own) → Alike s c o → Alike s o c
  back s c o a = record { same_registers = sym a.same_registers; same_cells = λ v d x e g h. sym (a.same_cells v d x e g h); same_rows = λ v n k x e g h. sym (a.same_rows v n k x e g h) }

  then_too : (s : ℕ) (c o u : Own) → Alike s c o → Alike s o u → Alike s c u
  then_too s c o u a b = record {
    same_registers = a.same_registers ∙ b.same_registers;
    same_cells = λ v d x e g h. a.same_cells v d x e g h ∙ b.same_cells v d x e g h;
    same_rows = λ v n k x e g h. a.same_rows v n k x e g h ∙ b.same_rows v n k x e g h;
  }

  -- reactions are the same in the core's code and in the theory's
  reaction_same : (s n : ℕ) → reaction_at (steps j.program s) n ≡ reaction_at (code j.program s) n
  reaction_same s n = let m = steps_matched j f s in λ i. (n - m.prologues_as_long i) / m.turns_as_long i

  -- the micro-step of the theory
  micro_at : (s n : ℕ) (m : MicroStep) → step_at (steps j.program s) n ≡ Some m → (c : Micro) × (step_at (code j.program s) n ≡ Some c) × Matches j.program j.media s m c
  micro_at s n m e = by (nat_lt n (length (steps j.program s).prologue)) (nat_lt n (length (code j.program s).prologue)) (ap (nat_lt n) q.prologues_as_long) e
    where
      q : IsMatched j.program j.media s
      q = steps_matched j f s

      of : (o : Option MicroStep) (c : Option Micro) → AtSame j.program j.media s o c → o ≡ Some m → (d : Micro) × (c ≡ Some d) × Matches j.program j.media s m d
      of None c h w = absurd cc
      of (Some x) None h w = absurd h
      of (Some x) (Some c) h w = (c, refl, subst (λ (y : MicroStep). Matches j.program j.media s y c) (same_Some x m w) h)

      place : place_at (steps j.program s) n ≡ place_at (code j.program s) n
      place = λ i. (n - q.prologues_as_long i) % q.turns_as_long i

      by : (a b : Bool) → a ≡ b → cond a (slice_get (steps j.program s).prologue n) (slice_get (steps j.program s).turn (place_at (steps j.program s) n)) ≡ Some m
          → (c : Micro) × (cond b (slice_get (code j.program s).prologue n) (slice_get (code j.program s).turn (place_at (code j.program s) n)) ≡ Some c) × Matches j.program j.media s m c
      by true true w e = of _ _ (matched_at j.program j.media s (steps j.program s).prologue (code j.program s).prologue n q.prologues) e
      by false false w e = of _ _ (subst (λ (i : ℕ). AtSame j.program j.media s (slice_get (steps j.program s).turn (place_at (steps j.program s) n)) (slice_get (code j.program s).turn i)) place
          (matched_at j.program j.media s (steps j.program s).turn (code j.program s).turn (place_at (steps j.program s) n) q.turns)) e
      by true false w e = absurd cc
      by false true w e = absurd cc

  -- A micro-step of s in reaction r.
  module _ (s n r : ℕ) (m : MicroStep) (more : n < full j s) (next_step : step_at (steps j.program s) n ≡ Some m) (in_reaction : reaction_at (steps j.program s) n ≡ r) where
    pending : n < theory.full (system j) s
    pending = let e = full_same j f s in omega (arith, more, e)

    abbrev Before : Own
    Before = own_after j s n

    abbrev Behind : Own
    Behind = own_after j s (n + 1)

    found : (c : Micro) × (step_at (code j.program s) n ≡ Some c) × Matches j.program j.media s m c
    found = micro_at s n m next_step

    right_here : IsRightAt (system j) (stored_value j) (own_after j) s n found.0
    right_here = right.right s n found.0 pending found.1

    own_reaction : reaction_at (code j.program s) n ≡ r
    own_reaction = sym (reaction_same s n) ∙ in_reaction

  quiet : (s n r : ℕ) (m : MicroStep) → n < full j s → step_at (steps j.program s) n ≡ Some m → IsQuiet m → own_after j s (n + 1) ≡ own_after j s n
  quiet s n r m more e q = by m q (micro_at s n m e).2
    where
      c : Micro
      c = (micro_at s n m e).0

      h : IsRightAt (system j) (stored_value j) (own_after j) s n c
      h = right.right s n c (let w = full_same j f s in omega (arith, more, w)) (micro_at s n m e).1

      by : (m : MicroStep) → IsQuiet m → Matches j.program j.media s m c → own_after j s (n + 1) ≡ own_after j s n
      by (Take x) q w = subst (λ (d : Micro). IsRightAt (system j) (stored_value j) (own_after j) s n d) w.1 h
      by (See x) q w = subst (λ (d : Micro). IsRightAt (system j) (stored_value j) (own_after j) s n d) w.1 h
      by (Lower x) q w = subst (λ (d : Micro). IsRightAt (system j) (stored_value j) (own_after j) s n d) w.1 h
      by (Signal x) q w = subst (λ (d : Micro). IsRightAt (system j) (stored_value j) (own_after j) s n d) w.1 h
      by (Await m i k exact) q w = subst (λ (d : Micro). IsRightAt (system j) (stored_value j) (own_after j) s n d) w.2 h
      by (Advance m) q w = subst (λ (d : Micro). IsRightAt (system j) (stored_value j) (own_after j) s n d) w.2 h
      by (Load x then) q w = absurd q
      by (Store x what) q w = absurd q

  -- a store
  stored_behind : (s n r : ℕ) (x : Place) (what : OnStore) → n < full j s → step_at (steps j.program s) n ≡ Some (Store x what) → reaction_at (steps j.program s) n ≡ r
      → own_after j s (n + 1) ≡ after_by j.graph j.sensors what r (own_after j s n)
  stored_behind s n r x what more e q = h.1 ∙ (λ i. after_at j.graph j.sensors (e i) ((sym (reaction_same s n) ∙ q) i) (own_after j s n))
    where
      c : Micro
      c = (micro_at s n (Store x what) e).0

      w : Matches j.program j.media s (Store x what) c
      w = (micro_at s n (Store x what) e).2

      h : IsRightAt (system j) (stored_value j) (own_after j) s n (theory.store w.1 w.2)
      h = subst (λ (d : Micro). IsRightAt (system j) (stored_value j) (own_after j) s n d) w.4 (right.right s n c (let v = full_same j f s in omega (arith, more, v)) (micro_at s n (Store x what) e).1)

  pub stores_here : (s n : ℕ) (x : Place) (what : OnStore) → step_at (steps j.program s) n ≡ Some (Store x what) → StoresHere j.program j.media s what
  stores_here s n x what e = (micro_at s n (Store x what) e).2.0

  pub loads_here : (s n : ℕ) (x : Place) (then : OnLoad) → step_at (steps j.program s) n ≡ Some (Load x then) → LoadsHere j.program j.media s then
  loads_here s n x then e = (micro_at s n (Load x then) e).2.0

  -- what a sequence has of its own in the state that counts tell
  module _ (counts : List ℕ) (long : length counts ≡ length j.program.seqs) (s n : ℕ) (here : s < length j.program.seqs) (counted : get_or counts s 0 ≡ n) where
    abbrev Z : Core
    Z = told j counts

    agrees : Agrees j Z (theory.told (system j) (stored_value j) (own_after j) (λ t. get_or counts t 0))
    agrees = told_agrees j f counts long

    told_own : IsOwn j f Z.cells Z.rows s (own j Z s) (own_after j s n)
    told_own = subst (λ (i : ℕ). IsOwn j f Z.cells Z.rows s (own j Z s) (own_after j s i)) counted record {
      registers = agrees.registers s here;
      cells_there = agrees.cells_there;
      rows_there = agrees.rows_there;
      own_cells_there = agrees.own_cells_there s;
      own_rows_there = agrees.own_rows_there s;
      cells_same = λ v d x is e h. agrees.cells v d x is e ∙ ap (λ (t : ℕ). vector_at (own_after j t (get_or counts t 0)).cells d) h;
      cells_kept = λ v d x is e h. refl;
      rows_same = λ v a k x is e h. agrees.rows v a k x is e ∙ ap (λ (t : ℕ). row_at (own_after j t (get_or counts t 0)).rows k a) h;
      rows_kept = λ v a k x is e h. refl;
    }

  -- what s has of its own after a load, in the state that counts tell
  module _ (g : RunsOnWords j) (counts : List ℕ) (c : AreTold j counts) (s n r : ℕ) (x : Place) (then : OnLoad) (here : s < length j.program.seqs) (more : n < full j s)
      (e : step_at (steps j.program s) n ≡ Some (Load x then)) (q : reaction_at (steps j.program s) n ≡ r) (counted : get_or counts s 0 ≡ n) where
    abbrev Told : Core
    Told = told j counts

    abbrev pub Loaded : Own
    Loaded = absorb_by j.graph j.sensors then r (own j Told s) (element_of j Told x r)

    moved : told j (one_more j counts s) ≡ done_in j Told s r (Load x then)
    moved = tells j g counts c s n r (Load x then) counted here more e q refl

    inside : s < length counts
    inside = let a = (shaped j g counts c).counts in omega (arith, a, here)

    longer : length (one_more j counts s) ≡ length j.program.seqs
    longer = length-set counts s (get_or counts s 0 + 1) ∙ (shaped j g counts c).counts

    counted_more : get_or (one_more j counts s) s 0 ≡ n + 1
    counted_more = get_or-set_same {A = ℕ} counts s (get_or counts s 0 + 1) 0 inside ∙ ap (λ (i : ℕ). i + 1) counted

    told_behind : Alike s (own j (told j (one_more j counts s)) s) (own_after j s (n + 1))
    told_behind = let z = told j (one_more j counts s) in alike z.cells z.rows s (own j z s) (own_after j s (n + 1)) (told_own (one_more j counts s) longer s (n + 1) here counted_more)

    registers_there : s < length Told.registers
    registers_there = let a = (agrees counts (shaped j g counts c).counts s n here counted).registers_there in omega (arith, a, here)

    loaded_registers : get_or (set Told.registers s Loaded.registers) s [] ≡ Loaded.registers
    loaded_registers = get_or-set_same Told.registers s Loaded.registers [] registers_there

    loaded_behind : Alike s Loaded (own_after j s (n + 1))
    loaded_behind = let a = subst (λ (z : Core). Alike s (own j z s) (own_after j s (n + 1))) moved told_behind in
        record { same_registers = sym loaded_registers ∙ a.same_registers; same_cells = a.same_cells; same_rows = a.same_rows }

  -- the lengths of what a sequence has of its own
  own_lengths : (s n : ℕ) → s < length j.program.seqs → (length (own_after j s n).cells ≡ length j.opening) × (map length (own_after j s n).rows ≡ map length (zero_rows j))
  own_lengths s n here = let cs : List ℕ = set (replicate (length j.program.seqs) 0) s n in
      let r : length (replicate {A = ℕ} (length j.program.seqs) 0) ≡ length j.program.seqs = length-replicate (length j.program.seqs) 0 in
      let l : length cs ≡ length j.program.seqs = length-set (replicate (length j.program.seqs) 0) s n ∙ r in
      let i : get_or cs s 0 ≡ n = get_or-set_same {A = ℕ} (replicate (length j.program.seqs) 0) s n 0 (omega (arith, r, here)) in
      let o = told_own cs l s n here i in (o.own_cells_there, o.own_rows_there)

  -- The part of a driver that is private.
  module _ (k : Knowledge) (regs : List (List ℤ)) (cells : Values) (rows : List Values) (h : HasOwn j k regs cells rows) (s n : ℕ)
      (mine : count_in k.driven s ≡ Some n) (here : s < length j.program.seqs) where
    abbrev pub Mine : Own
    Mine = record { registers = get_or regs s []; cells = cells; rows = rows }

    driver_own : IsOwn j f cells rows s Mine (own_after j s n)
    driver_own = let o = own_lengths s n here in record {
      registers = h.own_registers s n mine;
      cells_there = h.cells_there;
      rows_there = h.rows_there;
      own_cells_there = o.0;
      own_rows_there = o.1;
      cells_same = λ v d x is e q. h.own_cells s n v d x mine is e q;
      cells_kept = λ v d x is e q. refl;
      rows_same = λ v a i x is e q. h.own_rows s n v a i x mine is e q;
      rows_kept = λ v a i x is e q. refl;
    }

    module _ (l : Knowledge) (driven : l.driven ≡ raised k.driven s) where
      -- which sequence it is, and its count
      which : (t m : ℕ) → count_in l.driven t ≡ Some m → ((t ≡ s) × (m ≡ n + 1)) ⊎ ((t ≡ s → ⊥) × (count_in k.driven t ≡ Some m))
      which t m e = let c : count_in (raised k.driven s) t ≡ Some m = subst (λ xs. count_in xs t ≡ Some m) driven e in ⊎_elim
          (λ q. inl (q, same_Some m (n + 1) (sym c ∙ ap (count_in (raised k.driven s)) q ∙ raised-same k.driven s n mine)))
          (λ q. inr (q, sym (raised-other k.driven s t q) ∙ c)) (cases_eq t s)

      pub kept_own : (c o : Own) → s < length regs → IsOwn j f cells rows s c o → Alike s o (own_after j s (n + 1)) → HasOwn j l (set regs s c.registers) c.cells c.rows
      kept_own c o inside i a = record {
        cells_there = i.cells_there;
        rows_there = i.rows_there;
        own_registers = λ t m e. ⊎_elim
            (λ q. (λ w. get_or (set regs s c.registers) (q.0 w) []) ∙ get_or-set_same regs s c.registers [] inside ∙ i.registers
            ∙ a.same_registers ∙ sym (λ w. (own_after j (q.0 w) (q.1 w)).registers))
            (λ q. get_or-set_other regs s t c.registers [] q.0 ∙ h.own_registers t m q.1) (which t m e);
        own_cells = λ t m v d x e is g w. ⊎_elim
            (λ q. i.cells_same v d x is g (w ∙ q.0) ∙ a.same_cells v d x is g (w ∙ q.0) ∙ sym (λ y. vector_at (own_after j (q.0 y) (q.1 y)).cells d))
            (λ q. i.cells_kept v d x is g (λ y. q.0 (sym w ∙ y)) ∙ h.own_cells t m v d x q.1 is g w) (which t m e);
        own_rows = λ t m v b p x e is g w. ⊎_elim
            (λ q. i.rows_same v b p x is g (w ∙ q.0) ∙ a.same_rows v b p x is g (w ∙ q.0) ∙ sym (λ y. row_at (own_after j (q.0 y) (q.1 y)).rows p b))
            (λ q. i.rows_kept v b p x is g (λ y. q.0 (sym w ∙ y)) ∙ h.own_rows t m v b p x q.1 is g w) (which t m e);
      }

      pub quiet_own : own_after j s (n + 1) ≡ own_after j s n → HasOwn j l regs cells rows
      quiet_own e = record {
        cells_there = h.cells_there;
        rows_there = h.rows_there;
        own_registers = λ t m c. ⊎_elim
            (λ q. (λ w. get_or regs (q.0 w) []) ∙ h.own_registers s n mine ∙ ap (λ (o : Own). o.registers) (sym e) ∙ sym (λ w. (own_after j (q.0 w) (q.1 w)).registers))
            (λ q. h.own_registers t m q.1) (which t m c);
        own_cells = λ t m v d x c is g w. ⊎_elim
            (λ q. h.own_cells s n v d x mine is g (w ∙ q.0) ∙ ap (λ (o : Own). vector_at o.cells d) (sym e) ∙ sym (λ y. vector_at (own_after j (q.0 y) (q.1 y)).cells d))
            (λ q. h.own_cells t m v d x q.1 is g w) (which t m c);
        own_rows = λ t m v b p x c is g w. ⊎_elim
            (λ q. h.own_rows s n v b p x mine is g (w ∙ q.0) ∙ ap (λ (o : Own). row_at o.rows p b) (sym e) ∙ sym (λ y. row_at (own_after j (q.0 y) (q.1 y)).rows p b))
            (λ q. h.own_rows t m v b p x q.1 is g w) (which t m c);
      }

  -- Every counts that agree tell what the driver has.
  pub told_is : (k : Knowledge) (regs : List (List ℤ)) (cells : Values) (rows : List Values) → ((s n : ℕ) → count_in k.driven s ≡ Some n → s < length j.program.seqs) → HasOwn j k regs cells rows
      → (counts : List ℕ) → length counts ≡ length j.program.seqs → ((s n : ℕ) → count_in k.driven s ≡ Some n → get_or counts s 0 ≡ n) → IsOwnOf j k regs cells rows (told j counts)
  told_is k regs cells rows there h counts long agree = record {
    same_registers = λ s n e. (driver_own k regs cells rows h s n e (there s n e)).registers ∙ sym (told_own counts long s n (there s n e) (agree s n e)).registers;
    same_cells = λ s n v d x e is g w. (driver_own k regs cells rows h s n e (there s n e)).cells_same v d x is g w
        ∙ sym ((told_own counts long s n (there s n e) (agree s n e)).cells_same v d x is g w);
    same_rows = λ s n v a i x e is g w. (driver_own k regs cells rows h s n e (there s n e)).rows_same v a i x is g w
        ∙ sym ((told_own counts long s n (there s n e) (agree s n e)).rows_same v a i x is g w);
  }

  -- The three ways in which a micro-step leaves what the driver has.
  module _ (k : Knowledge) (regs : List (List ℤ)) (cells : Values) (rows : List Values) (h : HasOwn j k regs cells rows) (s n r : ℕ)
      (mine : count_in k.driven s ≡ Some n) (here : s < length j.program.seqs)
      (more : n < full j s) (in_reaction : reaction_at (steps j.program s) n ≡ r) (l : Knowledge) (driven : l.driven ≡ raised k.driven s) where
    abbrev pub Own_now : Own
    Own_now = record { registers = get_or regs s []; cells = cells; rows = rows }

    pub after_quiet : (m : MicroStep) → step_at (steps j.program s) n ≡ Some m → IsQuiet m → HasOwn j l regs cells rows
    after_quiet m e q = quiet_own k regs cells rows h s n mine here l driven (quiet s n r m more e q)

    -- where the value is the one that was found
    pub after_load : (g : RunsOnWords j) (counts : List ℕ) → AreTold j counts → get_or counts s 0 ≡ n → (x : Place) (then : OnLoad)
        → step_at (steps j.program s) n ≡ Some (Load x then) → s < length regs
        → (v : ℤ) → element_of j (told j counts) x r ≡ v
        → HasOwn j l (set regs s (absorb_by j.graph j.sensors then r Own_now v).registers) (absorb_by j.graph j.sensors then r Own_now v).cells (absorb_by j.graph j.sensors then r Own_now v).rows
    after_load g counts c counted x then e inside v value =
        subst (λ (w : ℤ). HasOwn j l (set regs s (absorb_by j.graph j.sensors then r Own_now w).registers)
        (absorb_by j.graph j.sensors then r Own_now w).cells (absorb_by j.graph j.sensors then r Own_now w).rows) value
        (kept_own k regs cells rows h s n mine here l driven (absorb_by j.graph j.sensors then r Own_now el) (absorb_by j.graph j.sensors then r (own_after j s n) el) inside
        (absorb_same j f cells rows s then r Own_now (own_after j s n) el there (driver_own k regs cells rows h s n mine here))
        (then_too s (absorb_by j.graph j.sensors then r (own_after j s n) el) (Loaded g counts c s n r x then here more e in_reaction counted) (own_after j s (n + 1))
        (back s (Loaded g counts c s n r x then here more e in_reaction counted) (absorb_by j.graph j.sensors then r (own_after j s n) el)
        (alike z.cells z.rows s (Loaded g counts c s n r x then here more e in_reaction counted) (absorb_by j.graph j.sensors then r (own_after j s n) el)
        (absorb_same j f z.cells z.rows s then r (own j z s) (own_after j s n) el there (told_own counts (shaped j g counts c).counts s n here counted))))
        (loaded_behind g counts c s n r x then here more e in_reaction counted)))
      where
        z : Core
        z = told j counts

        el : ℤ
        el = element_of j (told j counts) x r

        there : LoadsHere j.program j.media s then
        there = loads_here s n x then e

    pub after_store : (x : Place) (what : OnStore) → step_at (steps j.program s) n ≡ Some (Store x what) → s < length regs
        → HasOwn j l (set regs s (after_by j.graph j.sensors what r Own_now).registers) (after_by j.graph j.sensors what r Own_now).cells (after_by j.graph j.sensors what r Own_now).rows
    after_store x what e inside = kept_own k regs cells rows h s n mine here l driven (after_by j.graph j.sensors what r Own_now) (after_by j.graph j.sensors what r (own_after j s n)) inside
        (after_same j f cells rows s what r Own_now (own_after j s n) (stores_here s n x what e) (driver_own k regs cells rows h s n mine here))
        (subst (Alike s (after_by j.graph j.sensors what r (own_after j s n))) (sym (stored_behind s n r x what more e in_reaction))
        (record { same_registers = refl; same_cells = λ v d y is g w. refl; same_rows = λ v a i y is g w. refl }))

    -- what is stored
    pub emits : (x : Place) (what : OnStore) → step_at (steps j.program s) n ≡ Some (Store x what) → (counts : List ℕ) → length counts ≡ length j.program.seqs → get_or counts s 0 ≡ n
        → emit_by j.graph j.sensors what r (own j (told j counts) s) ≡ emit_by j.graph j.sensors what r Own_now
    emits x what e counts long counted = let z : Core = told j counts in
        emit_same j f z.cells z.rows s what r (own j z s) (own_after j s n) (stores_here s n x what e) (told_own counts long s n here counted)
        ∙ sym (emit_same j f cells rows s what r Own_now (own_after j s n) (stores_here s n x what e) (driver_own k regs cells rows h s n mine here))
