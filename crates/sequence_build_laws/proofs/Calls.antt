-- Calls of the built program: each operation is called once, on what carries its sources, into what carries its outputs.
use Rattle.std.proofs.Common.{◌≡◌, ℕ, zero, suc, ◌+◌, ◌<◌, Bool, true, false, ◌&&◌, ℤ, List, [], ◌∷◌, ◌++◌, length, map, take, Option, Some, None, refl, sym, ap, subst, inl, arith, ◌∙◌, eq-eqb}
use Rattle.std.specs.Prelude.{slice_get, slice_index_or, nat_lt}
use Rattle.std.specs.List.{list_any}
use Rattle.std.proofs.lemmas.Bool.{false≢true, and_parts, eqb-true}
use Rattle.std.proofs.lemmas.Option.{same_Some, slice_get_within, get_or_from_slice_get}
use Rattle.schedule.specs.declared.Source.{Source}
use Rattle.schedule.specs.declared.Vertex.{Vertex}
use Rattle.schedule.specs.declared.Kind.{Kind}
use Rattle.schedule.specs.declared.Kind.TheVariants.{Sensor, Actuator, Function, Constant, Get, Set, Explode, Implode, Merge}
use Rattle.schedule.specs.Graph.{Graph, with_vertex, len_of}
use Rattle.schedule.specs.FlatValid.{is_flat, all_from, is_vertex, has_twin, has_set_half, is_set_half_of, is_set_half_by, is_number}
use Rattle.schedule.specs.Archi.{Architecture, is_archi}
use Rattle.schedule.specs.declared.decision.Decision.{Decision}
use Rattle.schedule.specs.declared.decision.Schedule.{Schedule}
use Rattle.schedule.specs.Acts.{Act, carry, run, acts, is_on, runs, Copy, copy, outputs_from, outputs_of, sources_of, read_by, made_by}
use Rattle.schedule.specs.Valid.{is_valid, follows_get}
use Rattle.executive_program.specs.declared.program.Instr.{Instr}
use Rattle.executive_program.specs.declared.program.Instr.TheVariants.{Call, Sync}
use Rattle.executive_program.specs.declared.program.Program.{Program}
use Rattle.executive_program.specs.Instructions.{medium}
use Rattle.executive_program.specs.Instructions as core
use Rattle.executive_program.specs.Places.{Places, places, calls, calling, ins_in, outs_in, carried}
use Rattle.executive_program.specs.WellFormed.{Stands, IsCalled, CarryInOrder, CarryOutputs, HasLength, len_is}
use Rattle.executive_program.proofs.Passing.{call_is}
use Rattle.executive_program.proofs.Reading.{any_of}
use Rattle.sequence_build_laws.specs.Serial.{Step, step, steps_of, buffer_for, copies}
use Rattle.sequence_build_laws.specs.Built.{program_with}
use Rattle.sequence_build_laws.proofs.Lists.{starts, starts_rise, get_take, map_at}
use Rattle.sequence_build_laws.proofs.Loops.{first_of_all}
use Rattle.sequence_build_laws.proofs.Lines as lines
use Rattle.sequence_build_laws.proofs.Setting.{Setting, order, Here, here, Core, core_of, placed, same_here, earlier_here}
use Rattle.sequence_build_laws.proofs.Works as works
use Rattle.sequence_build_laws.proofs.Works.{of_run, one_run, output_of, read_buffer, made_buffer, read_made, origin}
use Rattle.sequence_build_laws.proofs.Steps as steps
use Rattle.sequence_build_laws.proofs.Steps.{of_step, step_at, at_there}
use Rattle.sequence_build_laws.proofs.Comms.{S, medium_of}
use Rattle.sequence_build_laws.proofs.Transfers.{carries_source}

-- a valid graph: what is said of a vertex and of the set half of a delay
all_from_at : (test : ℕ → Vertex → Bool) (n k i : ℕ) (xs : List Vertex) (x : Vertex) → all_from test n xs ≡ true → slice_get xs i ≡ Some x → k ≡ n + i → test k x ≡ true
all_from_at test n k i [] x h e z = absurd cc
all_from_at test n k zero (y ∷ xs) x h e z = let w : n ≡ k = omega arith in let same = same_Some y x e in
    (λ j. test (sym w j) (sym same j)) ∙ (and_parts (test n y) (all_from test (n + 1) xs) h).0
all_from_at test n k (suc i) (y ∷ xs) x h e z = all_from_at test (n + 1) k i xs x (and_parts (test n y) (all_from test (n + 1) xs) h).1 e (omega arith)

record SetHalf (g : Graph) (v u : ℕ) : Type 0 where
  it : Vertex
  there : slice_get g.vertices u ≡ Some it
  is_set : it.kind ≡ Set
  twin : it.twin ≡ Some v

names_is : (o : Option ℕ) (v : ℕ) → is_number o v ≡ true → o ≡ Some v
names_is None v h = absurd (false≢true h)
names_is (Some u) v h = ap (λ (n : ℕ). Some n) (eqb-true u v h)

set_half_by : (vertices : List Vertex) (v len : ℕ) (y : Vertex) (k : Kind) → is_set_half_by vertices v len y k ≡ true → (k ≡ Set) × (y.twin ≡ Some v)
set_half_by vertices v len y Set h = (refl, names_is y.twin v (and_parts (is_number y.twin v) _ h).0)
set_half_by vertices v len y (Sensor i) h = absurd (false≢true h)
set_half_by vertices v len y (Actuator i) h = absurd (false≢true h)
set_half_by vertices v len y (Function i) h = absurd (false≢true h)
set_half_by vertices v len y (Constant i) h = absurd (false≢true h)
set_half_by vertices v len y (Get i) h = absurd (false≢true h)
set_half_by vertices v len y Explode h = absurd (false≢true h)
set_half_by vertices v len y Implode h = absurd (false≢true h)
set_half_by vertices v len y (Merge i) h = absurd (false≢true h)

set_half : (g : Graph) → is_flat g ≡ true → (v u : ℕ) (x : Vertex) (z : List ℤ) → slice_get g.vertices v ≡ Some x → x.kind ≡ Get z → x.twin ≡ Some u → SetHalf g v u
set_half g flat v u x z e k t =
    let acyclic = and_parts _ _ flat in
    let actuators = and_parts _ _ acyclic.0 in
    let sensors = and_parts _ _ actuators.0 in
    let each = (and_parts _ (all_from (is_vertex g) 0 g.vertices) sensors.0).1 in
    let right = all_from_at (is_vertex g) 0 v v g.vertices x each e (omega arith) in
    let twin = (and_parts _ (has_twin g.vertices v x.kind x.twin) right).1 in
    let here : has_set_half g.vertices v (length z) (Some u) ≡ true = (λ i. has_twin g.vertices v (sym k i) (sym t i)) ∙ twin in
    let parts = and_parts (nat_lt v u) (with_vertex (slice_get g.vertices u) false (is_set_half_of g.vertices v (length z))) here in
    by (slice_get g.vertices u) refl parts.1
  where
    by : (o : Option Vertex) → slice_get g.vertices u ≡ o → with_vertex o false (is_set_half_of g.vertices v (length z)) ≡ true → SetHalf g v u
    by None f h = absurd (false≢true h)
    by (Some y) f h = let r = set_half_by g.vertices v (length z) y y.kind h in record { it = y; there = f; is_set = r.0; twin = r.1 }

-- lists of buffers
module _ (p : Program) (is_number : List ℕ) (w : Places) (carried : ℕ → Source) (g : Graph) (buffer : Copy → ℕ) (o : ℕ) where
  carry_all : (xs : List Source) →
      ((k : ℕ) (x : Source) → slice_get xs k ≡ Some x → (buffer (copy o x) < length p.buffers) × (carried (buffer (copy o x)) ≡ x)
      × HasLength p is_number w carried g x (core.len_of p (buffer (copy o x))))
      → CarryInOrder p is_number w carried g (map buffer (map (copy o) xs)) xs
  carry_all [] h = tt
  carry_all (x ∷ xs) h = let z = h 0 x refl in (z.0, z.1, z.2, carry_all xs (λ k y e. h (suc k) y e))

  gives_all : (v port : ℕ) (ns : List ℕ)
      → ((k n : ℕ) (x : Source) → slice_get ns k ≡ Some n → slice_get (outputs_from v port ns) k ≡ Some x → (carried (buffer (copy o x)) ≡ x) × len_is p (slice_get p.buffers (buffer (copy o x))) n)
      → CarryOutputs p is_number w carried g v port (map buffer (map (copy o) (outputs_from v port ns))) ns
  gives_all v port [] h = tt
  gives_all v port (n ∷ ns) h = let z = h 0 n _ refl refl in (z.0, z.1, gives_all v (port + 1) ns (λ k m x e f. h (suc k) m x e f))

has_length : (p : Program) (is_number : List ℕ) (w : Places) (carried : ℕ → Source) (g : Graph) (x : Source) (n : ℕ) (y : Vertex)
    → slice_get g.vertices x.vertex ≡ Some y → slice_get y.outs x.port ≡ Some n → HasLength p is_number w carried g x n
has_length p is_number w carried g x n y e h = rw e h

module _ (g : Graph) (a : Architecture) (ticks : ℕ → ℕ → Option ℕ) (s : Schedule) (flat : is_flat g ≡ true)
    (right : is_archi a.operators a.media ≡ true) (valid : is_valid g a ticks s ≡ true) (depth : ℕ) where
  abbrev It : Setting
  It = S g a ticks s right valid depth

  abbrev prog : Program
  prog = program_with depth g a s

  -- a call of a loop is the run of its operation
  pub record OfCall (u at v : ℕ) (ins outs : List ℕ) : Type 0 where
    pub entry : Here It u at (Call v ins outs)
    pub core_it : Core It u at (Call v ins outs) entry
    pub number : ℕ
    pub it : Decision
    pub act : slice_get (acts s) number ≡ Some (run it)
    pub is : step u (Call v ins outs) ≡ steps.calling g a s it
    pub block : entry.block_number ≡ starts (steps_of g a s) (acts s) number + 0

  kind_call : (act : Act) (j u v : ℕ) (ins outs : List ℕ) → steps.Kind g a s act j (step u (Call v ins outs)) → (d : Decision)
      × (act ≡ run d) × (j ≡ 0) × (step u (Call v ins outs) ≡ steps.calling g a s d)
  kind_call act j u v ins outs (steps.calls d y k) = (d, refl, refl, k)
  kind_call act j u v ins outs (steps.sends t y k) = let w : Call v ins outs ≡ (steps.sending g a s t).instr = ap (λ (y : Step). y.instr) k in absurd cc
  kind_call act j u v ins outs (steps.receives t y k) = let w : Call v ins outs ≡ (steps.receiving g a s t).instr = ap (λ (y : Step). y.instr) k in absurd cc
  kind_call act j u v ins outs (steps.waits t i q r y d f k) = let w : Call v ins outs ≡ Sync t.from t.to = ap (λ (y : Step). y.instr) k in absurd cc

  pub of_call : (u at v : ℕ) (ins outs : List ℕ) → Stands prog u at (Call v ins outs) → OfCall u at v ins outs
  of_call u at v ins outs e =
      let h = here It u at (Call v ins outs) e in
      let c = core_of It u at (Call v ins outs) h refl in
      let o = of_step g a s h.block_number (step u (Call v ins outs)) c.stands in
      let k = kind_call o.act o.inner u v ins outs o.kind in
      record { entry = h; core_it = c; number = o.at; it = k.0; act = o.is_act ∙ ap (λ (x : Act). Some x) k.1; is = k.3; block = o.is ∙ ap (λ (j : ℕ). starts (steps_of g a s) (acts s) o.at + j) k.2 }

  pub called_op : (u at v : ℕ) (ins outs : List ℕ) (c : OfCall u at v ins outs) → v ≡ c.it.op
  called_op u at v ins outs c = let z : Call v ins outs ≡ (steps.calling g a s c.it).instr = ap (λ (y : Step). y.instr) c.is in cc

  -- two calls of one operation stand at one place
  one_call : (u at w b v : ℕ) (ins outs jns juts : List ℕ) (c : OfCall u at v ins outs) (d : OfCall w b v jns juts) → (u ≡ w) × (at ≡ b)
  one_call u at w b v ins outs jns juts c d =
      let same = one_run g a ticks s valid c.number d.number c.it d.it c.act d.act (sym (called_op u at v ins outs c) ∙ called_op w b v jns juts d) in
      let block : c.entry.block_number ≡ d.entry.block_number = c.block ∙ ap (λ (i : ℕ). starts (steps_of g a s) (acts s) i + 0) same ∙ sym d.block in
      let it = lines.same_block It.pairs It.plain It.program It.prologues It.seqs It.codes_are It.low u at w b (Call v ins outs) (Call v jns juts) c.entry d.entry block in
      same_here It u at w b (Call v ins outs) (Call v jns juts) c.entry d.entry block (c.core_it.inner ∙ ap (λ (z : _). lines.middle It.pairs z) it ∙ sym d.core_it.inner)

  -- the call of an operation, where it is looked for
  record Called (v : ℕ) : Type 0 where
    stands : Stands prog (calling prog v).sequence (calling prog v).at (Call v (calling prog v).ins (calling prog v).outs)
    of : OfCall (calling prog v).sequence (calling prog v).at v (calling prog v).ins (calling prog v).outs

  called : (v : ℕ) → v < length g.vertices → Called v
  called v h =
      let r = works.placed g a ticks s valid v h in
      let z = placed It (starts (steps_of g a s) (acts s) r.0 + 0) (steps.calling g a s r.1) (step_at g a s r.0 0 (run r.1) (steps.calling g a s r.1) r.2 refl) in
      let f = first_of_all prog (calls v) (steps.calling g a s r.1).sequence z.at (steps.calling g a s r.1).instr z.stands (eq-eqb r.1.op v r.3) in
      let st : Stands prog (calling prog v).sequence (calling prog v).at (Call v (calling prog v).ins (calling prog v).outs)
      = f.stands ∙ ap (λ (x : Instr). Some x) (call_is v f.it f.passes) ∙ (λ i. Some (Call v (ins_in (sym f.stands i)) (outs_in (sym f.stands i)))) in
      record { stands = st; of = of_call (calling prog v).sequence (calling prog v).at v (calling prog v).ins (calling prog v).outs st }

  buffer_low : (b : ℕ) (c : Copy) → slice_get (copies g a s) b ≡ Some c → b < length prog.buffers
  buffer_low b c e = let l = slice_get_within (copies g a s) b c e in let z = It.buffers_many in omega arith

  len_at : (b : ℕ) (c : Copy) → slice_get (copies g a s) b ≡ Some c → core.len_of prog b ≡ len_of g.vertices c.source
  len_at b c e = ap core.len_in (It.buffers_are b c e)

  -- the length of an output, by its vertex
  output_len : (x : Source) (y : Vertex) (n : ℕ) → slice_get g.vertices x.vertex ≡ Some y → slice_get y.outs x.port ≡ Some n → len_of g.vertices x ≡ n
  output_len x y n e h = ap (λ (o : Option Vertex). with_vertex o 0 (λ z. slice_index_or z.outs x.port 0)) e ∙ get_or_from_slice_get y.outs x.port n 0 h

  pub is_called : (v : ℕ) (x : Vertex) → slice_get g.vertices v ≡ Some x → IsCalled prog (order (S g a ticks s right valid depth)) (places prog) (carried prog) g v x
  is_called v x e =
      let c = called v (slice_get_within g.vertices v x e) in
      let op : v ≡ c.of.it.op = called_op (calling prog v).sequence (calling prog v).at v (calling prog v).ins (calling prog v).outs c.of in
      let instr : Call v (calling prog v).ins (calling prog v).outs ≡ (steps.calling g a s c.of.it).instr = ap (λ (y : Step). y.instr) c.of.is in
      let there : slice_get g.vertices c.of.it.op ≡ Some x = ap (slice_get g.vertices) (sym op) ∙ e in
      record {
        stands = c.stands;
        only = λ u at ins outs st. one_call u at (calling prog v).sequence (calling prog v).at v ins outs (calling prog v).ins (calling prog v).outs (of_call u at v ins outs st) c.of;
        computes = ap (medium prog) (ap (λ (y : Step). y.sequence) c.of.is)
            ∙ medium_of g a ticks s right valid depth (steps.calling g a s c.of.it).sequence _ (at_there g a ticks s right valid c.of.number c.of.it c.of.act);
        takes = subst (λ (l : List ℕ). CarryInOrder prog (order (S g a ticks s right valid depth)) (places prog) (carried prog) g l (map (λ d. d.source) x.guards ++ x.ins))
            (sym (ap (λ (z : Instr). ins_in (Some z)) instr ∙ ap (λ (o : Option Vertex). map (buffer_for g a s) (map (copy c.of.it.operator) (sources_of o))) there))
            (carry_all prog (order (S g a ticks s right valid depth)) (places prog) (carried prog) g (buffer_for g a s) c.of.it.operator
            (map (λ d. d.source) x.guards ++ x.ins) (takes c.of.number c.of.it c.of.act there));
        gives = subst (λ (l : List ℕ). CarryOutputs prog (order (S g a ticks s right valid depth)) (places prog) (carried prog) g v 0 l x.outs)
            (sym (ap (λ (z : Instr). outs_in (Some z)) instr ∙ (λ i. map (buffer_for g a s) (map (copy c.of.it.operator) (outputs_of (sym op i) (there i))))))
            (gives_all prog (order (S g a ticks s right valid depth)) (places prog) (carried prog) g (buffer_for g a s) c.of.it.operator v 0 x.outs (gives c.of.number c.of.it c.of.act op there));
        twins = λ z u k t. twins z u k t c;
      }
    where
      takes : (i : ℕ) (d : Decision) → slice_get (acts s) i ≡ Some (run d) → slice_get g.vertices d.op ≡ Some x → (k : ℕ) (y : Source) → slice_get (map (λ d. d.source) x.guards ++ x.ins) k ≡ Some y
          → (buffer_for g a s (copy d.operator y) < length prog.buffers) × (carried prog (buffer_for g a s (copy d.operator y)) ≡ y)
          × HasLength prog (order (S g a ticks s right valid depth)) (places prog) (carried prog) g y (core.len_of prog (buffer_for g a s (copy d.operator y)))
      takes i d ia there k y h =
          let c = copy d.operator y in
          let read : slice_get (read_by g.vertices (run d)) k
          ≡ Some (copy d.operator y) = map_at (copy d.operator) (sources_of (slice_get g.vertices d.op)) k y
          (ap (λ (o : Option Vertex). slice_get (sources_of o) k) there ∙ h) in
          let b = read_buffer g a ticks s valid i k (run d) (copy d.operator y) ia read in
          let m = read_made g a ticks s valid i k (run d) (copy d.operator y) ia read in
          let o = origin g a ticks s valid m.at m.inner m.act (copy d.operator y) m.stands m.made in
          let r = output_of o.it.op (slice_get g.vertices o.it.op) o.output y o.is in
          let vertex : slice_get g.vertices y.vertex ≡ Some r.2 = ap (slice_get g.vertices) r.0 ∙ r.3 in
          let out : slice_get r.2.outs y.port ≡ Some r.4 = ap (slice_get r.2.outs) r.1 ∙ r.5 in (
            buffer_low (buffer_for g a s (copy d.operator y)) (copy d.operator y) b,
            carries_source g a ticks s right valid depth (buffer_for g a s (copy d.operator y)) (copy d.operator y) b,
            subst (λ (n : ℕ). HasLength prog (order (S g a ticks s right valid depth)) (places prog) (carried prog) g y n)
                (sym (len_at (buffer_for g a s (copy d.operator y)) (copy d.operator y) b ∙ output_len y r.2 r.4 vertex out))
                (has_length prog (order (S g a ticks s right valid depth)) (places prog) (carried prog) g y r.4 r.2 vertex out),
          )

      gives : (i : ℕ) (d : Decision) → slice_get (acts s) i ≡ Some (run d) → v ≡ d.op → slice_get g.vertices d.op ≡ Some x
          → (k n : ℕ) (y : Source) → slice_get x.outs k ≡ Some n → slice_get (outputs_from v 0 x.outs) k ≡ Some y
          → (carried prog (buffer_for g a s (copy d.operator y)) ≡ y) × len_is prog (slice_get prog.buffers (buffer_for g a s (copy d.operator y))) n
      gives i d ia op there k n y h f =
          let made : slice_get (made_by g.vertices (run d)) k ≡ Some (copy d.operator y)
          = map_at (copy d.operator) (outputs_of d.op (slice_get g.vertices d.op)) k y ((λ j. slice_get (outputs_of (sym op j) (there j)) k) ∙ f) in
          let b = made_buffer g a ticks s valid i k (run d) (copy d.operator y) ia made in
          let r = output_of v (Some x) k y f in
          let vertex : slice_get g.vertices y.vertex ≡ Some x = ap (slice_get g.vertices) r.0 ∙ e in
          let out : slice_get x.outs y.port ≡ Some n = ap (slice_get x.outs) r.1 ∙ h in (
            carries_source g a ticks s right valid depth (buffer_for g a s (copy d.operator y)) (copy d.operator y) b,
            subst (λ (o : Option _). len_is prog o n) (sym (It.buffers_are (buffer_for g a s (copy d.operator y)) (copy d.operator y) b)) (output_len y x n vertex out),
          )

      twins : (z : List ℤ) (u : ℕ) → x.kind ≡ Get z → x.twin ≡ Some u → Called v → ((calling prog v).sequence ≡ (calling prog u).sequence) × ((calling prog v).at < (calling prog u).at)
      twins z u k t c =
          let half = set_half g flat v u x z e k t in
          let d = called u (slice_get_within g.vertices u half.it half.there) in
          let op : v ≡ c.of.it.op = called_op (calling prog v).sequence (calling prog v).at v (calling prog v).ins (calling prog v).outs c.of in
          let up : u ≡ d.of.it.op = called_op (calling prog u).sequence (calling prog u).at u (calling prog u).ins (calling prog u).outs d.of in
          let r = of_run g a ticks s valid d.of.number d.of.it d.of.act in
          let same : r.vertex ≡ half.it = same_Some r.vertex half.it (sym r.there ∙ ap (slice_get g.vertices) (sym up) ∙ half.there) in
          let follows : list_any (λ y. runs v y && is_on d.of.it.operator y) (take d.of.number (acts s)) ≡ true
          = (λ i. follows_get (take d.of.number (acts s)) d.of.it.operator ((sym half.is_set ∙ ap (λ (y : Vertex). y.kind) (sym same)) i)
          ((sym half.twin ∙ ap (λ (y : Vertex). y.twin) (sym same)) i)) ∙ r.follows in
          let y = any_of (λ y. runs v y && is_on d.of.it.operator y) (take d.of.number (acts s)) follows in
          let w = get_take (acts s) d.of.number y.0 y.1 y.2 in
          go d y.0 y.1 w.0 w.1 (and_parts (runs v y.1) (is_on d.of.it.operator y.1) y.3)
        where
          go : (d : Called u) (i : ℕ) (y : Act) → i < d.of.number → slice_get (acts s) i ≡ Some y → (runs v y ≡ true)
              × (is_on d.of.it.operator y ≡ true) → ((calling prog v).sequence ≡ (calling prog u).sequence) × ((calling prog v).at < (calling prog u).at)
          go d i (carry t) l ia h = absurd (false≢true h.0)
          go d i (run o) l ia h =
              let op : v ≡ c.of.it.op = called_op (calling prog v).sequence (calling prog v).at v (calling prog v).ins (calling prog v).outs c.of in
              let same : i ≡ c.of.number = one_run g a ticks s valid i c.of.number o c.of.it ia c.of.act (eqb-true o.op v h.0 ∙ op) in
              let act : run o ≡ run c.of.it = same_Some (run o) (run c.of.it) (sym ia ∙ ap (slice_get (acts s)) same ∙ c.of.act) in
              let operator : c.of.it.operator ≡ d.of.it.operator = sym (ap (λ (x : Act). operator_in x) act) ∙ eqb-true o.operator d.of.it.operator h.1 in
              let seq : (calling prog v).sequence ≡ (calling prog u).sequence
              = ap (λ (y : Step). y.sequence) c.of.is
              ∙ ap (λ (n : ℕ). Rattle.sequence_build_laws.specs.Serial.number_of g a s
              (record { operator = n; medium = None })) operator ∙ sym (ap (λ (y : Step). y.sequence) d.of.is) in
              let rise = starts_rise (steps_of g a s) (acts s) c.of.number d.of.number 0 0 (run c.of.it) c.of.act (omega arith)
              (slice_get_within (steps_of g a s (run c.of.it)) 0 (steps.calling g a s c.of.it) refl) in
              (seq, in_one (calling prog v).sequence (calling prog u).sequence seq c.of.entry d.of.entry (let x = c.of.block in let z = d.of.block in omega arith))
            where
              operator_in : Act → ℕ
              operator_in (carry t) = 0
              operator_in (run d) = d.operator

              in_one : (m n : ℕ) → m ≡ n → (h : Here It m (calling prog v).at (Call v (calling prog v).ins (calling prog v).outs))
                  (k : Here It n (calling prog u).at (Call u (calling prog u).ins (calling prog u).outs))
                  → h.block_number < k.block_number → (calling prog v).at < (calling prog u).at
              in_one m n same = subst (λ (r : ℕ). (h : Here It m (calling prog v).at (Call v (calling prog v).ins (calling prog v).outs))
                  (k : Here It r (calling prog u).at (Call u (calling prog u).ins (calling prog u).outs))
                  → h.block_number < k.block_number → (calling prog v).at < (calling prog u).at) same (λ h k l. earlier_here It m (calling prog v).at (calling prog u).at _ _ h k (inl l))
