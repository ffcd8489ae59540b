-- The plain order of a valid schedule: what each step is, what it reads and writes, and that it makes a setting.
use Rattle.std.proofs.Common.{◌≡◌, ℕ, zero, suc, ◌+◌, ◌<◌, ◌⊎◌, Bool, true, cond, nat_eq, List, [], ◌∷◌, length, map, Option, Some, None, refl, sym, ap, subst, inl, inr, arith, ◌∙◌, eq-eqb}
use Rattle.std.specs.Prelude.{slice_get}
use Rattle.std.proofs.lemmas.Option.{same_Some, slice_get_within}
use Rattle.std.proofs.lemmas.List.{length-map}
use Rattle.schedule.specs.Graph.{Graph, len_of}
use Rattle.schedule.specs.declared.Seq.{Seq}
use Rattle.schedule.specs.Archi.{Architecture, is_archi}
use Rattle.schedule.specs.Sequences.{sequences}
use Rattle.schedule.specs.declared.decision.Transfer.{Transfer}
use Rattle.schedule.specs.declared.decision.Decision.{Decision}
use Rattle.schedule.specs.declared.decision.Schedule.{Schedule}
use Rattle.schedule.specs.Acts.{Act, carry, run, acts, Copy, copy, outputs_of, sources_of, read_by, made_by}
use Rattle.schedule.specs.Valid.{is_valid}
use Rattle.executive_program.specs.declared.program.Instr.TheVariants.{Call, Send, Recv, Sync}
use Rattle.executive_program.specs.Instructions.{Reader}
use Rattle.executive_program.specs.WellFormed.{WritesAt, ReadsAt}
use Rattle.executive_program.proofs.Reading.{any_at}
use Rattle.sequence_build_laws.specs.Serial.{Step, step, is_other, copies, buffer_for, number_of, steps_of, plain_steps, plain_program, buffer, pairs, numbers_where}
use Rattle.sequence_build_laws.specs.Built.{is_guarded, buffers_from, prologue, program_with}
use Rattle.sequence_build_laws.proofs.Lists.{map_at, from_map, starts, in_flat, flat_at, starts_rise, from_numbers, get_some}
use Rattle.sequence_build_laws.proofs.Lines.{is_plain}
use Rattle.sequence_build_laws.proofs.Setting.{Setting}
use Rattle.sequence_build_laws.proofs.Sequences.{computation_there, communicator_of, stands_low}
use Rattle.sequence_build_laws.proofs.Works.{read_made, of_transfer, of_run, one_maker, buffer_is, made_buffer, read_buffer}

module _ (g : Graph) (a : Architecture) (s : Schedule) where
  -- the three communications of a transfer, and the call of an operation
  abbrev pub sending : Transfer → Step
  sending t = step (number_of g a s (record { operator = t.from; medium = Some t.medium })) (Send (buffer_for g a s (copy t.from t.source)) t.to)

  abbrev pub receiving : Transfer → Step
  receiving t = step (number_of g a s (record { operator = t.to; medium = Some t.medium })) (Recv (buffer_for g a s (copy t.to t.source)) t.from)

  abbrev pub waiting : Transfer → ℕ → Step
  waiting t q = step q (Sync t.from t.to)

  abbrev pub calling : Decision → Step
  calling d = step (number_of g a s (record { operator = d.operator; medium = None }))
      (Call d.op (map (buffer_for g a s) (read_by g.vertices (run d))) (map (buffer_for g a s) (made_by g.vertices (run d))))

  -- what step j of an act is
  pub data Kind : Act → ℕ → Step → Type 0 where
    sends : (t : Transfer) (y : Step) → y ≡ sending t → Kind (carry t) 0 y
    receives : (t : Transfer) (y : Step) → y ≡ receiving t → Kind (carry t) 1 y
    waits : (t : Transfer) (j q : ℕ) (r : Seq) (y : Step) → slice_get (sequences a) q ≡ Some r → is_other t r ≡ true → y ≡ waiting t q → Kind (carry t) (suc (suc j)) y
    calls : (d : Decision) (y : Step) → y ≡ calling d → Kind (run d) 0 y

  pub kind_of : (x : Act) (j : ℕ) (y : Step) → slice_get (steps_of g a s x) j ≡ Some y → Kind x j y
  kind_of (carry t) zero y e = sends t y (sym (same_Some (sending t) y e))
  kind_of (carry t) (suc zero) y e = receives t y (sym (same_Some (receiving t) y e))
  kind_of (carry t) (suc (suc j)) y e =
      let m = from_map (λ q. waiting t q) (numbers_where (is_other t) 0 (sequences a)) j y e in
      let n = from_numbers (is_other t) 0 (sequences a) j m.it m.stands in
      let z : n.at ≡ m.it = (let w = n.is in omega arith) in
      waits t j m.it n.it y (ap (slice_get (sequences a)) (sym z) ∙ n.stands) n.passes (sym m.is)
  kind_of (run d) zero y e = calls d y (sym (same_Some (calling d) y e))
  kind_of (run d) (suc j) y e = absurd cc

  -- a step of the plain order is a step of an act
  pub record Of (c : ℕ) (y : Step) : Type 0 where
    pub at : ℕ
    pub act : Act
    pub inner : ℕ
    pub is_act : slice_get (acts s) at ≡ Some act
    pub stands : slice_get (steps_of g a s act) inner ≡ Some y
    pub is : c ≡ starts (steps_of g a s) (acts s) at + inner
    pub kind : Kind act inner y

  pub of_step : (c : ℕ) (y : Step) → slice_get (plain_steps g a s) c ≡ Some y → Of c y
  of_step c y e = let r = in_flat (steps_of g a s) (acts s) c y e in
      record { at = r.at; act = r.it; inner = r.inner; is_act = r.is_it; stands = r.stands; is = r.is; kind = kind_of r.it r.inner y r.stands }

  pub step_at : (i j : ℕ) (x : Act) (y : Step) → slice_get (acts s) i ≡ Some x → slice_get (steps_of g a s x) j ≡ Some y
      → slice_get (plain_steps g a s) (starts (steps_of g a s) (acts s) i + j) ≡ Some y
  step_at i j x y e h = flat_at (steps_of g a s) (acts s) i j x y e h

  -- the step of an act that writes
  abbrev pub write_place : Act → ℕ
  write_place (carry t) = 1
  write_place (run d) = 0

  abbrev pub writing : Act → Step
  writing (carry t) = receiving t
  writing (run d) = calling d

  pub writes_there : (x : Act) → slice_get (steps_of g a s x) (write_place x) ≡ Some (writing x)
  writes_there (carry t) = refl
  writes_there (run d) = refl

  pub writes_made : (x : Act) (h b : ℕ) (c : Copy) → slice_get (made_by g.vertices x) h ≡ Some c → buffer_for g a s c ≡ b → WritesAt (writing x).instr h b
  writes_made (carry t) zero b c m e = (ap (buffer_for g a s) (same_Some (copy t.to t.source) c m) ∙ e, refl)
  writes_made (carry t) (suc h) b c m e = absurd cc
  writes_made (run d) h b c m e = map_at (buffer_for g a s) (made_by g.vertices (run d)) h c m ∙ ap (λ (n : ℕ). Some n) e

module _ (g : Graph) (a : Architecture) (ticks : ℕ → ℕ → Option ℕ) (s : Schedule) (right : is_archi a.operators a.media ≡ true) (valid : is_valid g a ticks s ≡ true) where
  -- the sequences that an act's steps name are there
  pub from_there : (i : ℕ) (t : Transfer) → slice_get (acts s) i ≡ Some (carry t)
      → slice_get (sequences a) (number_of g a s (record { operator = t.from; medium = Some t.medium }))
      ≡ Some (record { operator = t.from; medium = Some t.medium })
  from_there i t e = let o = of_transfer g a ticks s valid i t e in communicator_of a t.from t.medium o.medium (stands_low a right t.medium t.from o.medium o.there o.from) o.there o.from

  pub to_there : (i : ℕ) (t : Transfer) → slice_get (acts s) i ≡ Some (carry t)
      → slice_get (sequences a) (number_of g a s (record { operator = t.to; medium = Some t.medium }))
      ≡ Some (record { operator = t.to; medium = Some t.medium })
  to_there i t e = let o = of_transfer g a ticks s valid i t e in communicator_of a t.to t.medium o.medium (stands_low a right t.medium t.to o.medium o.there o.to) o.there o.to

  pub at_there : (i : ℕ) (d : Decision) → slice_get (acts s) i ≡ Some (run d)
      → slice_get (sequences a) (number_of g a s (record { operator = d.operator; medium = None })) ≡ Some (record { operator = d.operator; medium = None })
  at_there i d e = computation_there a d.operator (of_run g a ticks s valid i d e).low

  pub sequence_there : (i j : ℕ) (x : Act) (y : Step) → slice_get (acts s) i ≡ Some x → Kind g a s x j y → (q : Seq) × (slice_get (sequences a) y.sequence ≡ Some q)
  sequence_there i j x y e (sends t z h) = (_, ap (λ (w : Step). slice_get (sequences a) w.sequence) h ∙ from_there i t e)
  sequence_there i j x y e (receives t z h) = (_, ap (λ (w : Step). slice_get (sequences a) w.sequence) h ∙ to_there i t e)
  sequence_there i j x y e (waits t k q r z n o h) = (r, ap (λ (w : Step). slice_get (sequences a) w.sequence) h ∙ n)
  sequence_there i j x y e (calls d z h) = (_, ap (λ (w : Step). slice_get (sequences a) w.sequence) h ∙ at_there i d e)

  pub plainly : (j : ℕ) (x : Act) (y : Step) → Kind g a s x j y → is_plain y.instr ≡ true
  plainly j x y (sends t z h) = ap (λ (w : Step). is_plain w.instr) h
  plainly j x y (receives t z h) = ap (λ (w : Step). is_plain w.instr) h
  plainly j x y (waits t k q r z n o h) = ap (λ (w : Step). is_plain w.instr) h
  plainly j x y (calls d z h) = ap (λ (w : Step). is_plain w.instr) h

  -- What a step writes and reads.
  pub record Writes (c k b : ℕ) (y : Step) : Type 0 where
    pub at : ℕ
    pub act : Act
    pub it : Copy
    pub is_act : slice_get (acts s) at ≡ Some act
    pub made : slice_get (made_by g.vertices act) k ≡ Some it
    pub buffer : buffer_for g a s it ≡ b
    pub number : c ≡ starts (steps_of g a s) (acts s) at + write_place g a s act
    pub seq : Seq
    pub sequence : slice_get (sequences a) y.sequence ≡ Some seq
    pub operator : seq.operator ≡ it.operator

  copy_operator : (d : Decision) (xs : List _) (k : ℕ) (c : Copy) → slice_get (map (copy d.operator) xs) k ≡ Some c → d.operator ≡ c.operator
  copy_operator d xs k c e = ap (λ (z : Copy). z.operator) (from_map (copy d.operator) xs k c e).is

  pub writes_of : (c k b : ℕ) (y : Step) → slice_get (plain_steps g a s) c ≡ Some y → WritesAt y.instr k b → Writes c k b y
  writes_of c k b y e w = let o = of_step g a s c y e in by o.at o.act o.inner o.is_act o.is o.kind w
    where
      by : (i : ℕ) (x : Act) (j : ℕ) → slice_get (acts s) i ≡ Some x → c ≡ starts (steps_of g a s) (acts s) i + j → Kind g a s x j y → WritesAt y.instr k b → Writes c k b y
      by i x j e n (sends t z h) w = absurd (subst (λ (u : Step). WritesAt u.instr k b) h w)
      by i x j e n (waits t l q r z m o h) w = absurd (subst (λ (u : Step). WritesAt u.instr k b) h w)
      by i x j e n (receives t z h) w =
          let v = subst (λ (u : Step). WritesAt u.instr k b) h w in
          record {
            at = i;
            act = carry t;
            it = copy t.to t.source;
            is_act = e;
            made = ap (slice_get (copy t.to t.source ∷ [])) v.1;
            buffer = v.0;
            number = n;
            seq = record { operator = t.to; medium = Some t.medium };
            sequence = ap (λ (w : Step). slice_get (sequences a) w.sequence) h ∙ to_there i t e;
            operator = refl;
          }
      by i x j e n (calls d z h) w =
          let v : slice_get (map (buffer_for g a s) (made_by g.vertices (run d))) k ≡ Some b = subst (λ (u : Step). WritesAt u.instr k b) h w in
          let m = from_map (buffer_for g a s) (made_by g.vertices (run d)) k b v in
          record {
            at = i;
            act = run d;
            it = m.it;
            is_act = e;
            made = m.stands;
            buffer = m.is;
            number = n;
            seq = record { operator = d.operator; medium = None };
            sequence = ap (λ (w : Step). slice_get (sequences a) w.sequence) h ∙ at_there i d e;
            operator = copy_operator d (outputs_of d.op (slice_get g.vertices d.op)) k m.it m.stands;
          }

  pub record Reads (c k b : ℕ) (y : Step) : Type 0 where
    pub at : ℕ
    pub act : Act
    pub it : Copy
    pub is_act : slice_get (acts s) at ≡ Some act
    pub read : slice_get (read_by g.vertices act) k ≡ Some it
    pub buffer : buffer_for g a s it ≡ b
    pub number : c ≡ starts (steps_of g a s) (acts s) at + 0
    pub seq : Seq
    pub sequence : slice_get (sequences a) y.sequence ≡ Some seq
    pub operator : seq.operator ≡ it.operator

  pub reads_of : (c k b : ℕ) (y : Step) → slice_get (plain_steps g a s) c ≡ Some y → ReadsAt y.instr k b → Reads c k b y
  reads_of c k b y e w = let o = of_step g a s c y e in by o.at o.act o.inner o.is_act o.is o.kind w
    where
      by : (i : ℕ) (x : Act) (j : ℕ) → slice_get (acts s) i ≡ Some x → c ≡ starts (steps_of g a s) (acts s) i + j → Kind g a s x j y → ReadsAt y.instr k b → Reads c k b y
      by i x j e n (receives t z h) w = absurd (subst (λ (u : Step). ReadsAt u.instr k b) h w)
      by i x j e n (waits t l q r z m o h) w = absurd (subst (λ (u : Step). ReadsAt u.instr k b) h w)
      by i x j e n (sends t z h) w =
          let v = subst (λ (u : Step). ReadsAt u.instr k b) h w in
          record {
            at = i;
            act = carry t;
            it = copy t.from t.source;
            is_act = e;
            read = ap (slice_get (copy t.from t.source ∷ [])) v.1;
            buffer = v.0;
            number = n;
            seq = record { operator = t.from; medium = Some t.medium };
            sequence = ap (λ (w : Step). slice_get (sequences a) w.sequence) h ∙ from_there i t e;
            operator = refl;
          }
      by i x j e n (calls d z h) w =
          let v : slice_get (map (buffer_for g a s) (read_by g.vertices (run d))) k ≡ Some b = subst (λ (u : Step). ReadsAt u.instr k b) h w in
          let m = from_map (buffer_for g a s) (read_by g.vertices (run d)) k b v in
          record {
            at = i;
            act = run d;
            it = m.it;
            is_act = e;
            read = m.stands;
            buffer = m.is;
            number = n;
            seq = record { operator = d.operator; medium = None };
            sequence = ap (λ (w : Step). slice_get (sequences a) w.sequence) h ∙ at_there i d e;
            operator = copy_operator d (sources_of (slice_get g.vertices d.op)) k m.it m.stands;
          }

  -- the step at which an act makes a copy
  abbrev pub WrittenBy : ℕ → Type 0
  WrittenBy b = (c : ℕ) × (y : Step) × (k : ℕ) × (slice_get (plain_steps g a s) c ≡ Some y) × WritesAt y.instr k b

  abbrev pub written_by : (i h b : ℕ) (x : Act) (c : Copy) → slice_get (acts s) i ≡ Some x → slice_get (made_by g.vertices x) h ≡ Some c → buffer_for g a s c ≡ b → WrittenBy b
  written_by i h b x c e m f =
      (starts (steps_of g a s) (acts s) i + write_place g a s x, writing g a s x, h, step_at g a s i (write_place g a s x) x (writing g a s x) e (writes_there g a s x), writes_made g a s x h b c m f)

  pub written : (b : ℕ) → b < length (copies g a s) → WrittenBy b
  written b l =
      let c = get_some (copies g a s) b l in
      let r = in_flat (made_by g.vertices) (acts s) b c.0 c.1 in
      written_by r.at r.inner b r.it c.0 r.is_it r.stands (buffer_is g a ticks s valid b c.0 c.1)

  pub written_once : (c e k h b : ℕ) (y z : Step) → slice_get (plain_steps g a s) c ≡ Some y → slice_get (plain_steps g a s) e ≡ Some z
      → WritesAt y.instr k b → WritesAt z.instr h b → (c ≡ e) × (k ≡ h)
  written_once c e k h b y z m n v w =
      let x = writes_of c k b y m v in
      let u = writes_of e h b z n w in
      let xb = ap (slice_get (copies g a s)) (sym x.buffer) ∙ made_buffer g a ticks s valid x.at k x.act x.it x.is_act x.made in
      let ub = ap (slice_get (copies g a s)) (sym u.buffer) ∙ made_buffer g a ticks s valid u.at h u.act u.it u.is_act u.made in
      let it : u.it ≡ x.it = same_Some u.it x.it (sym ub ∙ xb) in
      let o = one_maker g a ticks s valid x.at u.at k h x.act u.act x.it x.is_act u.is_act x.made (u.made ∙ ap (λ (c : Copy). Some c) it) in
      let act : x.act ≡ u.act = same_Some x.act u.act (sym x.is_act ∙ ap (slice_get (acts s)) o.0 ∙ u.is_act) in
      (x.number ∙ (λ i. starts (steps_of g a s) (acts s) (o.0 i) + write_place g a s (act i)) ∙ sym u.number, o.1)

  pub read_behind : (c k b : ℕ) (y : Step) → slice_get (plain_steps g a s) c ≡ Some y → ReadsAt y.instr k b → (e : ℕ) × (z : Step)
      × (h : ℕ) × (e < c) × (slice_get (plain_steps g a s) e ≡ Some z) × WritesAt z.instr h b
  read_behind c k b y e r =
      let x = reads_of c k b y e r in
      let m = read_made g a ticks s valid x.at k x.act x.it x.is_act x.read in
      let l = starts_rise (steps_of g a s) (acts s) m.at x.at (write_place g a s m.act) 0 m.act m.stands m.less
      (slice_get_within (steps_of g a s m.act) (write_place g a s m.act) (writing g a s m.act) (writes_there g a s m.act)) in
      let w = written_by m.at m.inner b m.act x.it m.stands m.made x.buffer in
      (w.0, w.1, w.2, (let n = x.number in omega arith), w.3, w.4)

  pub near : (c k b : ℕ) (y : Step) → slice_get (plain_steps g a s) c ≡ Some y → WritesAt y.instr k b ⊎ ReadsAt y.instr k b → (it : Copy)
      × (q : Seq) × (slice_get (copies g a s) b ≡ Some it) × (slice_get (sequences a) y.sequence ≡ Some q) × (q.operator ≡ it.operator)
  near c k b y e (inl w) = let x = writes_of c k b y e w in
      (x.it, x.seq, ap (slice_get (copies g a s)) (sym x.buffer) ∙ made_buffer g a ticks s valid x.at k x.act x.it x.is_act x.made, x.sequence, x.operator)
  near c k b y e (inr r) = let x = reads_of c k b y e r in
      (x.it, x.seq, ap (slice_get (copies g a s)) (sym x.buffer) ∙ read_buffer g a ticks s valid x.at k x.act x.it x.is_act x.read, x.sequence, x.operator)

  -- buffers
  pub buffers_length : (depth b : ℕ) (cs : List Copy) → length (buffers_from depth g a s b cs) ≡ length cs
  buffers_length depth b [] = refl
  buffers_length depth b (c ∷ cs) = ap (λ (n : ℕ). suc n) (buffers_length depth (suc b) cs)

  pub buffer_at : (depth n k b : ℕ) (cs : List Copy) (c : Copy) → slice_get cs b ≡ Some c → k ≡ n + b
      → slice_get (buffers_from depth g a s n cs) b
      ≡ Some (record { operator = c.operator; len = len_of g.vertices c.source; depth = cond (is_guarded g a s k) depth 1 })
  buffer_at depth n k b [] c e h = absurd cc
  buffer_at depth n k zero (x ∷ cs) c e h = let z : n ≡ k = omega arith in let same = same_Some x c e in
      λ i. Some (record { operator = (same i).operator; len = len_of g.vertices (same i).source; depth = cond (is_guarded g a s (z i)) depth 1 })
  buffer_at depth n k (suc b) (x ∷ cs) c e h = buffer_at depth (suc n) k b cs c e (omega arith)

  abbrev pub setting : ℕ → Setting
  setting depth = record {
    copies = copies g a s;
    plain = plain_steps g a s;
    pairs = pairs g a s;
    program = program_with depth g a s;
    without = plain_program g a s;
    prologues = prologue depth g a s;
    seqs = sequences a;
    len = λ c. len_of g.vertices c.source;
    depth = λ b. cond (is_guarded g a s b) depth 1;
    many = depth;
    codes_are = refl;
    codes_without = refl;
    pairs_are = refl;
    buffers_without = length-map (copies g a s) (buffer g a s 1);
    buffers_many = buffers_length depth 0 (copies g a s);
    buffers_are = λ b c e. buffer_at depth 0 b b (copies g a s) c e (omega arith);
    guarded = λ q r e. ap (λ (t : Bool). cond t depth 1) (any_at (λ (x : Reader). nat_eq x.buffer r.buffer) (pairs g a s) q r e (eq-eqb r.buffer r.buffer refl));
    opened = λ t. refl;
    pair_operators = refl;
    low = λ i y e. let o = of_step g a s i y e in let q = sequence_there o.at o.inner o.act y o.is_act o.kind in slice_get_within (sequences a) y.sequence q.0 q.1;
    plain_only = λ i y e. let o = of_step g a s i y e in plainly o.inner o.act y o.kind;
    written = written;
    written_once = written_once;
    read_behind = read_behind;
    near = near;
  }
