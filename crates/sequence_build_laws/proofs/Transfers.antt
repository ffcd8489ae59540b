-- Transfers of the built program: where they are looked for, their order, and what their buffers carry.
use Rattle.std.proofs.Common.{◌≡◌, ℕ, zero, suc, ◌+◌, ◌<◌, Bool, true, false, cond, ◌&&◌, List, [], ◌∷◌, length, map, take, Option, Some, None, refl, sym, ap, subst, inl, arith, ◌∙◌, eq-eqb}
use Rattle.std.specs.Prelude.{slice_get}
use Rattle.std.specs.List.{count_by}
use Rattle.std.specs.Cmp.Derive.{both_true}
use Rattle.std.proofs.lemmas.Bool.{false≢true, and_parts, eqb-true}
use Rattle.std.proofs.lemmas.Option.{same_Some, slice_get_within}
use Rattle.schedule.specs.declared.Source.{Source}
use Rattle.schedule.specs.Graph.{Graph, len_of}
use Rattle.schedule.specs.declared.Seq.{Seq}
use Rattle.schedule.specs.Archi.{Architecture, is_archi}
use Rattle.schedule.specs.Sequences.{sequences}
use Rattle.schedule.specs.declared.decision.Transfer.{Transfer}
use Rattle.schedule.specs.declared.decision.Decision.{Decision}
use Rattle.schedule.specs.declared.decision.Schedule.{Schedule}
use Rattle.schedule.specs.Acts.{Act, carry, run, acts, is_over, Copy, copy, outputs_of, read_by, made_by}
use Rattle.schedule.specs.Valid.{is_valid}
use Rattle.executive_program.specs.declared.program.Instr.{Instr}
use Rattle.executive_program.specs.declared.program.Instr.TheVariants.{Suc0, Suc1, Pre0, Pre1, Call, Send, Recv, Sync}
use Rattle.executive_program.specs.declared.program.SeqCode.{SeqCode}
use Rattle.executive_program.specs.declared.program.Program.{Program}
use Rattle.executive_program.specs.Instructions.{is_communication, turn, turn_of, medium, medium_in, operator, communications}
use Rattle.executive_program.specs.Instructions as core
use Rattle.executive_program.specs.MicroSteps.{is_on, sent_in, sent_by, sent, first_of, transfers, transfers_on}
use Rattle.executive_program.specs.Places.{
  places,
  sequence_where,
  Writing,
  writing,
  writer_of,
  written_at,
  communication_at,
  is_send,
  is_receive,
  buffer_in,
  transfer,
  carried,
  carried_within,
  source_by,
  sent_source,
}
use Rattle.executive_program.specs.WellFormed.{Stands, WritesAt, Communicates, IsTransfer, place_in}
use Rattle.executive_program.proofs.Passing.{on_is, is_on_it}
use Rattle.sequence_build_laws.specs.Serial.{Step, step, steps_of, buffer_for, copies, serial}
use Rattle.sequence_build_laws.specs.Built.{program_with}
use Rattle.sequence_build_laws.proofs.Lists.{starts, starts_rise, tally, tally_yes, tally_not, tally_same, tally_earlier, counts_tally, first, nth, from_map}
use Rattle.sequence_build_laws.proofs.Loops as loops
use Rattle.sequence_build_laws.proofs.Lines as lines
use Rattle.sequence_build_laws.proofs.Setting.{Setting, order, Here, before_of}
use Rattle.sequence_build_laws.proofs.Guards as guards
use Rattle.sequence_build_laws.proofs.Sequences.{medium_low}
use Rattle.sequence_build_laws.proofs.Works.{output_of, made_buffer, read_buffer, read_lower}
use Rattle.sequence_build_laws.proofs.Steps as steps
use Rattle.sequence_build_laws.proofs.Steps.{Kind, of_step, sending, receiving, from_there, to_there}
use Rattle.sequence_build_laws.proofs.Comms.{comm_of, onto, count_all, medium_of, operator_of, p, S}

-- the place of a communication by its number
pub record AtNumber (xs : List Instr) (t : ℕ) (x : Instr) : Type 0 where
  pub is_one : is_communication x ≡ true
  pub number : tally is_communication (take (communication_at xs t) xs) ≡ t

number_is : (xs : List Instr) (t : ℕ) (x : Instr) → slice_get xs (communication_at xs t) ≡ Some x → AtNumber xs t x
number_is [] t x e = absurd cc
number_is (y ∷ ys) t x e = by (is_communication y) refl t e (λ u. number_is ys u x)
  where
    by : (b : Bool) → is_communication y ≡ b → (t : ℕ) → slice_get (y ∷ ys) (communication_at (y ∷ ys) t) ≡ Some x
        → ((u : ℕ) → slice_get ys (communication_at ys u) ≡ Some x → AtNumber ys u x) → AtNumber (y ∷ ys) t x
    by true c zero e r =
        let at : communication_at (y ∷ ys) 0 ≡ 0 = ap (λ (b : Bool). cond b 0 (suc (communication_at ys 0))) c in
        let same : y ≡ x = same_Some y x (ap (slice_get (y ∷ ys)) (sym at) ∙ e) in
        record { is_one = ap is_communication (sym same) ∙ c; number = ap (λ (n : ℕ). tally is_communication (take n (y ∷ ys))) at }
    by false c zero e r =
        let at : communication_at (y ∷ ys) 0 ≡ suc (communication_at ys 0) = ap (λ (b : Bool). cond b 0 (suc (communication_at ys 0))) c in
        let q = r 0 (ap (slice_get (y ∷ ys)) (sym at) ∙ e) in
        record { is_one = q.is_one; number = ap (λ (n : ℕ). tally is_communication (take n (y ∷ ys))) at ∙ tally_not is_communication y (take (communication_at ys 0) ys) c ∙ q.number }
    by true c (suc t) e r =
        let at : communication_at (y ∷ ys) (suc t) ≡ suc (communication_at ys t) = ap (λ (b : Bool). suc (communication_at ys (cond b t (suc t)))) c in
        let q = r t (ap (slice_get (y ∷ ys)) (sym at) ∙ e) in
        record {
          is_one = q.is_one;
          number = ap (λ (n : ℕ). tally is_communication (take n (y ∷ ys))) at
              ∙ tally_yes is_communication y (take (communication_at ys t) ys) c ∙ ap (λ (n : ℕ). suc n) q.number;
        }
    by false c (suc t) e r =
        let at : communication_at (y ∷ ys) (suc t) ≡ suc (communication_at ys (suc t)) = ap (λ (b : Bool). suc (communication_at ys (cond b t (suc t)))) c in
        let q = r (suc t) (ap (slice_get (y ∷ ys)) (sym at) ∙ e) in
        record { is_one = q.is_one; number = ap (λ (n : ℕ). tally is_communication (take n (y ∷ ys))) at ∙ tally_not is_communication y (take (communication_at ys (suc t)) ys) c ∙ q.number }

found_at : (xs : List Instr) (at t : ℕ) (x : Instr) → slice_get xs at ≡ Some x → is_communication x ≡ true → tally is_communication (take at xs) ≡ t → communication_at xs t ≡ at
found_at [] at t x e c n = absurd cc
found_at (y ∷ ys) zero zero x e c n = ap (λ (b : Bool). cond b 0 (suc (communication_at ys 0))) (ap is_communication (same_Some y x e) ∙ c)
found_at (y ∷ ys) zero (suc t) x e c n = absurd cc
found_at (y ∷ ys) (suc at) t x e c n = by (is_communication y) refl t n (λ u m. found_at ys at u x e c m)
  where
    by : (b : Bool) → is_communication y ≡ b → (t : ℕ) → tally is_communication (y ∷ take at ys) ≡ t
        → ((u : ℕ) → tally is_communication (take at ys) ≡ u → communication_at ys u ≡ at) → communication_at (y ∷ ys) t ≡ suc at
    by true d zero n r = let z = tally_yes is_communication y (take at ys) d in absurd (omega arith)
    by true d (suc t) n r = ap (λ (b : Bool). suc (communication_at ys (cond b t (suc t)))) d ∙ ap (λ (k : ℕ). suc k) (r t (let z = tally_yes is_communication y (take at ys) d in omega arith))
    by false d zero n r = ap (λ (b : Bool). cond b 0 (suc (communication_at ys 0))) d ∙ ap (λ (k : ℕ). suc k) (r 0 (let z = tally_not is_communication y (take at ys) d in omega arith))
    by false d (suc t) n r = ap (λ (b : Bool). suc (communication_at ys (cond b t (suc t)))) d ∙ ap (λ (k : ℕ). suc k) (r (suc t) (let z = tally_not is_communication y (take at ys) d in omega arith))

-- the buffer of a send by its number
sent_from : (xs : List Instr) (t b : ℕ) → sent_in xs t ≡ Some b → (q : ℕ) × (slice_get xs (communication_at xs t) ≡ Some (Send b q))
sent_from [] t b e = absurd cc
sent_from (Send c q ∷ xs) zero b e = (q, ap (λ (n : ℕ). Some (Send n q)) (same_Some c b e))
sent_from (Send c q ∷ xs) (suc t) b e = sent_from xs t b e
sent_from (Recv c q ∷ xs) zero b e = absurd cc
sent_from (Recv c q ∷ xs) (suc t) b e = sent_from xs t b e
sent_from (Sync c q ∷ xs) zero b e = absurd cc
sent_from (Sync c q ∷ xs) (suc t) b e = sent_from xs t b e
sent_from (Suc0 q ∷ xs) zero b e = sent_from xs 0 b e
sent_from (Suc0 q ∷ xs) (suc t) b e = sent_from xs (suc t) b e
sent_from (Suc1 q ∷ xs) zero b e = sent_from xs 0 b e
sent_from (Suc1 q ∷ xs) (suc t) b e = sent_from xs (suc t) b e
sent_from (Pre0 q ∷ xs) zero b e = sent_from xs 0 b e
sent_from (Pre0 q ∷ xs) (suc t) b e = sent_from xs (suc t) b e
sent_from (Pre1 q ∷ xs) zero b e = sent_from xs 0 b e
sent_from (Pre1 q ∷ xs) (suc t) b e = sent_from xs (suc t) b e
sent_from (Call v ins outs ∷ xs) zero b e = sent_from xs 0 b e
sent_from (Call v ins outs ∷ xs) (suc t) b e = sent_from xs (suc t) b e

sent_at : (xs : List Instr) (t b q : ℕ) → slice_get xs (communication_at xs t) ≡ Some (Send b q) → sent_in xs t ≡ Some b
sent_at [] t b q e = absurd cc
sent_at (Send c r ∷ xs) zero b q e = let z = same_Some (Send c r) (Send b q) e in let w : c ≡ b = cc in ap (λ (n : ℕ). Some n) w
sent_at (Send c r ∷ xs) (suc t) b q e = sent_at xs t b q e
sent_at (Recv c r ∷ xs) zero b q e = absurd cc
sent_at (Recv c r ∷ xs) (suc t) b q e = sent_at xs t b q e
sent_at (Sync c r ∷ xs) zero b q e = absurd cc
sent_at (Sync c r ∷ xs) (suc t) b q e = sent_at xs t b q e
sent_at (Suc0 r ∷ xs) zero b q e = sent_at xs 0 b q e
sent_at (Suc0 r ∷ xs) (suc t) b q e = sent_at xs (suc t) b q e
sent_at (Suc1 r ∷ xs) zero b q e = sent_at xs 0 b q e
sent_at (Suc1 r ∷ xs) (suc t) b q e = sent_at xs (suc t) b q e
sent_at (Pre0 r ∷ xs) zero b q e = sent_at xs 0 b q e
sent_at (Pre0 r ∷ xs) (suc t) b q e = sent_at xs (suc t) b q e
sent_at (Pre1 r ∷ xs) zero b q e = sent_at xs 0 b q e
sent_at (Pre1 r ∷ xs) (suc t) b q e = sent_at xs (suc t) b q e
sent_at (Call v ins outs ∷ xs) zero b q e = sent_at xs 0 b q e
sent_at (Call v ins outs ∷ xs) (suc t) b q e = sent_at xs (suc t) b q e

-- among codes, where all that send it send this buffer
sent_is : (qs : List SeqCode) (m t b k : ℕ) (q : SeqCode) → slice_get qs k ≡ Some q → is_on m q.seq.medium ≡ true → sent_in q.turn t ≡ Some b
    → ((i c : ℕ) (r : SeqCode) → slice_get qs i ≡ Some r → is_on m r.seq.medium ≡ true → sent_in r.turn t ≡ Some c → c ≡ b) → sent_by qs m t ≡ Some b
sent_is [] m t b k q e o h only = absurd cc
sent_is (x ∷ qs) m t b k q e o h only = by (is_on m x.seq.medium) refl (sent_in x.turn t) refl k e (λ j d. sent_is qs m t b j q d o h (λ i c r. only (suc i) c r))
  where
    by : (d : Bool) → is_on m x.seq.medium ≡ d → (w : Option ℕ) → sent_in x.turn t ≡ w → (k : ℕ) → slice_get (x ∷ qs) k ≡ Some q → ((j : ℕ) → slice_get qs j ≡ Some q → sent_by qs m t ≡ Some b)
        → first_of (cond d w None) (sent_by qs m t) ≡ Some b
    by true on (Some c) f k e r = ap (λ (n : ℕ). Some n) (only 0 c x refl on f)
    by true on None f zero e r = let z : None ≡ Some b = sym f ∙ ap (λ (y : SeqCode). sent_in y.turn t) (same_Some x q e) ∙ h in absurd cc
    by true on None f (suc k) e r = r k e
    by false on w f zero e r = absurd (false≢true (sym on ∙ ap (λ (y : SeqCode). is_on m y.seq.medium) (same_Some x q e) ∙ o))
    by false on w f (suc k) e r = r k e

-- as many transfers as each communicator of the medium has communications
transfers_are : (qs : List SeqCode) (m n k : ℕ) (q : SeqCode) → slice_get qs k ≡ Some q → is_on m q.seq.medium ≡ true
    → ((i : ℕ) (r : SeqCode) → slice_get qs i ≡ Some r → is_on m r.seq.medium ≡ true → count_by is_communication r.turn ≡ n) → transfers_on qs m ≡ n
transfers_are [] m n k q e o h = absurd cc
transfers_are (x ∷ qs) m n k q e o h = by (is_on m x.seq.medium) refl k e (λ j d. transfers_are qs m n j q d o (λ i r. h (suc i) r))
  where
    by : (d : Bool) → is_on m x.seq.medium ≡ d → (k : ℕ) → slice_get (x ∷ qs) k ≡ Some q
        → ((j : ℕ) → slice_get qs j ≡ Some q → transfers_on qs m ≡ n) → cond d (count_by is_communication x.turn) (transfers_on qs m) ≡ n
    by true on k e r = h 0 x refl on
    by false on zero e r = absurd (false≢true (sym on ∙ ap (λ (y : SeqCode). is_on m y.seq.medium) (same_Some x q e) ∙ o))
    by false on (suc k) e r = r k e

transfers_there : (qs : List SeqCode) (m t : ℕ) → t < transfers_on qs m → (k : ℕ) × (q : SeqCode) × (slice_get qs k ≡ Some q) × (is_on m q.seq.medium ≡ true)
transfers_there [] m t h = absurd (omega arith)
transfers_there (x ∷ qs) m t h = by (is_on m x.seq.medium) refl h (transfers_there qs m t)
  where
    by : (d : Bool) → is_on m x.seq.medium ≡ d → t < cond d (count_by is_communication x.turn) (transfers_on qs m)
        → (t < transfers_on qs m → (k : ℕ) × (q : SeqCode) × (slice_get qs k ≡ Some q) × (is_on m q.seq.medium ≡ true))
        → (k : ℕ) × (q : SeqCode) × (slice_get (x ∷ qs) k ≡ Some q) × (is_on m q.seq.medium ≡ true)
    by true on h r = (0, x, refl, on)
    by false on h r = let z = r h in (suc z.0, z.1, z.2, z.3)

module _ (g : Graph) (a : Architecture) (s : Schedule) where
  -- which step of a transfer a send, a receive and a wait are
  kind_send : (t : Transfer) (j u b o : ℕ) → Kind g a s (carry t) j (step u (Send b o)) → (j ≡ 0) × (step u (Send b o) ≡ sending g a s t)
  kind_send t j u b o (steps.sends x y k) = (refl, k)
  kind_send t j u b o (steps.receives x y k) = let w : Send b o ≡ (receiving g a s x).instr = ap (λ (y : Step). y.instr) k in absurd cc
  kind_send t j u b o (steps.waits x i q v y d f k) = let w : Send b o ≡ Sync x.from x.to = ap (λ (y : Step). y.instr) k in absurd cc

  kind_receive : (t : Transfer) (j u b o : ℕ) → Kind g a s (carry t) j (step u (Recv b o)) → (j ≡ 1) × (step u (Recv b o) ≡ receiving g a s t)
  kind_receive t j u b o (steps.receives x y k) = (refl, k)
  kind_receive t j u b o (steps.sends x y k) = let w : Recv b o ≡ (sending g a s x).instr = ap (λ (y : Step). y.instr) k in absurd cc
  kind_receive t j u b o (steps.waits x i q v y d f k) = let w : Recv b o ≡ Sync x.from x.to = ap (λ (y : Step). y.instr) k in absurd cc

  -- in a sequence that is neither the sender nor the receiver
  kind_wait : (t : Transfer) (j u : ℕ) (x : Instr) → (u ≡ (sending g a s t).sequence → ⊥) → (u ≡ (receiving g a s t).sequence → ⊥)
      → Kind g a s (carry t) j (step u x) → (1 < j) × (x ≡ Sync t.from t.to)
  kind_wait t j u x n r (steps.sends z y k) = absurd (n (ap (λ (y : Step). y.sequence) k))
  kind_wait t j u x n r (steps.receives z y k) = absurd (r (ap (λ (y : Step). y.sequence) k))
  kind_wait t j u x n r (steps.waits z i q v y d f k) = (omega arith, ap (λ (y : Step). y.instr) k)

-- what a received buffer carries, by its transfer
source_received : (p : Program) (inner : ℕ → Source) (w : Writing) (b o m c : ℕ) → medium p w.writer ≡ Some m
    → sent p m (communications p w.writer w.at) ≡ Some c → source_by p inner w (Some (Recv b o)) ≡ inner c
source_received p inner w b o m c e h = rw e (ap (sent_source p inner) h)

module _ (g : Graph) (a : Architecture) (ticks : ℕ → ℕ → Option ℕ) (s : Schedule) (right : is_archi a.operators a.media ≡ true) (valid : is_valid g a ticks s ≡ true) (depth : ℕ) where
  abbrev Set : Setting
  Set = S g a ticks s right valid depth

  abbrev prog : Program
  prog = program_with depth g a s

  abbrev names : List ℕ
  names = order (S g a ticks s right valid depth)

  -- the code of a sequence
  pub record CodeOf (u : ℕ) (c : SeqCode) : Type 0 where
    pub seq : Seq
    pub there : slice_get (sequences a) u ≡ Some seq
    pub seq_is : c.seq ≡ seq
    pub turn_is : c.turn ≡ turn prog u

  pub code_of : (u : ℕ) (c : SeqCode) → slice_get prog.seqs u ≡ Some c → CodeOf u c
  code_of u c e =
      let l = slice_get_within prog.seqs u c e in
      let q = loops.seq_there prog (serial g a s) Set.prologues (sequences a) refl (lines.serial_low Set.pairs Set.plain Set.program Set.prologues Set.seqs Set.codes_are Set.low) u l in
      let k = loops.code_is prog (serial g a s) Set.prologues (sequences a) refl (lines.serial_low Set.pairs Set.plain Set.program Set.prologues Set.seqs Set.codes_are Set.low) u q.0 q.1 in
      record { seq = q.0; there = q.1; seq_is = ap (λ (x : SeqCode). x.seq) (same_Some c _ (sym e ∙ k)); turn_is = ap turn_of (sym e) }

  pub medium_there : (u m : ℕ) → medium prog u ≡ Some m → (q : Seq) × (slice_get (sequences a) u ≡ Some q) × (q.medium ≡ Some m)
  medium_there u m e = by (slice_get prog.seqs u) refl
    where
      by : (o : Option SeqCode) → slice_get prog.seqs u ≡ o → (q : Seq) × (slice_get (sequences a) u ≡ Some q) × (q.medium ≡ Some m)
      by None z = let w : None ≡ Some m = ap medium_in (sym z) ∙ e in absurd cc
      by (Some c) z = let k = code_of u c z in (k.seq, k.there, ap (λ (q : Seq). q.medium) (sym k.seq_is) ∙ ap medium_in (sym z) ∙ e)

  -- how many transfers a medium has
  pub transfers_is : (u m : ℕ) (q : Seq) → slice_get (sequences a) u ≡ Some q → q.medium ≡ Some m → transfers prog m ≡ tally (is_over m) (acts s)
  transfers_is u m q e h =
      let k = loops.code_is prog (serial g a s) Set.prologues (sequences a) refl (lines.serial_low Set.pairs Set.plain Set.program Set.prologues Set.seqs Set.codes_are Set.low) u q e in
      transfers_are prog.seqs m (tally (is_over m) (acts s)) u _ k (is_on_it m q.medium h)
      (λ i r z on. let c = code_of i r z in
      counts_tally is_communication r.turn ∙ ap (tally is_communication) c.turn_is
      ∙ count_all g a ticks s right valid depth i m c.seq c.there (ap (λ (q : Seq). q.medium) (sym c.seq_is) ∙ on_is m r.seq.medium on))

  pub counts : (u m : ℕ) → medium prog u ≡ Some m → count_by is_communication (turn prog u) ≡ transfers prog m
  counts u m e = let q = medium_there u m e in
      counts_tally is_communication (turn prog u) ∙ count_all g a ticks s right valid depth u m q.0 q.1 q.2 ∙ sym (transfers_is u m q.0 q.1 q.2)

  pub on_media : (u m : ℕ) → medium prog u ≡ Some m → m < length a.media
  on_media u m e = let q = medium_there u m e in medium_low a u m q.0 q.1 q.2

  pub communicators : (u at : ℕ) (x : Instr) → Stands prog u at x → is_communication x ≡ true → (m : ℕ) × (medium prog u ≡ Some m)
  communicators u at x e h = let c = comm_of g a ticks s right valid depth u at x e h in (c.transfer.medium, medium_of g a ticks s right valid depth u c.seq c.sequence ∙ c.on)

  -- The communication of a loop that has a given number is that of the transfer with this number.
  pub record Numbered (m t : ℕ) : Type 0 where
    pub number : ℕ
    pub it : Transfer
    pub act : slice_get (acts s) number ≡ Some (carry it)
    pub over : it.medium ≡ m
    pub count : tally (is_over m) (take number (acts s)) ≡ t

  pub numbered : (m t : ℕ) → t < tally (is_over m) (acts s) → Numbered m t
  numbered m t h = let n = nth (is_over m) (acts s) t h in by n.at n.it n.stands n.passes n.number
    where
      by : (i : ℕ) (x : Act) → slice_get (acts s) i ≡ Some x → is_over m x ≡ true → tally (is_over m) (take i (acts s)) ≡ t → Numbered m t
      by i (carry z) e o n = record { number = i; it = z; act = e; over = eqb-true z.medium m o; count = n }
      by i (run d) e o n = absurd (false≢true o)

  -- a communication of that number belongs to that transfer
  pub record Belongs (m t : ℕ) (n : Numbered m t) (u at : ℕ) (x : Instr) : Type 0 where
    pub entry : Here Set u at x
    pub inner : ℕ
    pub kind : Kind g a s (carry n.it) inner (step u x)
    pub block : entry.block_number ≡ starts (steps_of g a s) (acts s) n.number + inner

  pub belongs : (m t : ℕ) (n : Numbered m t) (u at : ℕ) (x : Instr) → medium prog u ≡ Some m → Stands prog u at x → is_communication x
      ≡ true → tally is_communication (take at (turn prog u)) ≡ t → Belongs m t n u at x
  belongs m t n u at x on e h z =
      let c = comm_of g a ticks s right valid depth u at x e h in
      let medium : c.transfer.medium ≡ m = same_Some c.transfer.medium m (sym (medium_of g a ticks s right valid depth u c.seq c.sequence ∙ c.on) ∙ on) in
      let count : tally (is_over m) (take c.number (acts s)) ≡ t = ap (λ (k : ℕ). tally (is_over k) (take c.number (acts s))) (sym medium) ∙ sym c.count ∙ z in
      let same : c.number ≡ n.number =
      tally_same (is_over m) (acts s) c.number n.number (carry c.transfer) (carry n.it) c.act n.act (eq-eqb c.transfer.medium m medium)
      (eq-eqb n.it.medium m n.over) (count ∙ sym n.count) in
      let act : carry c.transfer ≡ carry n.it = same_Some (carry c.transfer) (carry n.it) (sym c.act ∙ ap (slice_get (acts s)) same ∙ n.act) in
      record {
        entry = c.entry;
        inner = c.inner;
        kind = subst (λ (y : Act). Kind g a s y c.inner (step u x)) act c.kind;
        block = c.block ∙ ap (λ (k : ℕ). starts (steps_of g a s) (acts s) k + c.inner) same;
      }

  -- One end of the transfer: step `j` of its act, in the first communicator of the medium whose communication `t` passes the test.
  module _ (test : Option Instr → Bool) (m t : ℕ) (n : Numbered m t) (j own : ℕ) (y : Step) where
    abbrev passes_at : SeqCode → Bool
    passes_at q = is_on m q.seq.medium && test (slice_get q.turn (communication_at q.turn t))

    abbrev where_it_is : ℕ
    where_it_is = sequence_where prog passes_at

    abbrev place_of_it : ℕ
    place_of_it = communication_at (turn prog where_it_is) t

    pub record End : Type 0 where
      pub stands : Stands prog where_it_is place_of_it y.instr
      pub on : medium prog where_it_is ≡ Some m
      pub count : tally is_communication (take place_of_it (turn prog where_it_is)) ≡ t
      pub entry : Here Set where_it_is place_of_it y.instr
      pub block : entry.block_number ≡ starts (steps_of g a s) (acts s) n.number + j
      pub sequence : where_it_is ≡ y.sequence
      pub operator : core.operator prog where_it_is ≡ own
      pub buffer : buffer_in (slice_get (turn prog where_it_is) place_of_it) ≡ buffer_in (Some y.instr)

    -- of the steps of the act, the instruction is of this one alone
    abbrev IsOfIt : Instr → Type 0
    IsOfIt z = (is_communication z ≡ true) × ((i u : ℕ) → Kind g a s (carry n.it) i (step u z) → (i ≡ j) × (step u z ≡ y))

    module _ (there : slice_get (sequences a) y.sequence ≡ Some (record { operator = own; medium = Some n.it.medium })) where
      end_from : (z : Instr) → IsOfIt z → medium prog where_it_is ≡ Some m → Stands prog where_it_is place_of_it z → End
      end_from z is on st =
          let num = (number_is (turn prog where_it_is) t z st).number in
          let r = belongs m t n where_it_is place_of_it z on st is.0 num in
          let k = is.1 r.inner where_it_is r.kind in
          let seq : where_it_is ≡ y.sequence = ap (λ (w : Step). w.sequence) k.1 in
          let instr : z ≡ y.instr = ap (λ (w : Step). w.instr) k.1 in
          let own_st : Stands prog where_it_is place_of_it y.instr = st ∙ ap (λ (w : Instr). Some w) instr in
          let own_r = belongs m t n where_it_is place_of_it y.instr on own_st (ap is_communication (sym instr) ∙ is.0) num in
          let own_k = is.1 own_r.inner where_it_is (subst (λ (w : Instr). Kind g a s (carry n.it) own_r.inner (step where_it_is w)) (sym instr) own_r.kind) in
          record {
            stands = own_st;
            on = on;
            count = num;
            entry = own_r.entry;
            block = own_r.block ∙ ap (λ (i : ℕ). starts (steps_of g a s) (acts s) n.number + i) own_k.0;
            sequence = seq;
            operator = ap (core.operator prog) seq ∙ operator_of g a ticks s right valid depth y.sequence _ there;
            buffer = ap buffer_in own_st;
          }

      end_there : slice_get (steps_of g a s (carry n.it)) j ≡ Some y → is_communication y.instr ≡ true → test (Some y.instr) ≡ true
          → ((o : Option Instr) → test o ≡ true → (z : Instr) × (o ≡ Some z) × IsOfIt z) → End
      end_there made comm passes picks =
          let o = onto g a ticks s right valid depth n.number j n.it y n.act made comm in
          let on : medium prog y.sequence ≡ Some m = medium_of g a ticks s right valid depth y.sequence _ there ∙ ap (λ (k : ℕ). Some k) n.over in
          let count : tally is_communication (take o.at (turn prog y.sequence)) ≡ t = o.count ∙ ap (λ (k : ℕ). tally (is_over k) (take n.number (acts s))) n.over ∙ n.count in
          let at : communication_at (turn prog y.sequence) t ≡ o.at = found_at (turn prog y.sequence) o.at t y.instr o.stands comm count in
          let c = loops.code_there prog y.sequence o.at y.instr o.stands in
          let k = code_of y.sequence c.it c.stands in
          let here_it : test (slice_get c.it.turn (communication_at c.it.turn t)) ≡ true
          = ap (λ (l : List Instr). test (slice_get l (communication_at l t))) k.turn_is ∙ ap (λ (i : ℕ). test (slice_get (turn prog y.sequence) i)) at ∙ ap test o.stands ∙ passes in
          let on_it : is_on m c.it.seq.medium ≡ true = is_on_it m c.it.seq.medium (ap medium_in (sym c.stands) ∙ on) in
          let f = first passes_at prog.seqs y.sequence c.it c.stands (both_true on_it here_it) in
          by f.it f.stands (and_parts (is_on m f.it.seq.medium) (test (slice_get f.it.turn (communication_at f.it.turn t))) f.passes)
        where
          by : (q : SeqCode) → slice_get prog.seqs where_it_is ≡ Some q → (is_on m q.seq.medium ≡ true) × (test (slice_get q.turn (communication_at q.turn t)) ≡ true) → End
          by q e h =
              let z = picks (slice_get q.turn (communication_at q.turn t)) h.1 in
              end_from z.0 z.2 (ap medium_in e ∙ on_is m q.seq.medium h.0) (ap (λ (l : List Instr). slice_get l (communication_at l t)) (ap turn_of e) ∙ z.1)

  -- The send and the receive of the transfer, where they are looked for.
  abbrev pub Sends : (m t : ℕ) → Numbered m t → Type 0
  Sends m t n = End is_send m t n 0 n.it.from (sending g a s n.it)

  pub sends : (m t : ℕ) (n : Numbered m t) → Sends m t n
  sends m t n = end_there is_send m t n 0 n.it.from (sending g a s n.it) (from_there g a ticks s right valid n.number n.it n.act) refl refl refl picks
    where
      picks : (o : Option Instr) → is_send o ≡ true → (z : Instr) × (o ≡ Some z) × IsOfIt is_send m t n 0 n.it.from (sending g a s n.it) z
      picks None h = absurd (false≢true h)
      picks (Some (Send b q)) h = (Send b q, refl, (refl, λ i u k. kind_send g a s n.it i u b q k))
      picks (Some _) h = absurd (false≢true h)

  abbrev pub Receives : (m t : ℕ) → Numbered m t → Type 0
  Receives m t n = End is_receive m t n 1 n.it.to (receiving g a s n.it)

  pub receives : (m t : ℕ) (n : Numbered m t) → Receives m t n
  receives m t n = end_there is_receive m t n 1 n.it.to (receiving g a s n.it) (to_there g a ticks s right valid n.number n.it n.act) refl refl refl picks
    where
      picks : (o : Option Instr) → is_receive o ≡ true → (z : Instr) × (o ≡ Some z) × IsOfIt is_receive m t n 1 n.it.to (receiving g a s n.it) z
      picks None h = absurd (false≢true h)
      picks (Some (Recv b q)) h = (Recv b q, refl, (refl, λ i u k. kind_receive g a s n.it i u b q k))
      picks (Some _) h = absurd (false≢true h)

  -- a transfer that is counted has its act
  pub counted : (m t : ℕ) → t < transfers prog m → Numbered m t
  counted m t h =
      let k = transfers_there prog.seqs m t h in
      let c = code_of k.0 k.1 k.2 in
      let on : c.seq.medium ≡ Some m = ap (λ (q : Seq). q.medium) (sym c.seq_is) ∙ on_is m k.1.seq.medium k.3 in
      numbered m t (let z = transfers_is k.0 m c.seq c.there on in omega arith)

  len_at : (b : ℕ) (c : Copy) → slice_get (copies g a s) b ≡ Some c → core.len_of prog b ≡ len_of g.vertices c.source
  len_at b c e = ap core.len_in (Set.buffers_are b c e)

  -- the buffers of a transfer
  sent_copy : (m t : ℕ) (n : Numbered m t) → slice_get (copies g a s) (transfer prog m t).sent ≡ Some (copy n.it.from n.it.source)
  sent_copy m t n = ap (slice_get (copies g a s)) (sends m t n).buffer ∙ read_buffer g a ticks s valid n.number 0 (carry n.it) (copy n.it.from n.it.source) n.act refl

  received_copy : (m t : ℕ) (n : Numbered m t) → slice_get (copies g a s) (transfer prog m t).received ≡ Some (copy n.it.to n.it.source)
  received_copy m t n = ap (slice_get (copies g a s)) (receives m t n).buffer ∙ made_buffer g a ticks s valid n.number 0 (carry n.it) (copy n.it.to n.it.source) n.act refl

  pub is_transfer : (m t : ℕ) → t < transfers prog m → IsTransfer prog (order (S g a ticks s right valid depth)) (places prog) m t
  is_transfer m t h =
      let n = counted m t h in
      let x = sends m t n in
      let y = receives m t n in
      record {
        sends = record {
          on = x.on;
          stands = x.stands
              ∙ (λ i. Some (Send (sym x.buffer i) (sym y.operator i)));
          is_one = refl;
          number =
              counts_tally is_communication (take (transfer prog m t).send_at (turn prog (transfer prog m t).sender)) ∙ x.count;
        };
        receives = record {
          on = y.on;
          stands = y.stands
              ∙ (λ i. Some (Recv (sym y.buffer i) (sym x.operator i)));
          is_one = refl;
          number =
              counts_tally is_communication (take (transfer prog m t).receive_at (turn prog (transfer prog m t).receiver)) ∙ y.count;
        };
        others = λ u at z c not_sender not_receiver. others n x y u at z c not_sender not_receiver;
        in_order = before_of Set (transfer prog m t).sender (transfer prog m t).send_at (transfer prog m t).receiver
            (transfer prog m t).receive_at _ _ x.entry y.entry (inl (let i = x.block in let j = y.block in omega arith));
        next = λ l. next n y (counted m (t + 1) l) (sends m (t + 1) (counted m (t + 1) l));
        lengths = len_at (transfer prog m t).received _ (received_copy m t n) ∙ sym (len_at (transfer prog m t).sent _ (sent_copy m t n));
      }
    where
      others : (n : Numbered m t) (x : Sends m t n) (y : Receives m t n) (u at : ℕ) (z : Instr) → Communicates prog m t u at z
          → (u ≡ (transfer prog m t).sender → ⊥) → (u ≡ (transfer prog m t).receiver → ⊥)
          → (z ≡ Sync (core.operator prog (transfer prog m t).sender) (core.operator prog (transfer prog m t).receiver))
          × (place_in (order (S g a ticks s right valid depth)) (transfer prog m t).receiver (transfer prog m t).receive_at
          < place_in (order (S g a ticks s right valid depth)) u at)
      others n x y u at z c ns nr =
          let r = belongs m t n u at z c.on c.stands c.is_one (sym (counts_tally is_communication (take at (turn prog u))) ∙ c.number) in
          let k = kind_wait g a s n.it r.inner u z (λ e. ns (e ∙ sym x.sequence)) (λ e. nr (e ∙ sym y.sequence)) r.kind in (
            k.1 ∙ (λ i. Sync (sym x.operator i) (sym y.operator i)),
            before_of Set (transfer prog m t).receiver (transfer prog m t).receive_at u at _ z y.entry r.entry (inl (let i = y.block in let j = r.block in let l = k.0 in omega arith)),
          )

      next : (n : Numbered m t) (y : Receives m t n) (o : Numbered m (t + 1)) (x : Sends m (t + 1) o)
          → place_in (order (S g a ticks s right valid depth)) (transfer prog m t).receiver (transfer prog m t).receive_at
          < place_in (order (S g a ticks s right valid depth)) (transfer prog m (t + 1)).sender (transfer prog m (t + 1)).send_at
      next n y o x =
          let l = tally_earlier (is_over m) (acts s) n.number o.number (let i = n.count in let j = o.count in omega arith) in
          let z = starts_rise (steps_of g a s) (acts s) n.number o.number 1 0 (carry n.it) n.act l (let w = slice_get_within (steps_of g a s (carry n.it)) 1 (receiving g a s n.it) refl in w) in
          before_of Set (transfer prog m t).receiver (transfer prog m t).receive_at (transfer prog m (t + 1)).sender
          (transfer prog m (t + 1)).send_at _ _ y.entry x.entry (inl (let i = y.block in let j = x.block in omega arith))

  -- What buffers carry.
  sent_of : (m t : ℕ) (n : Numbered m t) → sent prog m t ≡ Some (buffer_for g a s (copy n.it.from n.it.source))
  sent_of m t n =
      let x = sends m t n in
      let c = loops.code_there prog (transfer prog m t).sender (transfer prog m t).send_at _ x.stands in
      let turned : c.it.turn ≡ turn prog (transfer prog m t).sender = ap turn_of (sym c.stands) in
      sent_is prog.seqs m t (buffer_for g a s (copy n.it.from n.it.source)) (transfer prog m t).sender c.it c.stands (is_on_it m c.it.seq.medium (ap medium_in (sym c.stands) ∙ x.on))
      (ap (λ (l : List Instr). sent_in l t) turned ∙ sent_at (turn prog (transfer prog m t).sender) t (buffer_for g a s (copy n.it.from n.it.source)) n.it.to x.stands)
      (λ i b r e on h.
      let z = sent_from r.turn t b h in
      let k = code_of i r e in
      let st : Stands prog i (communication_at (turn prog i) t) (Send b z.0) = ap (λ (l : List Instr). slice_get l (communication_at l t)) (sym k.turn_is) ∙ z.1 in
      let num = (number_is (turn prog i) t (Send b z.0) st).number in
      let w = belongs m t n i (communication_at (turn prog i) t) (Send b z.0) (ap medium_in e ∙ on_is m r.seq.medium on) st refl num in
      let instr = ap (λ (y : Step). y.instr) (kind_send g a s n.it w.inner i b z.0 w.kind).1 in
      ap (λ (y : Instr). buffer_in (Some y)) instr)

  -- a receive: what it makes, and from which buffer that comes
  record Received (u at b o : ℕ) : Type 0 where
    number : ℕ
    it : Transfer
    act : slice_get (acts s) number ≡ Some (carry it)
    buffer : b ≡ buffer_for g a s (copy it.to it.source)
    comes : (inner : ℕ → Source) (k : ℕ) → source_by prog inner (record { writer = u; at = at; port = k }) (Some (Recv b o)) ≡ inner (buffer_for g a s (copy it.from it.source))

  received_at : (u at b o : ℕ) → Stands prog u at (Recv b o) → Received u at b o
  received_at u at b o e =
      let c = comm_of g a ticks s right valid depth u at (Recv b o) e refl in
      let k = kind_receive g a s c.transfer c.inner u b o c.kind in
      let instr = ap (λ (y : Step). y.instr) k.1 in
      let n : Numbered c.transfer.medium (tally (is_over c.transfer.medium) (take c.number (acts s))) = record { number = c.number; it = c.transfer; act = c.act; over = refl; count = refl } in
      let on : medium prog u ≡ Some c.transfer.medium = medium_of g a ticks s right valid depth u c.seq c.sequence ∙ c.on in
      record {
        number = c.number;
        it = c.transfer;
        act = c.act;
        buffer = ap (λ (y : Instr). buffer_in (Some y)) instr;
        comes = λ inner k. source_received prog inner (record { writer = u; at = at; port = k }) b o c.transfer.medium (buffer_for g a s (copy c.transfer.from c.transfer.source)) on
            (ap (λ (t : ℕ). sent prog c.transfer.medium t) (counts_tally is_communication (take at (turn prog u)) ∙ c.count)
            ∙ sent_of c.transfer.medium (tally (is_over c.transfer.medium) (take c.number (acts s))) n);
      }

  -- what writes a buffer
  data Writer (x : Instr) (k b : ℕ) : Type 0 where
    by_call : (i : ℕ) (d : Decision) (c : Copy) → slice_get (acts s) i ≡ Some (run d) → slice_get (made_by g.vertices (run d)) k ≡ Some c
        → buffer_for g a s c ≡ b → (ins outs : List ℕ) → x ≡ Call d.op ins outs → Writer x k b
    by_receive : (c o : ℕ) → x ≡ Recv c o → c ≡ b → Writer x k b

  writer_of_kind : (i j k b : ℕ) (act : Act) (y : Step) → slice_get (acts s) i ≡ Some act → Kind g a s act j y → WritesAt y.instr k b → Writer y.instr k b
  writer_of_kind i j k b act y e (steps.sends t z h) w = absurd (subst (λ (u : Step). WritesAt u.instr k b) h w)
  writer_of_kind i j k b act y e (steps.waits t l q r z m o h) w = absurd (subst (λ (u : Step). WritesAt u.instr k b) h w)
  writer_of_kind i j k b act y e (steps.receives t z h) w = by_receive (buffer_for g a s (copy t.to t.source)) t.from (ap (λ (u : Step). u.instr) h) (subst (λ (u : Step). WritesAt u.instr k b) h w).0
  writer_of_kind i j k b act y e (steps.calls d z h) w =
      let v : slice_get (map (buffer_for g a s) (made_by g.vertices (run d))) k ≡ Some b = subst (λ (u : Step). WritesAt u.instr k b) h w in
      let m = from_map (buffer_for g a s) (made_by g.vertices (run d)) k b v in
      by_call i d m.it e m.stands m.is (map (buffer_for g a s) (read_by g.vertices (run d))) (map (buffer_for g a s) (made_by g.vertices (run d))) (ap (λ (u : Step). u.instr) h)

  pub carried_is : (hops b : ℕ) (c : Copy) → b < hops → slice_get (copies g a s) b ≡ Some c → carried_within prog hops b ≡ c.source
  carried_is zero b c h e = absurd (omega arith)
  carried_is (suc hops) b c h e =
      let w = guards.written Set b (slice_get_within (copies g a s) b c e) in
      let o = of_step g a s w.entry.block_number (step (writer_of prog b) w.instr) w.step_there in
      ap (source_by prog (carried_within prog hops) (writing prog b)) w.stands
      ∙ by w.instr w.stands (writer_of_kind o.at o.inner (writing prog b).port b o.act (step (writer_of prog b) w.instr) o.is_act o.kind w.port) (λ b c. carried_is hops b c)
    where
      by : (x : Instr) → Stands prog (writer_of prog b) (written_at prog b) x → Writer x (writing prog b).port b
          → ((b : ℕ) (c : Copy) → b < hops → slice_get (copies g a s) b ≡ Some c → carried_within prog hops b ≡ c.source)
          → source_by prog (carried_within prog hops) (writing prog b) (Some x) ≡ c.source
      by x st (by_call i d m ia made is ins outs call) inner =
          let y = from_map (copy d.operator) (outputs_of d.op (slice_get g.vertices d.op)) (writing prog b).port m made in
          let z = output_of d.op (slice_get g.vertices d.op) (writing prog b).port y.it y.stands in
          let same : m ≡ c = same_Some m c (sym (ap (slice_get (copies g a s)) (sym is) ∙ made_buffer g a ticks s valid i (writing prog b).port (run d) m ia made) ∙ e) in
          ap (λ (v : Instr). source_by prog (carried_within prog hops) (writing prog b) (Some v)) call
          ∙ (λ i. record { vertex = sym z.0 i; port = sym z.1 i }) ∙ ap (λ (v : Copy). v.source) y.is ∙ ap (λ (v : Copy). v.source) same
      by x st (by_receive d o recv is) inner =
          let r = received_at (writer_of prog b) (written_at prog b) d o (st ∙ ap (λ (v : Instr). Some v) recv) in
          let there = read_buffer g a ticks s valid r.number 0 (carry r.it) (copy r.it.from r.it.source) r.act refl in
          let low = read_lower g a ticks s valid r.number 0 0 (carry r.it) (copy r.it.from r.it.source) (copy r.it.to r.it.source) r.act refl refl in
          let mine = made_buffer g a ticks s valid r.number 0 (carry r.it) (copy r.it.to r.it.source) r.act refl in
          let same : copy r.it.to r.it.source ≡ c = same_Some (copy r.it.to r.it.source) c (sym (ap (slice_get (copies g a s)) (sym is ∙ r.buffer) ∙ mine) ∙ e) in
          ap (λ (v : Instr). source_by prog (carried_within prog hops) (writing prog b) (Some v)) recv
          ∙ r.comes (carried_within prog hops) (writing prog b).port
          ∙ inner (buffer_for g a s (copy r.it.from r.it.source)) (copy r.it.from r.it.source) (let q = r.buffer in omega arith) there
          ∙ ap (λ (v : Copy). v.source) same

  pub carries_source : (b : ℕ) (c : Copy) → slice_get (copies g a s) b ≡ Some c → carried prog b ≡ c.source
  carries_source b c e = carried_is (length prog.buffers) b c (let l = slice_get_within (copies g a s) b c e in let z = Set.buffers_many in omega arith) e

  pub carries : (m t : ℕ) → t < transfers prog m → carried prog (transfer prog m t).received ≡ carried prog (transfer prog m t).sent
  carries m t h = let n = counted m t h in
      carries_source (transfer prog m t).received (copy n.it.to n.it.source) (received_copy m t n) ∙ sym (carries_source (transfer prog m t).sent (copy n.it.from n.it.source) (sent_copy m t n))
