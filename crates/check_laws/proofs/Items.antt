-- A well-formed program has all that is asked whatever the order.
use Rattle.std.proofs.Common.{◌≡◌, ℕ, zero, suc, ◌+◌, ◌<◌, Bool, true, false, cond, List, [], ◌∷◌, length, Option, Some, None, refl, sym, ap, subst, arith, ◌∙◌}
use Rattle.std.specs.Prelude.{slice_get}
use Rattle.std.specs.List.{range_with_len}
use Rattle.std.proofs.lemmas.Option.{same_Some, slice_get_within}
use Rattle.sequence_build_laws.specs.Graph.{Graph}
use Rattle.sequence_build_laws.specs.declared.Seq.{Seq}
use Rattle.sequence_build_laws.specs.declared.Medium.{Medium}
use Rattle.sequence_build_laws.specs.Archi.{Architecture, stands_at}
use Rattle.sequence_build_laws.specs.Sequences.{sequences, sequences_of, communicators, communicator, computation}
use Rattle.sequence_build_laws.specs.declared.Instr.{Instr}
use Rattle.sequence_build_laws.specs.declared.Instr.TheVariants.{Suc0, Suc1, Pre0, Pre1, Call, Send, Recv, Sync}
use Rattle.sequence_build_laws.specs.declared.SeqCode.{SeqCode}
use Rattle.sequence_build_laws.specs.declared.Program.{Program}
use Rattle.sequence_build_laws.specs.Instructions.{prologue, prologue_of, operator, operator_in, communications, readers, is_communication}
use Rattle.sequence_build_laws.specs.Places.{transfer, opening_signals, signals_of}
use Rattle.sequence_build_laws.specs.WellFormed.{Stands, IsOrder}
use Rattle.sequence_build_laws.proofs.Reading.{from_repeated}
use Rattle.sequence_build_laws.proofs.Lists.{in_flat, map_at}
use Rattle.sequence_build_laws.proofs.Loops.{code_there}
use Rattle.sequence_build_laws.proofs.Sequences.{range_at, range_length}
use Rattle.sequence_build_laws.proofs.Guards.{in_blocks}
use Rattle.check_laws.specs.Items.{NamesThere, IsTransferred, HasItems}
use Rattle.check_laws.proofs.Orders.{Part, sends, receives, waits, part, transferred, Communication, communication}
use Rattle.check_laws.proofs.Reading.{many}
use Rattle.check_laws.proofs.Made.{all_made}

own_operator : (o n : ℕ) (media : List Medium) (k : ℕ) (q : Seq) → slice_get (communicators o n media) k ≡ Some q → q.operator ≡ o
own_operator o n [] k q e = absurd cc
own_operator o n (m ∷ media) k q e = by (stands_at m o) k e (λ i d. own_operator o (n + 1) media i q d)
  where
    by : (b : Bool) (k : ℕ) → slice_get (cond b (communicator o n ∷ communicators o (n + 1) media) (communicators o (n + 1) media)) k
        ≡ Some q → ((i : ℕ) → slice_get (communicators o (n + 1) media) i ≡ Some q → q.operator ≡ o) → q.operator ≡ o
    by true zero e r = ap (λ (x : Seq). x.operator) (sym (same_Some (communicator o n) q e))
    by true (suc k) e r = r k e
    by false k e r = r k e

of_operator : (a : Architecture) (o k : ℕ) (q : Seq) → slice_get (sequences_of a.media o) k ≡ Some q → q.operator ≡ o
of_operator a o zero q e = ap (λ (x : Seq). x.operator) (sym (same_Some (computation o) q e))
of_operator a o (suc k) q e = own_operator o 0 a.media k q e

operator_low : (a : Architecture) (s : ℕ) (q : Seq) → slice_get (sequences a) s ≡ Some q → q.operator < length a.operators
operator_low a s q e =
    let x = in_flat (sequences_of a.media) (range_with_len 0 (length a.operators)) s q e in
    let o = of_operator a x.it x.inner q x.stands in
    let i = range_at 0 (length a.operators) x.at x.it x.is_it in
    let l = range_length 0 (length a.operators) x.at x.it x.is_it in
    omega arith

module _ (p : Program) (g : Graph) (a : Architecture) (order : List ℕ) (h : IsOrder p g (sequences a) (length a.media) order) where
  low : (s b : ℕ) (x : Instr) → Stands p s b x → operator p s < length a.operators
  low s b x e =
      let c = code_there p s b x e in
      let seq = map_at (λ (q : SeqCode). q.seq) p.seqs s c.it c.stands in
      let there = ap (λ (l : List Seq). slice_get l s) (sym h.sequences) ∙ seq in
      let z = operator_low a s c.it.seq there in
      subst (λ (o : ℕ). o < length a.operators) (ap operator_in (sym c.stands)) z

  abbrev moved : (m t : ℕ) → IsTransferred p m t → (operator p (transfer p m t).sender < length a.operators) × (operator p (transfer p m t).receiver < length a.operators)
  moved m t r = (low (transfer p m t).sender (transfer p m t).send_at _ r.sends.stands, low (transfer p m t).receiver (transfer p m t).receive_at _ r.receives.stands)

  abbrev far : Instr → ℕ
  far (Send b o) = o
  far (Recv b o) = o
  far (Sync o q) = o
  far _ = 0

  abbrev farther : Instr → ℕ
  farther (Sync o q) = q
  farther _ = 0

  -- the operators that a communication names are there
  far_low : (s b : ℕ) (x : Instr) → Stands p s b x → is_communication x ≡ true → (far x < length a.operators) × (farther x < length a.operators)
  far_low s b x e i = by (part p c.on (communications p s b) s b x t c.is)
    where
      c : Communication p g (sequences a) (length a.media) order h s b x
      c = communication p g (sequences a) (length a.media) order h s b x e i

      t : IsTransferred p c.on (communications p s b)
      t = transferred p g (sequences a) (length a.media) order h c.on (communications p s b) c.low c.inside

      some : 0 < length a.operators
      some = let z = low s b x e in omega arith

      by : Part p c.on (communications p s b) s b x → (far x < length a.operators) × (farther x < length a.operators)
      by (sends u v w) = (subst (λ y. far y < length a.operators) (sym w) (moved c.on (communications p s b) t).1, subst (λ y. farther y < length a.operators) (sym w) some)
      by (receives u v w) = (subst (λ y. far y < length a.operators) (sym w) (moved c.on (communications p s b) t).0, subst (λ y. farther y < length a.operators) (sym w) some)
      by (waits u v w) = (
        subst (λ y. far y < length a.operators) (sym w) (moved c.on (communications p s b) t).0,
        subst (λ y. farther y < length a.operators) (sym w) (moved c.on (communications p s b) t).1,
      )

  loop : (s b : ℕ) (x : Instr) → Stands p s b x → NamesThere p (length g.vertices) (length a.operators) x
  loop s b (Suc0 q) e = h.named s b (Suc0 q) e
  loop s b (Suc1 q) e = h.named s b (Suc1 q) e
  loop s b (Pre0 q) e = h.named s b (Pre0 q) e
  loop s b (Pre1 q) e = h.named s b (Pre1 q) e
  loop s b (Call v ins outs) e = h.named s b (Call v ins outs) e
  loop s b (Send c o) e = (h.named s b (Send c o) e, (far_low s b (Send c o) e refl).0)
  loop s b (Recv c o) e = (h.named s b (Recv c o) e, (far_low s b (Recv c o) e refl).0)
  loop s b (Sync o q) e = far_low s b (Sync o q) e refl

  opening : (s b : ℕ) (x : Instr) → slice_get (prologue p s) b ≡ Some x → NamesThere p (length g.vertices) (length a.operators) x
  opening s b x e = by (slice_get p.seqs s) refl
    where
      by : (o : Option SeqCode) → slice_get p.seqs s ≡ o → NamesThere p (length g.vertices) (length a.operators) x
      by None q = let z : slice_get (prologue_of None) b ≡ Some x = ap (λ (k : Option SeqCode). slice_get (prologue_of k) b) (sym q) ∙ e in absurd cc
      by (Some k) q =
          let l = slice_get_within p.seqs s k q in
          let y = in_blocks (signals_of p s) (length (readers p)) b x (ap (λ (xs : List Instr). slice_get xs b) (sym (h.prologues s l)) ∙ e) in
          let is = from_repeated (Pre0 y.block) (opening_signals p s y.block) y.at x y.stands in
          let n = many p g (sequences a) (length a.media) order h in
          let within = y.within in
          subst (λ z. NamesThere p (length g.vertices) (length a.operators) z) (sym is) (omega arith)

  pub has_items : HasItems p g (sequences a) (length a.operators) (length a.media)
  has_items = record {
    named = record { sequences = h.sequences; loops = loop; prologues = opening };
    called = λ v x e. let c = h.called v x e in record { stands = c.stands; only = c.only; computes = c.computes; twins = c.twins };
    transferred = record { communicators = h.communicators; on_media = h.on_media; counts = h.counts; transfers = λ m t l k. transferred p g (sequences a) (length a.media) order h m t l k };
    written = record {
      buffers = λ b l. let w = h.buffers b l in
          record {
            instr = w.instr;
            stands = w.stands;
            writes = w.writes;
            only = w.only;
            near = w.near;
            own_reads =
                w.own_reads;
            some_place = w.some_place;
            few_places = w.few_places;
            one_place = w.one_place;
            made =
                all_made p g (sequences a) (length a.media) order h b l;
          };
      takes = λ v x e. (h.called v x e).takes;
      gives = λ v x e. (h.called v x e).gives;
      lengths = λ m t l k. (h.transferred m t l k).lengths;
      carries = h.carries;
    };
    guarded = record {
      numbered = h.numbered;
      pairs = λ q l. let w = h.pairs q l in
          record {
            take_empty = w.take_empty;
            signal_full = w.signal_full;
            take_full = w.take_full;
            signal_empty =
                w.signal_empty;
            before_write = w.before_write;
            after_write = w.after_write;
            reads = w.reads;
          };
    };
    opened = h.prologues;
  }
