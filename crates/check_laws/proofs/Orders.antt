-- A program is well formed by an order exactly where it has all that is asked whatever the order, and the order keeps what each instruction awaits.
use Rattle.std.proofs.Common.{◌≡◌, ◌≢◌, ℕ, zero, suc, ◌+◌, ◌<◌, true, List, length, take, Some, refl, sym, ap, subst, inl, inr, arith, ◌∙◌}
use Rattle.std.specs.Prelude.{slice_get}
use Rattle.std.proofs.lemmas.Bool.{cases_eq}
use Rattle.std.proofs.lemmas.Option.{same_Some, slice_get_within}
use Rattle.std.proofs.lemmas.List.{take_all}
use Rattle.sequence_build_laws.specs.declared.Vertex.{Vertex}
use Rattle.sequence_build_laws.specs.Graph.{Graph}
use Rattle.sequence_build_laws.specs.declared.Seq.{Seq}
use Rattle.sequence_build_laws.specs.declared.Instr.{Instr}
use Rattle.sequence_build_laws.specs.declared.Instr.TheVariants.{Suc0, Suc1, Pre0, Pre1, Call, Send, Recv, Sync}
use Rattle.sequence_build_laws.specs.declared.Program.{Program}
use Rattle.sequence_build_laws.specs.Instructions.{is_communication, turn, medium, operator, communications}
use Rattle.sequence_build_laws.specs.MicroSteps.{transfers}
use Rattle.sequence_build_laws.specs.Places.{writing, pair, transfer, places, carried}
use Rattle.sequence_build_laws.specs.WellFormed.{Stands, Communicates, NamesIn, IsCalled, IsBuffer, IsPair, IsTransfer, FollowsLoops, IsOrder, place_in}
use Rattle.sequence_build_laws.proofs.Lists.{counts_tally, tally, tally_grows, tally_same}
use Rattle.check_laws.specs.Items.{NamesThere, IsTransferred, HasItems}
use Rattle.check_laws.specs.Run.{Place, awaited, on_medium, send_of, receive_of, receive_before}
use Rattle.check_laws.proofs.Running.{Keeps}

module _ (p : Program) where
  -- of one sequence the t-th communication is one instruction
  same_one : (m t s a b : ℕ) (x y : Instr) → Communicates p m t s a x → Communicates p m t s b y → (a ≡ b) × (x ≡ y)
  same_one m t s a b x y c d =
      let n = sym (counts_tally is_communication (take a (turn p s))) ∙ c.number ∙ sym d.number ∙ counts_tally is_communication (take b (turn p s)) in
      let e = tally_same is_communication (turn p s) a b x y c.stands d.stands c.is_one d.is_one n in
      (e, same_Some x y (sym c.stands ∙ ap (slice_get (turn p s)) e ∙ d.stands))

  same_at : (m t s r a b : ℕ) (x y : Instr) → Communicates p m t s a x → Communicates p m t r b y → s ≡ r → (a ≡ b) × (x ≡ y)
  same_at m t s r a b x y c d e = same_one m t s a b x y c (subst (λ u. Communicates p m t u b y) (sym e) d)

  -- the part of a communication in its transfer
  pub data Part (m t s a : ℕ) (x : Instr) : Type 0 where
    sends : s ≡ (transfer p m t).sender → a ≡ (transfer p m t).send_at → x ≡ Send (transfer p m t).sent (operator p (transfer p m t).receiver) → Part m t s a x
    receives : s ≡ (transfer p m t).receiver → a ≡ (transfer p m t).receive_at → x ≡ Recv (transfer p m t).received (operator p (transfer p m t).sender) → Part m t s a x
    waits : s ≢ (transfer p m t).sender → s ≢ (transfer p m t).receiver → x ≡ Sync (operator p (transfer p m t).sender) (operator p (transfer p m t).receiver) → Part m t s a x

  pub part : (m t s a : ℕ) (x : Instr) → IsTransferred p m t → Communicates p m t s a x → Part m t s a x
  part m t s a x r c = elim (cases_eq s (transfer p m t).sender) [
    | inl e ↦ (let z = same_at m t s (transfer p m t).sender a (transfer p m t).send_at x (Send (transfer p m t).sent (operator p (transfer p m t).receiver)) c r.sends e in sends e z.0 z.1)
    | inr n ↦ elim (cases_eq s (transfer p m t).receiver) [
      | inl e ↦ (let z = same_at m t s (transfer p m t).receiver a (transfer p m t).receive_at x
          (Recv (transfer p m t).received (operator p (transfer p m t).sender)) c r.receives e in receives e z.0 z.1)
      | inr k ↦ waits n k (r.others s a x c n k)
    ]
  ]

  -- what is awaited, where the medium and the number are known
  pub receive_awaits : (m t s a b o : ℕ) → medium p s ≡ Some m → communications p s a ≡ t → awaited p s a (Recv b o) ≡ send_of p m t
  receive_awaits m t s a b o e n = λ j. on_medium (e j) (λ m. send_of p m (n j))

  pub wait_awaits : (m t s a o q : ℕ) → medium p s ≡ Some m → communications p s a ≡ t → awaited p s a (Sync o q) ≡ receive_of p m t
  wait_awaits m t s a o q e n = λ j. on_medium (e j) (λ m. receive_of p m (n j))

  pub send_awaits : (m t s a b o : ℕ) → medium p s ≡ Some m → communications p s a ≡ t → awaited p s a (Send b o) ≡ receive_before p m t
  send_awaits m t s a b o e n = λ j. on_medium (e j) (λ m. receive_before p m (n j))

  module _ (g : Graph) (seqs : List Seq) (media : ℕ) (order : List ℕ) where
    abbrev before : Place → ℕ → ℕ → Type 0
    before y s a = place_in order y.sequence y.at < place_in order s a

    -- An order of a well-formed program.
    module _ (r : IsOrder p g seqs media order) where
      abbrev is_transfer : (m t : ℕ) → m < media → t < transfers p m → IsTransfer p order (places p) m t
      is_transfer = r.transferred

      pub transferred : (m t : ℕ) → m < media → t < transfers p m → IsTransferred p m t
      transferred m t l k = let z = r.transferred m t l k in record { sends = z.sends; receives = z.receives; others = λ s a x c n d. (z.others s a x c n d).0 }

      pub record Communication (s a : ℕ) (x : Instr) : Type 0 where
        pub on : ℕ
        pub low : on < media
        pub inside : communications p s a < transfers p on
        pub is : Communicates p on (communications p s a) s a x

      pub communication : (s a : ℕ) (x : Instr) → Stands p s a x → is_communication x ≡ true → Communication s a x
      communication s a x h e =
          let m = r.communicators s a x h e in
          let count = r.counts s m.0 m.1 in
          let rises = tally_grows is_communication (turn p s) a (length (turn p s)) x h e (slice_get_within (turn p s) a x h) in
          let whole = ap (tally is_communication) (take_all (length (turn p s)) (turn p s) (omega arith)) in
          let first = counts_tally is_communication (take a (turn p s)) in
          let second = counts_tally is_communication (turn p s) in
          record { on = m.0; low = r.on_media s m.0 m.1; inside = omega arith; is = record { on = m.1; stands = h; is_one = e; number = refl } }

      of_take : (q s a : ℕ) (y : Place) → Stands p s a (Suc1 q) → awaited p s a (Suc1 q) ≡ Some y → before y s a
      of_take q s a y h e =
          let w = r.pairs q (r.named s a (Suc1 q) h) in
          let at = w.take_full.only s a h in
          let z = same_Some (record { sequence = (writing p (pair p q).buffer).writer; at = (pair p q).signal_full }) y e in
          let f = w.full_first in
          let first : place_in order y.sequence y.at ≡ place_in order (writing p (pair p q).buffer).writer (pair p q).signal_full = λ j. place_in order (sym z j).sequence (sym z j).at in
          let second : place_in order s a ≡ place_in order (pair p q).reader (pair p q).take_full = λ j. place_in order (at.0 j) (at.1 j) in
          omega arith

      of_receive : (b o s a : ℕ) (y : Place) → Stands p s a (Recv b o) → awaited p s a (Recv b o) ≡ Some y → before y s a
      of_receive b o s a y h e = by (part c.on t s a (Recv b o) (transferred c.on t c.low c.inside) c.is)
        where
          c : Communication s a (Recv b o)
          c = communication s a (Recv b o) h refl

          t : ℕ
          t = communications p s a

          by : Part c.on (communications p s a) s a (Recv b o) → before y s a
          by (sends u v w) = absurd cc
          by (waits u v w) = absurd cc
          by (receives u v w) =
              let m = c.on in let k = communications p s a in
              let z = same_Some (record {
                sequence = (transfer p c.on (communications p s a)).sender;
                at =
                    (transfer p c.on (communications p s a)).send_at;
              }) y (sym (receive_awaits c.on (communications p s a) s a b o c.is.on refl) ∙ e) in
              let f = (r.transferred c.on (communications p s a) c.low c.inside).in_order in
              let first : place_in order y.sequence y.at
              ≡ place_in order (transfer p c.on (communications p s a)).sender (transfer p c.on (communications p s a)).send_at =
              λ j. place_in order (sym z j).sequence (sym z j).at in
              let second : place_in order s a
              ≡ place_in order (transfer p c.on (communications p s a)).receiver (transfer p c.on (communications p s a)).receive_at =
              λ j. place_in order (u j) (v j) in
              omega arith

      of_wait : (o q s a : ℕ) (y : Place) → Stands p s a (Sync o q) → awaited p s a (Sync o q) ≡ Some y → before y s a
      of_wait o q s a y h e = by (part c.on (communications p s a) s a (Sync o q) (transferred c.on (communications p s a) c.low c.inside) c.is)
        where
          c : Communication s a (Sync o q)
          c = communication s a (Sync o q) h refl

          by : Part c.on (communications p s a) s a (Sync o q) → before y s a
          by (sends u v w) = absurd cc
          by (receives u v w) = absurd cc
          by (waits u v w) =
              let z = same_Some (record {
                sequence = (transfer p c.on (communications p s a)).receiver;
                at =
                    (transfer p c.on (communications p s a)).receive_at;
              }) y (sym (wait_awaits c.on (communications p s a) s a o q c.is.on refl) ∙ e) in
              let f = ((r.transferred c.on (communications p s a) c.low c.inside).others s a (Sync o q) c.is u v).1 in
              let first : place_in order y.sequence y.at
              ≡ place_in order (transfer p c.on (communications p s a)).receiver (transfer p c.on (communications p s a)).receive_at =
              λ j. place_in order (sym z j).sequence (sym z j).at in
              omega arith

      of_send : (b o s a : ℕ) (y : Place) → Stands p s a (Send b o) → awaited p s a (Send b o) ≡ Some y → before y s a
      of_send b o s a y h e = by (part c.on (communications p s a) s a (Send b o) (transferred c.on (communications p s a) c.low c.inside) c.is)
        where
          c : Communication s a (Send b o)
          c = communication s a (Send b o) h refl

          after : (t : ℕ) → communications p s a ≡ t → s ≡ (transfer p c.on t).sender → a ≡ (transfer p c.on t).send_at → t < transfers p c.on → receive_before p c.on t ≡ Some y → before y s a
          after zero n u v l q = absurd cc
          after (suc t) n u v l q =
              let z = same_Some (record { sequence = (transfer p c.on t).receiver; at = (transfer p c.on t).receive_at }) y q in
              let one : t + 1 ≡ suc t = omega arith in
              let f = (r.transferred c.on t c.low (omega arith)).next (omega arith) in
              let first : place_in order y.sequence y.at ≡ place_in order (transfer p c.on t).receiver (transfer p c.on t).receive_at = λ j. place_in order (sym z j).sequence (sym z j).at in
              let second : place_in order s a ≡ place_in order (transfer p c.on (suc t)).sender (transfer p c.on (suc t)).send_at = λ j. place_in order (u j) (v j) in
              let third : place_in order (transfer p c.on (t + 1)).sender (transfer p c.on (t + 1)).send_at
              ≡ place_in order (transfer p c.on (suc t)).sender (transfer p c.on (suc t)).send_at =
              λ j. place_in order (transfer p c.on (one j)).sender (transfer p c.on (one j)).send_at in
              omega arith

          by : Part c.on (communications p s a) s a (Send b o) → before y s a
          by (receives u v w) = absurd cc
          by (waits u v w) = absurd cc
          by (sends u v w) = after (communications p s a) refl u v c.inside (sym (send_awaits c.on (communications p s a) s a b o c.is.on refl) ∙ e)

      pub keeps : Keeps p order
      keeps s a (Suc1 q) y h e = of_take q s a y h e
      keeps s a (Recv b o) y h e = of_receive b o s a y h e
      keeps s a (Sync o q) y h e = of_wait o q s a y h e
      keeps s a (Send b o) y h e = of_send b o s a y h e
      keeps s a (Suc0 q) y h e = absurd cc
      keeps s a (Pre0 q) y h e = absurd cc
      keeps s a (Pre1 q) y h e = absurd cc
      keeps s a (Call v ins outs) y h e = absurd cc

    -- An order that keeps what is awaited, where nothing else is missing.
    module _ (operators : ℕ) (items : HasItems p g seqs operators media) (follows : FollowsLoops p order) (kept : Keeps p order) where
      names : (x : Instr) → NamesThere p (length g.vertices) operators x → NamesIn p order (places p) (carried p) g x
      names (Suc0 q) h = h
      names (Suc1 q) h = h
      names (Pre0 q) h = h
      names (Pre1 q) h = h
      names (Call v ins outs) h = h
      names (Send b o) h = h.0
      names (Recv b o) h = h.0
      names (Sync o q) h = tt

      called : (v : ℕ) (x : Vertex) → slice_get g.vertices v ≡ Some x → IsCalled p order (places p) (carried p) g v x
      called v x e = let c = items.called v x e in record {
        stands = c.stands;
        only = c.only;
        computes = c.computes;
        takes = items.written.takes v x e;
        gives = items.written.gives v x e;
        twins = c.twins;
      }

      buffer : (b : ℕ) → b < length p.buffers → IsBuffer p order (places p) b
      buffer b l = let w = items.written.buffers b l in
          record {
            instr = w.instr;
            stands = w.stands;
            writes = w.writes;
            only = w.only;
            near = w.near;
            own_reads =
                w.own_reads;
            some_place = w.some_place;
            few_places = w.few_places;
            one_place = w.one_place;
          }

      paired : (q : ℕ) → q < length p.pairs → IsPair p order (places p) q
      paired q l = let w = items.guarded.pairs q l in record {
        take_empty = w.take_empty;
        signal_full = w.signal_full;
        take_full = w.take_full;
        signal_empty = w.signal_empty;
        before_write = w.before_write;
        after_write = w.after_write;
        full_first = kept (pair p q).reader (pair p q).take_full (Suc1 q) (record { sequence = (writing p (pair p q).buffer).writer; at = (pair p q).signal_full }) w.take_full.stands refl;
        reads = w.reads;
      }

      abbrev moved : (m t : ℕ) → m < media → t < transfers p m → IsTransferred p m t
      moved = items.transferred.transfers

      after_next : (m t : ℕ) → m < media → t + 1 < transfers p m → place_in order (transfer p m t).receiver (transfer p m t).receive_at
          < place_in order (transfer p m (t + 1)).sender (transfer p m (t + 1)).send_at
      after_next m t l k =
          let n = moved m (t + 1) l k in
          let one : t + 1 ≡ suc t = omega arith in
          kept (transfer p m (t + 1)).sender (transfer p m (t + 1)).send_at
          (Send (transfer p m (t + 1)).sent (operator p (transfer p m (t + 1)).receiver))
          (record { sequence = (transfer p m t).receiver; at = (transfer p m t).receive_at }) n.sends.stands
          (send_awaits m (t + 1) (transfer p m (t + 1)).sender (transfer p m (t + 1)).send_at (transfer p m (t + 1)).sent
          (operator p (transfer p m (t + 1)).receiver) n.sends.on n.sends.number ∙ ap (receive_before p m) one)

      is_moved : (m t : ℕ) → m < media → t < transfers p m → IsTransfer p order (places p) m t
      is_moved m t l k = let n = moved m t l k in record {
        sends = n.sends;
        receives = n.receives;
        others = λ s a x c u v. let is = n.others s a x c u v in (
          is,
          kept s a x (record { sequence = (transfer p m t).receiver; at = (transfer p m t).receive_at }) c.stands
              (ap (awaited p s a) is ∙ wait_awaits m t s a (operator p (transfer p m t).sender) (operator p (transfer p m t).receiver) c.on c.number),
        );
        in_order = kept (transfer p m t).receiver (transfer p m t).receive_at
            (Recv (transfer p m t).received (operator p (transfer p m t).sender))
            (record { sequence = (transfer p m t).sender; at = (transfer p m t).send_at }) n.receives.stands
            (receive_awaits m t (transfer p m t).receiver (transfer p m t).receive_at (transfer p m t).received (operator p (transfer p m t).sender) n.receives.on n.receives.number);
        next = λ h. after_next m t l h;
        lengths = items.written.lengths m t l k;
      }

      pub is_order : IsOrder p g seqs media order
      is_order = record {
        sequences = items.named.sequences;
        follows = follows;
        named = λ s a x h. names x (items.named.loops s a x h);
        called = called;
        buffers = buffer;
        numbered = items.guarded.numbered;
        pairs = paired;
        prologues = items.opened;
        communicators = items.transferred.communicators;
        on_media = items.transferred.on_media;
        counts = items.transferred.counts;
        transferred = is_moved;
        carries = items.written.carries;
      }
