-- Buffers of a well-formed program: one writer of each element, and each load in its own sequence or between a pair's take and signal.
use Rattle.std.proofs.Common.{◌≡◌, ℕ, ◌+◌, ◌*◌, ◌<◌, ◌⊎◌, true, length, Option, Some, None, refl, sym, ap, subst, inl, inr, arith, ◌∙◌}
use Rattle.std.specs.Prelude.{slice_get}
use Rattle.std.proofs.lemmas.Option.{same_Some, slice_get_within}
use Rattle.std.proofs.lemmas.Bool.{eqb-true, eq-eqb, cases_eq, lt-ltb}
use Rattle.executive_program.specs.System.{System, Micro, take as taken, see, sub, signal, await, advance, load, store, stores}
use Rattle.executive_program.specs.Owners.{Owner}
use Rattle.executive_program.specs.Media.{Half}
use Rattle.executive_program.specs.Synchronized as V
use Rattle.executive_program.specs.declared.program.Instr.{Instr}
use Rattle.executive_program.specs.declared.program.Buffer.{Buffer}
use Rattle.executive_program.specs.declared.program.Program.{Program}
use Rattle.executive_program.specs.Instructions.{turn, len_of, len_in, depth_of, medium, number_or, communications}
use Rattle.executive_program.specs.MicroSteps.{code, begins, size, element_of, buffer_elements}
use Rattle.executive_program.specs.Places.{Places}
use Rattle.executive_program.specs.WellFormed.{Stands, WritesAt, ReadsAt}
use Rattle.executive_program.specs.WellFormed as WF
use Rattle.phase_laws.specs.Discipline.{signaller, half}
use Rattle.phase_laws.proofs.Blocks.{sum_same_block, sum_inside, block_at_is}
use Rattle.phase_laws.proofs.Places.{stands_sequence, at_turn, Origin, origin, FromAt, owned_late, earlier}
use Rattle.phase_laws.proofs.Setting.{Parts, Conditions, system_of}
use Rattle.phase_laws.proofs.From.{LoadsBuffer, StoresBuffer, StoresWire, store_place, store_stands}
use Rattle.phase_laws.proofs.Pairs.{same_place, front_is, take_place, writer, pair_of, empty_within, full_within, pair_is}

module _ (p : Program) where
  pub len_inside : (b j : ℕ) → j < len_of p b → b < length p.buffers
  len_inside b j h = by (slice_get p.buffers b) refl
    where
      by : (o : Option Buffer) → slice_get p.buffers b ≡ o → b < length p.buffers
      by None q = let z = ap len_in q in absurd (omega arith)
      by (Some x) q = slice_get_within p.buffers b x q

  pub element_low : (b j : ℕ) → j < len_of p b → element_of p b j < buffer_elements p
  element_low b j h = sum_inside (len_of p) (length p.buffers) b j (len_inside b j h) h

  pub same_element : (b j c i : ℕ) → j < len_of p b → i < len_of p c → element_of p b j ≡ element_of p c i → (b ≡ c) × (j ≡ i)
  same_element b j c i h g e = sum_same_block (len_of p) b c j i h g e

  abbrev pub MediumAt : ℕ → ℕ
  MediumAt s = number_or 0 (medium p s)

  pub store_from : (y t a r : ℕ) (x : Instr) (d : Micro) → stores y d ≡ true → FromAt p t a x r d
      → (i : ℕ) × (d ≡ store y i) × (StoresBuffer p x r y i ⊎ StoresWire p (MediumAt t) (communications p t a) x r y i)
  store_from y t a r x (store z i) e f = let q = eqb-true z y e in
      (i, ap (λ (k : ℕ). store k i) q, subst (λ (k : ℕ). StoresBuffer p x r k i ⊎ StoresWire p (MediumAt t) (communications p t a) x r k i) q f)
  store_from y t a r x (taken z) e f = absurd cc
  store_from y t a r x (see z) e f = absurd cc
  store_from y t a r x (sub z) e f = absurd cc
  store_from y t a r x (signal z) e f = absurd cc
  store_from y t a r x (await m i b) e f = absurd cc
  store_from y t a r x (advance m i) e f = absurd cc
  store_from y t a r x (load z i) e f = absurd cc

module _ (p : Program) (w : Places) (c : Conditions p w) {P : Type 0} (reactions : ℕ) (own : Parts P) where
  abbrev pub W : System P
  W = system_of p c.media reactions own

  abbrev pub S : ℕ → Owner
  S = signaller p w

  abbrev pub H : ℕ → ℕ → Half
  H = half p w

  pub front_no_store : (y t i : ℕ) (d : Micro) → slice_get (code p t).prologue i ≡ Some d → stores y d ≡ true → ⊥
  front_no_store y t i d e k = let f = front_is p w c reactions own t i d e in let z : stores y (signal (2 * f.0)) ≡ true = ap (stores y) f.5 ∙ k in cc

  module _ (b : ℕ) (inside : b < length p.buffers) where
    abbrev one : WF.IsBuffer p c.order w b
    one = c.holds.buffers b inside

    -- where element j of b is stored
    abbrev pub stored_at : ℕ → ℕ
    stored_at j = begins p (w.writing b).writer (w.writing b).at + store_place p (c.holds.buffers b inside).instr (w.writing b).port j

    -- any store of the element is this one
    pub only_store : (j t a r : ℕ) (x : Instr) (y i l : ℕ) → j < len_of p b → y ≡ element_of p b j → Stands p t a x
        → StoresBuffer p x r y i → l ≡ begins p t a + r → (t ≡ (w.writing b).writer) × (l ≡ stored_at j)
    only_store j t a r x y i l l1 e st s at = (
      u.0,
      same_place p t (w.writing b).writer a (w.writing b).at r (store_place p (c.holds.buffers b inside).instr (w.writing b).port j) l at u.0 u.1
          (s.at ∙ ap (λ (k : ℕ). store_place p x k s.number) u.2 ∙ ap (λ (k : ℕ). store_place p x (w.writing b).port k) m.1 ∙ ap (λ (v : Instr). store_place p v (w.writing b).port j) same),
    )
      where
        m : (s.buffer ≡ b) × (s.number ≡ j)
        m = same_element p s.buffer s.number b j s.inside l1 (sym s.is ∙ e)

        u : (t ≡ (w.writing b).writer) × (a ≡ (w.writing b).at) × (s.port ≡ (w.writing b).port)
        u = one.only t a s.port x st (subst (λ (k : ℕ). WritesAt x s.port k) m.0 s.writes)

        same : x ≡ (c.holds.buffers b inside).instr
        same = same_Some x _ (sym st ∙ ap (λ (k : ℕ). slice_get (turn p k) a) u.0 ∙ ap (λ (k : ℕ). slice_get (turn p (w.writing b).writer) k) u.1 ∙ one.stands)

    -- the element is a buffer's
    module _ (j : ℕ) (low : j < len_of p b) where
      store_here : (slice_get (code p (w.writing b).writer).turn (stored_at j) ≡ Some (store (element_of p b j) 0))
          × (store_place p (c.holds.buffers b inside).instr (w.writing b).port j < size p (w.writing b).writer (w.writing b).at)
      store_here = at_turn p (w.writing b).writer (w.writing b).at (store_place p one.instr (w.writing b).port j) one.instr (store (element_of p b j) 0) one.stands
          (store_stands p (MediumAt p (w.writing b).writer) (communications p (w.writing b).writer (w.writing b).at) one.instr (w.writing b).port b j one.writes low)

      only_here : (t l : ℕ) (d : Micro) → slice_get (code p t).turn l ≡ Some d → stores (element_of p b j) d ≡ true → (t ≡ (w.writing b).writer) × (l ≡ stored_at j)
      only_here t l d e k = let o = origin p t l d e in by o (store_from p (element_of p b j) t o.index o.at o.instr d k o.from)
        where
          by : (o : Origin p t l d) → (i : ℕ) × (d ≡ store (element_of p b j) i)
              × (StoresBuffer p o.instr o.at (element_of p b j) i ⊎ StoresWire p (MediumAt p t) (communications p t o.index) o.instr o.at (element_of p b j) i)
              → (t ≡ (w.writing b).writer) × (l ≡ stored_at j)
          by o (i, q, inl s) = only_store j t o.index o.at o.instr (element_of p b j) i l low refl o.stands s o.is
          by o (i, q, inr s) = let z = s.is in let v = element_low p b j low in absurd (omega arith)

      pub depth_is : W.depth (element_of p b j) ≡ depth_of p b
      depth_is = rw (lt-ltb (element_of p b j) (buffer_elements p) (element_low p b j low)) (ap (depth_of p) (block_at_is (len_of p) (length p.buffers) b j inside low))

      pub buffer_is : V.IsBuffer W S H (element_of p b j) (w.writing b).writer (stored_at j)
      buffer_is = record {
        written = owned_late p c.media reactions own (stores (element_of p b j)) (w.writing b).writer (stored_at j)
            (store (element_of p b j) 0) store_here.0 (eq-eqb (element_of p b j) (element_of p b j) refl)
            (stands_sequence p _ _ _ one.stands) only_here (front_no_store (element_of p b j));
        once = rw (lt-ltb (element_of p b j) (buffer_elements p) (element_low p b j low)) refl;
        some = let d = depth_is in let e = one.some_place in omega arith;
      }

      -- in the writing sequence it is loaded after the store
      pub own_load : (a k r l : ℕ) (x : Instr) → Stands p (w.writing b).writer a x → ReadsAt x k b → l
          ≡ begins p (w.writing b).writer a + r → V.IsOwnLoad W S H (w.writing b).writer l (element_of p b j) 0
      own_load a k r l x st rd at = record {
        st = stored_at j;
        buffer = buffer_is;
        first = refl;
        after = let z = earlier p (w.writing b).writer (w.writing b).at a (store_place p one.instr (w.writing b).port j) r (one.own_reads a k x st rd) store_here.1 in omega arith;
      }

  -- in another sequence, between the pair's take and signal
  pub pair_load : (q : ℕ) (inside : q < length p.pairs) (j a k r l : ℕ) (x : Instr) → j < len_of p (w.pair q).buffer
      → Stands p (w.pair q).reader a x → ReadsAt x k (w.pair q).buffer → l ≡ begins p (w.pair q).reader a + r → r < size p (w.pair q).reader a
      → V.IsPairLoad W S H (w.pair q).reader l (element_of p (w.pair q).buffer j) 0
  pair_load q inside j a k r l x low st rd at fits = record {
    pair = pair_of p w q;
    is_pair = pair_is p w c reactions own q inside;
    same = refl;
    depth = depth_is (w.pair q).buffer here j low ∙ sym (c.guarded.depth q inside);
    st = stored_at (w.pair q).buffer here j;
    buffer = buffer_is (w.pair q).buffer here j low;
    first = refl;
    store_after = earlier p (writer w q) (w.pair q).take_empty (w.writing (w.pair q).buffer).at (take_place p q)
        (store_place p (c.holds.buffers (w.pair q).buffer here).instr (w.writing (w.pair q).buffer).port j) of.before_write
        (empty_within p w c reactions own q inside);
    store_before = let z = earlier p (writer w q) (w.writing (w.pair q).buffer).at (w.pair q).signal_full
        (store_place p (c.holds.buffers (w.pair q).buffer here).instr (w.writing (w.pair q).buffer).port j) 0 of.after_write
        (store_here (w.pair q).buffer here j low).1 in omega arith;
    load_after = let z = earlier p (w.pair q).reader (w.pair q).take_full a (take_place p q) r (of.reads a k x st rd).0 (full_within p w c reactions own q inside) in omega arith;
    load_before = let z = earlier p (w.pair q).reader a (w.pair q).signal_empty r 0 (of.reads a k x st rd).1 fits in omega arith;
  }
    where
      of : WF.IsPair p c.order w q
      of = c.holds.pairs q inside

      here : (w.pair q).buffer < length p.buffers
      here = c.guarded.buffer q inside

  -- every load of a buffer's element
  abbrev LoadGoal : ℕ → ℕ → ℕ → ℕ → Type 0
  LoadGoal j l t b = V.IsOwnLoad W S H t l (element_of p b j) 0 ⊎ (V.IsPairLoad W S H t l (element_of p b j) 0 ⊎ V.IsFromWire W S H t l (element_of p b j) 0)

  pub buffer_load : (s a r l y i : ℕ) (x : Instr) → Stands p s a x → LoadsBuffer p x r y i → l ≡ begins p s a + r → r < size p s a
      → V.IsOwnLoad W S H s l y i ⊎ (V.IsPairLoad W S H s l y i ⊎ V.IsFromWire W S H s l y i)
  buffer_load s a r l y i x st f at fits = subst (λ (k : ℕ). V.IsOwnLoad W S H s l k i ⊎ (V.IsPairLoad W S H s l k i ⊎ V.IsFromWire W S H s l k i)) (sym f.is)
      (subst (λ (k : ℕ). V.IsOwnLoad W S H s l (element_of p f.buffer f.number) k
      ⊎ (V.IsPairLoad W S H s l (element_of p f.buffer f.number) k ⊎ V.IsFromWire W S H s l (element_of p f.buffer f.number) k)) (sym f.first)
      (by (cases_eq s (w.writing f.buffer).writer)))
    where
      inside : f.buffer < length p.buffers
      inside = len_inside p f.buffer f.number f.inside

      by : (s ≡ (w.writing f.buffer).writer) ⊎ (s ≡ (w.writing f.buffer).writer → ⊥) → LoadGoal f.number l s f.buffer
      by (inl e) = subst (λ (t : ℕ). LoadGoal f.number l t f.buffer) (sym e) (inl (own_load f.buffer inside f.number f.inside a f.port r l x
          (subst (λ (t : ℕ). Stands p t a x) e st) f.reads (subst (λ (t : ℕ). l ≡ begins p t a + r) e at)))
      by (inr n) = pairs (c.guarded.paired f.buffer s a f.port x inside n st f.reads)
        where
          pairs : (q : ℕ) × (q < length p.pairs) × ((w.pair q).buffer ≡ f.buffer) × ((w.pair q).reader ≡ s) → LoadGoal f.number l s f.buffer
          pairs (q, u, v, z) = subst (λ (t : ℕ). LoadGoal f.number l t f.buffer) z (subst (λ (b : ℕ). LoadGoal f.number l (w.pair q).reader b) v (inr (inl (pair_load q u f.number a f.port r l x
              (subst (λ (b : ℕ). f.number < len_of p b) (sym v) f.inside) (subst (λ (t : ℕ). Stands p t a x) (sym z) st) (subst (λ (b : ℕ). ReadsAt x f.port b) (sym v) f.reads)
              (subst (λ (t : ℕ). l ≡ begins p t a + r) (sym z) at) (subst (λ (t : ℕ). r < size p t a) (sym z) fits)))))

  pub buffer_store : (s a r l y i : ℕ) (x : Instr) → Stands p s a x → StoresBuffer p x r y i → l ≡ begins p s a + r → V.IsBufferStore W S H s l y i
  buffer_store s a r l y i x st f at = record {
    buffer = subst (λ (k : ℕ). V.IsBuffer W S H k s l) (sym f.is) (subst (λ (k : ℕ). V.IsBuffer W S H (element_of p f.buffer f.number) k l) (sym u.0)
        (subst (λ (k : ℕ). V.IsBuffer W S H (element_of p f.buffer f.number) (w.writing f.buffer).writer k) (sym u.1) (buffer_is f.buffer inside f.number f.inside)));
    first = f.first;
  }
    where
      inside : f.buffer < length p.buffers
      inside = len_inside p f.buffer f.number f.inside

      u : (s ≡ (w.writing f.buffer).writer) × (l ≡ stored_at f.buffer inside f.number)
      u = only_store f.buffer inside f.number s a r x y i l f.inside f.is st f at
