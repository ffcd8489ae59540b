-- Pairs of semaphores of a well-formed program: each semaphore has one taker and one signaller.
use Rattle.std.proofs.Common.{◌≡◌, ℕ, ◌+◌, ◌*◌, ◌/◌, ◌%◌, ◌<◌, ◌≤◌, ◌⊎◌, Bool, true, false, cond, eqb, List, [], ◌∷◌, length, Some, refl, sym, ap, subst, inl, inr, ⊎_elim, arith, ◌∙◌}
use Rattle.std.specs.Prelude.{slice_get}
use Rattle.std.proofs.lemmas.Bool.{eqb-true, eq-eqb, ne_eqb}
use Rattle.executive_program.specs.System.{System, Micro, take as taken, see, sub, signal, await, advance, load, store, is_take, is_signal}
use Rattle.executive_program.specs.Owners.{Owner, IsOwned}
use Rattle.executive_program.specs.Pairs.{Pair, IsSemaphore, IsPair, late}
use Rattle.executive_program.specs.declared.program.Instr.{Instr}
use Rattle.executive_program.specs.declared.program.Instr.TheVariants.{Suc0, Suc1, Pre0, Pre1}
use Rattle.executive_program.specs.declared.program.Program.{Program}
use Rattle.executive_program.specs.Instructions.{prologue, pair_depth}
use Rattle.executive_program.specs.MicroSteps.{code, begins, size, takes}
use Rattle.executive_program.specs.Places.{Places}
use Rattle.executive_program.specs.WellFormed.{Stands, IsOnly}
use Rattle.executive_program.specs.WellFormed as WF
use Rattle.phase_laws.specs.Discipline.{signaller, empty_owner, full_owner}
use Rattle.phase_laws.proofs.Places.{micros_at, hit_one, stands_sequence, at_first, at_turn, origin, FromAt, owned, owned_late, earlier, front_at, front_from, front_length}
use Rattle.phase_laws.proofs.Setting.{Parts, Conditions, system_of}
use Rattle.phase_laws.proofs.From.{Takes, Signals}

pub even : (q : ℕ) → (2 * q % 2 ≡ 0) × (2 * q / 2 ≡ q)
even q = (omega arith, omega arith)

pub odd : (q : ℕ) → ((2 * q + 1) % 2 ≡ 1) × ((2 * q + 1) / 2 ≡ q)
odd q = (omega arith, omega arith)

refl_test : (x : ℕ) → eqb x x ≡ true
refl_test x = eq-eqb x x refl

module _ (p : Program) where
  -- the take is the first micro-step of its instruction where the buffer has one place, and else the second
  abbrev pub take_place : ℕ → ℕ
  take_place q = cond (eqb (pair_depth p q) 1) 0 1

  abbrev take_micro : ℕ → ℕ → Micro
  take_micro q z = cond (eqb (pair_depth p q) 1) (taken z) (sub z)

  take_stands : (q z : ℕ) → slice_get (takes (pair_depth p q) z) (take_place q) ≡ Some (take_micro q z)
  take_stands q z = by (eqb (pair_depth p q) 1)
    where
      by : (b : Bool) → slice_get (cond b (taken z ∷ []) (see z ∷ sub z ∷ [])) (cond b 0 1) ≡ Some (cond b (taken z) (sub z))
      by true = refl
      by false = refl

  take_passes : (q z : ℕ) → is_take z (take_micro q z) ≡ true
  take_passes q z = by (eqb (pair_depth p q) 1)
    where
      by : (b : Bool) → is_take z (cond b (taken z) (sub z)) ≡ true
      by true = refl_test z
      by false = refl_test z

  asks_first : (q z : ℕ) → (slice_get (takes (pair_depth p q) z) 0 ≡ Some (taken z)) ⊎ (slice_get (takes (pair_depth p q) z) 0 ≡ Some (see z))
  asks_first q z = by (eqb (pair_depth p q) 1)
    where
      by : (b : Bool) → (slice_get (cond b (taken z ∷ []) (see z ∷ sub z ∷ [])) 0 ≡ Some (taken z)) ⊎ (slice_get (cond b (taken z ∷ []) (see z ∷ sub z ∷ [])) 0 ≡ Some (see z))
      by true = inl refl
      by false = inr refl

  pub asks_at : (q s a z : ℕ) (x : Instr) → Stands p s a x → micros_at p s a x ≡ takes (pair_depth p q) z
      → (slice_get (code p s).turn (begins p s a) ≡ Some (taken z)) ⊎ (slice_get (code p s).turn (begins p s a) ≡ Some (see z))
  asks_at q s a z x st e = ⊎_elim (λ h. inl (at_first p s a x (taken z) st (ap (λ (l : List Micro). slice_get l 0) e ∙ h)))
      (λ h. inr (at_first p s a x (see z) st (ap (λ (l : List Micro). slice_get l 0) e ∙ h))) (asks_first q z)

  take_from : (x t a r : ℕ) (y : Instr) (d : Micro) → is_take x d ≡ true → FromAt p t a y r d → (q : ℕ) × (r ≡ take_place q) × Takes y x q
  take_from x t a r y (taken z) e f = (
    f.0,
    f.1 ∙ sym (ap (λ (b : Bool). cond b 0 1) (eq-eqb (pair_depth p f.0) 1 f.2)),
    ⊎_elim (λ u. inl (u.0, sym (eqb-true z x e) ∙ u.1)) (λ u. inr (u.0, sym (eqb-true z x e) ∙ u.1)) f.3,
  )
  take_from x t a r y (sub z) e f = (
    f.0,
    f.1 ∙ sym (ap (λ (b : Bool). cond b 0 1) (ne_eqb (pair_depth p f.0) 1 f.2)),
    ⊎_elim (λ u. inl (u.0, sym (eqb-true z x e) ∙ u.1)) (λ u. inr (u.0, sym (eqb-true z x e) ∙ u.1)) f.3,
  )
  take_from x t a r y (see z) e f = absurd cc
  take_from x t a r y (signal z) e f = absurd cc
  take_from x t a r y (await m i b) e f = absurd cc
  take_from x t a r y (advance m i) e f = absurd cc
  take_from x t a r y (load z i) e f = absurd cc
  take_from x t a r y (store z i) e f = absurd cc

  signal_from : (x t a r : ℕ) (y : Instr) (d : Micro) → is_signal x d ≡ true → FromAt p t a y r d → (q : ℕ) × (r ≡ 0) × Signals y x q
  signal_from x t a r y (signal z) e f = (f.0, f.1, ⊎_elim (λ u. inl (u.0, sym (eqb-true z x e) ∙ u.1)) (λ u. inr (u.0, sym (eqb-true z x e) ∙ u.1)) f.2)
  signal_from x t a r y (taken z) e f = absurd cc
  signal_from x t a r y (see z) e f = absurd cc
  signal_from x t a r y (sub z) e f = absurd cc
  signal_from x t a r y (await m i b) e f = absurd cc
  signal_from x t a r y (advance m i) e f = absurd cc
  signal_from x t a r y (load z i) e f = absurd cc
  signal_from x t a r y (store z i) e f = absurd cc

  pub same_place : (t s b a r k l : ℕ) → l ≡ begins p t b + r → t ≡ s → b ≡ a → r ≡ k → l ≡ begins p s a + k
  same_place t s b a r k l e x y z = e ∙ ap (λ (i : ℕ). begins p i b + r) x ∙ ap (λ (i : ℕ). begins p s i + r) y ∙ ap (λ (i : ℕ). begins p s a + i) z

  -- what comes from one place of an instruction alone, which stands once
  abbrev pub ComesFrom : (Micro → Bool) → Instr → ℕ → Type 0
  ComesFrom test x k = (t b r : ℕ) (y : Instr) (d : Micro) → test d ≡ true → FromAt p t b y r d → (r ≡ k) × (y ≡ x)

  pub only_at : (test : Micro → Bool) (s a : ℕ) (x : Instr) (k : ℕ) → IsOnly p s a x → ComesFrom test x k → (t l : ℕ) (d : Micro)
      → slice_get (code p t).turn l ≡ Some d → test d ≡ true → (t ≡ s) × (l ≡ begins p s a + k)
  only_at test s a x k o f t l d e h = let r = origin p t l d e in let z = f t r.index r.at r.instr d h r.from in
      let q = o.only t r.index (subst (λ (y : Instr). Stands p t r.index y) z.1 r.stands) in
      (q.0, same_place t s r.index a r.at k l r.is q.0 q.1 z.0)

  takes_empty : (q : ℕ) → ComesFrom (is_take (2 * q)) (Suc0 q) (take_place q)
  takes_empty q t b r y d e f = by (take_from (2 * q) t b r y d e f)
    where
      by : (n : ℕ) × (r ≡ take_place n) × Takes y (2 * q) n → (r ≡ take_place q) × (y ≡ Suc0 q)
      by (n, z, inl u) = let v = u.1 in let w : n ≡ q = omega arith in (z ∙ ap take_place w, u.0 ∙ ap (λ (k : ℕ). Suc0 k) w)
      by (n, z, inr u) = let v = u.1 in absurd (omega arith)

  takes_full : (q : ℕ) → ComesFrom (is_take (2 * q + 1)) (Suc1 q) (take_place q)
  takes_full q t b r y d e f = by (take_from (2 * q + 1) t b r y d e f)
    where
      by : (n : ℕ) × (r ≡ take_place n) × Takes y (2 * q + 1) n → (r ≡ take_place q) × (y ≡ Suc1 q)
      by (n, z, inl u) = let v = u.1 in absurd (omega arith)
      by (n, z, inr u) = let v = u.1 in let w : n ≡ q = omega arith in (z ∙ ap take_place w, u.0 ∙ ap (λ (k : ℕ). Suc1 k) w)

  signals_empty : (q : ℕ) → ComesFrom (is_signal (2 * q)) (Pre0 q) 0
  signals_empty q t b r y d e f = by (signal_from (2 * q) t b r y d e f)
    where
      by : (n : ℕ) × (r ≡ 0) × Signals y (2 * q) n → (r ≡ 0) × (y ≡ Pre0 q)
      by (n, z, inl u) = (z, u.0 ∙ ap (λ (k : ℕ). Pre0 k) (let v = u.1 in omega arith))
      by (n, z, inr u) = let v = u.1 in absurd (omega arith)

  signals_full : (q : ℕ) → ComesFrom (is_signal (2 * q + 1)) (Pre1 q) 0
  signals_full q t b r y d e f = by (signal_from (2 * q + 1) t b r y d e f)
    where
      by : (n : ℕ) × (r ≡ 0) × Signals y (2 * q + 1) n → (r ≡ 0) × (y ≡ Pre1 q)
      by (n, z, inl u) = let v = u.1 in absurd (omega arith)
      by (n, z, inr u) = (z, u.0 ∙ ap (λ (k : ℕ). Pre1 k) (let v = u.1 in omega arith))

abbrev pub writer : Places → ℕ → ℕ
writer w q = (w.writing (w.pair q).buffer).writer

-- The places of pair q's micro-steps: in the writer's loop it asks for the empty semaphore, takes it and signals the full one; in the reader's loop it is the other way round.
module _ (p : Program) (w : Places) where
  abbrev pub asks_empty : ℕ → ℕ
  asks_empty q = begins p (writer w q) (w.pair q).take_empty

  abbrev pub takes_empty_at : ℕ → ℕ
  takes_empty_at q = asks_empty q + take_place p q

  abbrev pub fills : ℕ → ℕ
  fills q = begins p (writer w q) (w.pair q).signal_full

  abbrev pub asks_full : ℕ → ℕ
  asks_full q = begins p (w.pair q).reader (w.pair q).take_full

  abbrev pub takes_full_at : ℕ → ℕ
  takes_full_at q = asks_full q + take_place p q

  -- pair q with its two semaphores and these places
  abbrev pub pair_of : ℕ → Pair
  pair_of q = record {
    empty = 2 * q;
    full = 2 * q + 1;
    depth = pair_depth p q;
    writer = writer w q;
    ask_empty = asks_empty q;
    take_empty = takes_empty_at q;
    signal_full = fills q;
    reader = (w.pair q).reader;
    ask_full = asks_full q;
    take_full = takes_full_at q;
    signal_empty = begins p (w.pair q).reader (w.pair q).signal_empty;
    front = (w.pair q).front;
  }

module _ (p : Program) (w : Places) (c : Conditions p w) {P : Type 0} (reactions : ℕ) (own : Parts P) where
  abbrev pub W : System P
  W = system_of p c.media reactions own

  abbrev pub S : ℕ → Owner
  S = signaller p w

  pub signaller_empty : (q : ℕ) → S (2 * q) ≡ empty_owner p w q
  signaller_empty q = rw ((even q).0, (even q).1) refl

  pub signaller_full : (q : ℕ) → S (2 * q + 1) ≡ full_owner p w q
  signaller_full q = rw ((odd q).0, (odd q).1) refl

  signals : (s i : ℕ) (x : Instr) → slice_get (prologue p s) i ≡ Some x → (q : ℕ) × (x ≡ Pre0 q)
  signals s i x e = let o = c.guarded.opened s i x e in (o.0, o.5)

  same_pair : (q n : ℕ) → Pre0 q ≡ Pre0 n → q ≡ n
  same_pair q n e = cc

  -- a prologue's micro-steps signal the empty semaphores of the pairs that the sequence reads
  pub front_is : (t i : ℕ) (d : Micro) → slice_get (code p t).prologue i ≡ Some d
      → (q : ℕ) × (q < length p.pairs) × ((w.pair q).reader ≡ t) × ((w.pair q).front ≤ i) × (i < (w.pair q).front + pair_depth p q) × (signal (2 * q) ≡ d)
  front_is t i d e = let f = front_from p t (signals t) i d e in let o = c.guarded.opened t i (Pre0 f.0) f.1 in
      (o.0, o.1, o.2, o.3, o.4, ap (λ (q : ℕ). signal (2 * q)) (sym (same_pair f.0 o.0 o.5)) ∙ f.2)

  pub front_no_take : (x t i : ℕ) (d : Micro) → slice_get (code p t).prologue i ≡ Some d → is_take x d ≡ true → ⊥
  front_no_take x t i d e k = let f = front_is t i d e in let z : is_take x (signal (2 * f.0)) ≡ true = ap (is_take x) f.5 ∙ k in cc

  front_signal : (x t i : ℕ) (d : Micro) → slice_get (code p t).prologue i ≡ Some d → is_signal x d ≡ true
      → (q : ℕ) × (q < length p.pairs) × ((w.pair q).reader ≡ t) × ((w.pair q).front ≤ i) × (i < (w.pair q).front + pair_depth p q) × (2 * q ≡ x)
  front_signal x t i d e k = let f = front_is t i d e in let z : is_signal x (signal (2 * f.0)) ≡ true = ap (is_signal x) f.5 ∙ k in
      (f.0, f.1, f.2, f.3, f.4, eqb-true (2 * f.0) x z)

  module _ (q : ℕ) (inside : q < length p.pairs) where
    abbrev one : WF.IsPair p c.order w q
    one = c.holds.pairs q inside

    empty_taken : IsOwned W (is_take (2 * q)) (late (writer w q) (takes_empty_at p w q))
    empty_taken = owned_late p c.media reactions own (is_take (2 * q)) (writer w q) (takes_empty_at p w q) (take_micro p q (2 * q))
        (at_turn p (writer w q) (w.pair q).take_empty (take_place p q) (Suc0 q) (take_micro p q (2 * q)) one.take_empty.stands (take_stands p q (2 * q))).0 (take_passes p q (2 * q))
        (stands_sequence p _ _ _ one.take_empty.stands)
        (only_at p (is_take (2 * q)) _ _ (Suc0 q) (take_place p q) one.take_empty (takes_empty p q)) (front_no_take (2 * q))

    full_taken : IsOwned W (is_take (2 * q + 1)) (late (w.pair q).reader (takes_full_at p w q))
    full_taken = owned_late p c.media reactions own (is_take (2 * q + 1)) (w.pair q).reader (takes_full_at p w q) (take_micro p q (2 * q + 1))
        (at_turn p (w.pair q).reader (w.pair q).take_full (take_place p q) (Suc1 q) (take_micro p q (2 * q + 1)) one.take_full.stands (take_stands p q (2 * q + 1))).0 (take_passes p q (2 * q + 1))
        (stands_sequence p _ _ _ one.take_full.stands)
        (only_at p (is_take (2 * q + 1)) _ _ (Suc1 q) (take_place p q) one.take_full (takes_full p q)) (front_no_take (2 * q + 1))

    full_signalled : IsOwned W (is_signal (2 * q + 1)) (full_owner p w q)
    full_signalled = owned_late p c.media reactions own (is_signal (2 * q + 1)) (writer w q) (fills p w q) (signal (2 * q + 1))
        (at_first p (writer w q) (w.pair q).signal_full (Pre1 q) (signal (2 * q + 1)) one.signal_full.stands refl) (refl_test (2 * q + 1))
        (stands_sequence p _ _ _ one.signal_full.stands)
        (λ t l d e k. let z = only_at p (is_signal (2 * q + 1)) _ _ (Pre1 q) 0 one.signal_full (signals_full p q) t l d e k in (z.0, let y = z.1 in omega arith))
        (λ t i d e k. let f = front_signal (2 * q + 1) t i d e k in let z = f.5 in omega arith)

    opening_at : (l : ℕ) → (w.pair q).front ≤ l → l < (w.pair q).front + pair_depth p q → slice_get (code p (w.pair q).reader).prologue l ≡ Some (signal (2 * q))
    opening_at l a b = front_at p (w.pair q).reader (signals (w.pair q).reader) l q (c.guarded.opens q l inside a b)

    empty_signalled : IsOwned W (is_signal (2 * q)) (empty_owner p w q)
    empty_signalled = owned p c.media reactions own (is_signal (2 * q)) (empty_owner p w q) (signal (2 * q))
        (at_first p (w.pair q).reader (w.pair q).signal_empty (Pre0 q) (signal (2 * q)) one.signal_empty.stands refl) (refl_test (2 * q))
        (stands_sequence p _ _ _ one.signal_empty.stands)
        (λ t l d e k. let z = only_at p (is_signal (2 * q)) _ _ (Pre0 q) 0 one.signal_empty (signals_empty p q) t l d e k in (z.0, let y = z.1 in omega arith))
        (λ t i d e k. let f = front_signal (2 * q) t i d e k in let z = f.5 in let y : f.0 ≡ q = omega arith in (
          sym f.2 ∙ ap (λ (n : ℕ). (w.pair n).reader) y,
          let u = f.3 in let v = ap (λ (n : ℕ). (w.pair n).front) y in omega arith,
          let u = f.4 in let v = ap (λ (n : ℕ). (w.pair n).front) y in let x = ap (λ (n : ℕ). pair_depth p n) y in omega arith,
        ))
        (let a = c.guarded.fits q inside in let b = front_length p (w.pair q).reader (signals (w.pair q).reader) in omega arith)
        (λ l a b. hit_one (is_signal (2 * q)) _ (signal (2 * q)) (opening_at l a b) (refl_test (2 * q)))

    pub empty_is : IsSemaphore W S (2 * q) (writer w q) (asks_empty p w q) (takes_empty_at p w q)
    empty_is = record {
      taken = empty_taken;
      signalled = subst (λ (o : Owner). IsOwned W (is_signal (2 * q)) o) (sym (signaller_empty q)) empty_signalled;
      before = omega arith;
      asked = asks_at p q (writer w q) (w.pair q).take_empty (2 * q) (Suc0 q) one.take_empty.stands refl;
    }

    pub full_is : IsSemaphore W S (2 * q + 1) (w.pair q).reader (asks_full p w q) (takes_full_at p w q)
    full_is = record {
      taken = full_taken;
      signalled = subst (λ (o : Owner). IsOwned W (is_signal (2 * q + 1)) o) (sym (signaller_full q)) full_signalled;
      before = omega arith;
      asked = asks_at p q (w.pair q).reader (w.pair q).take_full (2 * q + 1) (Suc1 q) one.take_full.stands refl;
    }

    -- the take's place lies within its instruction
    pub empty_within : take_place p q < size p (writer w q) (w.pair q).take_empty
    empty_within = (at_turn p (writer w q) (w.pair q).take_empty (take_place p q) (Suc0 q) (take_micro p q (2 * q)) one.take_empty.stands (take_stands p q (2 * q))).1

    pub full_within : take_place p q < size p (w.pair q).reader (w.pair q).take_full
    full_within = (at_turn p (w.pair q).reader (w.pair q).take_full (take_place p q) (Suc1 q) (take_micro p q (2 * q + 1)) one.take_full.stands (take_stands p q (2 * q + 1))).1

    in_reader : (w.pair q).take_full < (w.pair q).signal_empty
    in_reader = let r = c.guarded.some_read q inside in let u = one.reads r.0 r.1 r.2 r.3 r.4 in let a = u.0 in let b = u.1 in omega arith

    pub pair_is : IsPair W S (pair_of p w q)
    pair_is = record {
      empty_is = empty_is;
      full_is = full_is;
      empty_by = signaller_empty q;
      full_by = signaller_full q;
      in_writer = let a = one.before_write in let b = one.after_write in
          let z = earlier p (writer w q) (w.pair q).take_empty (w.pair q).signal_full (take_place p q) 0 (omega arith) empty_within in omega arith;
      in_reader = let z = earlier p (w.pair q).reader (w.pair q).take_full (w.pair q).signal_empty (take_place p q) 0 in_reader full_within in omega arith;
    }
