-- A well-formed program is synchronized.
use Rattle.std.proofs.Common.{◌≡◌, ℕ, ◌+◌, ◌*◌, ◌<◌, ◌≤◌, ◌⊎◌, length, Some, refl, sym, subst, inl, inr, ⊎_elim, arith, ◌∙◌}
use Rattle.std.specs.Prelude.{slice_get}
use Rattle.std.proofs.lemmas.Bool.{cases_lt, lt-ltb, le-ltb, ne_eqb}
use Rattle.executive_program.specs.Sites.{step_at, place_at}
use Rattle.executive_program.specs.System.{System, Micro, take as taken, see, sub, signal, load, store}
use Rattle.executive_program.specs.Owners.{Owner}
use Rattle.executive_program.specs.Media.{Half}
use Rattle.executive_program.specs.Pairs.{IsSemaphore}
use Rattle.executive_program.specs.InterleavingOrder.{IsJoined}
use Rattle.executive_program.specs.Synchronized as V
use Rattle.executive_program.specs.declared.program.Instr.{Instr}
use Rattle.executive_program.specs.declared.program.Instr.TheVariants.{Suc0, Suc1, Pre0, Pre1}
use Rattle.executive_program.specs.declared.program.Program.{Program}
use Rattle.executive_program.specs.Instructions.{pair_depth}
use Rattle.executive_program.specs.MicroSteps.{code, begins}
use Rattle.executive_program.specs.Places.{Places}
use Rattle.executive_program.specs.WellFormed.{Stands}
use Rattle.phase_laws.specs.Discipline.{signaller, half}
use Rattle.phase_laws.proofs.Places.{Origin, origin}
use Rattle.phase_laws.proofs.Setting.{Parts, Conditions, system_of}
use Rattle.phase_laws.proofs.From.{Takes, Signals}
use Rattle.phase_laws.proofs.Pairs.{same_place, front_is, take_place, writer, asks_empty, takes_empty_at, asks_full, takes_full_at, pair_of, empty_is, full_is, pair_is}
use Rattle.phase_laws.proofs.Buffers.{buffer_load, buffer_store}
use Rattle.phase_laws.proofs.Wires.{own_wait, sync_wait, to_wire, from_wire}

module _ (p : Program) (w : Places) (c : Conditions p w) {P : Type 0} (reactions : ℕ) (own : Parts P) where
  abbrev pub W : System P
  W = system_of p c.media reactions own

  abbrev pub S : ℕ → Owner
  S = signaller p w

  abbrev pub H : ℕ → ℕ → Half
  H = half p w

  abbrev Asked : ℕ → ℕ → ℕ → Type 0
  Asked s l x = (t : ℕ) × IsSemaphore W S x s l t

  -- what stands first in an instruction that takes a semaphore asks for it
  asked : (s l x a q : ℕ) (y : Instr) → Stands p s a y → l ≡ begins p s a + 0 → Takes y x q → (q < length p.pairs) × Asked s l x
  asked s l x a q y st at (inl u) = let here = subst (λ (z : Instr). Stands p s a z) u.0 st in let k = c.holds.named s a (Suc0 q) here in let o = (c.holds.pairs q k).take_empty.only s a here in
      let first = same_place p s _ a _ 0 0 l at o.0 o.1 refl in (
        k,
        (
          takes_empty_at p w q,
          subst (λ (z : ℕ). IsSemaphore W S z s l (takes_empty_at p w q)) (sym u.1)
              (subst (λ (z : ℕ). IsSemaphore W S (2 * q) z l (takes_empty_at p w q)) (sym o.0)
              (subst (λ (z : ℕ). IsSemaphore W S (2 * q) (writer w q) z (takes_empty_at p w q)) (let e : asks_empty p w q ≡ l = omega arith in e) (empty_is p w c reactions own q k))),
        ),
      )
  asked s l x a q y st at (inr u) = let here = subst (λ (z : Instr). Stands p s a z) u.0 st in let k = c.holds.named s a (Suc1 q) here in let o = (c.holds.pairs q k).take_full.only s a here in
      let first = same_place p s _ a _ 0 0 l at o.0 o.1 refl in (
        k,
        (
          takes_full_at p w q,
          subst (λ (z : ℕ). IsSemaphore W S z s l (takes_full_at p w q)) (sym u.1)
              (subst (λ (z : ℕ). IsSemaphore W S (2 * q + 1) z l (takes_full_at p w q)) (sym o.0)
              (subst (λ (z : ℕ). IsSemaphore W S (2 * q + 1) (w.pair q).reader z (takes_full_at p w q)) (let e : asks_full p w q ≡ l = omega arith in e) (full_is p w c reactions own q k))),
        ),
      )

  first_place : (s l : ℕ) (d : Micro) (r : Origin p s l d) → r.at ≡ 0 → l ≡ begins p s r.index + 0
  first_place s l d r z = let v = r.is in omega arith

  takes : (s l x : ℕ) → (slice_get (code p s).turn l ≡ Some (taken x)) ⊎ (slice_get (code p s).turn l ≡ Some (see x)) → Asked s l x
  takes s l x (inl e) = let r = origin p s l (taken x) e in let f = r.from in (asked s l x r.index f.0 r.instr r.stands (first_place s l (taken x) r f.1) f.3).1
  takes s l x (inr e) = let r = origin p s l (see x) e in let f = r.from in (asked s l x r.index f.0 r.instr r.stands (first_place s l (see x) r f.1) f.3).1

  -- what stands second in an instruction that takes a semaphore of a deep pair lowers it
  abbrev Lowered : ℕ → ℕ → ℕ → Type 0
  Lowered s l x = (a : ℕ) × IsSemaphore W S x s a l

  deep_take : (q : ℕ) → (pair_depth p q ≡ 1 → ⊥) → take_place p q ≡ 1
  deep_take q n = rw (ne_eqb (pair_depth p q) 1 n) refl

  lowered : (s l x a q : ℕ) (y : Instr) → Stands p s a y → l ≡ begins p s a + 1 → (pair_depth p q ≡ 1 → ⊥) → Takes y x q → Lowered s l x
  lowered s l x a q y st at n (inl u) = let here = subst (λ (z : Instr). Stands p s a z) u.0 st in let k = c.holds.named s a (Suc0 q) here in let o = (c.holds.pairs q k).take_empty.only s a here in
      let second = same_place p s _ a _ 1 (take_place p q) l at o.0 o.1 (sym (deep_take q n)) in (
        asks_empty p w q,
        subst (λ (z : ℕ). IsSemaphore W S z s (asks_empty p w q) l) (sym u.1)
            (subst (λ (z : ℕ). IsSemaphore W S (2 * q) z (asks_empty p w q) l) (sym o.0)
            (subst (λ (z : ℕ). IsSemaphore W S (2 * q) (writer w q) (asks_empty p w q) z) (let e : takes_empty_at p w q ≡ l = sym second in e) (empty_is p w c reactions own q k))),
      )
  lowered s l x a q y st at n (inr u) = let here = subst (λ (z : Instr). Stands p s a z) u.0 st in let k = c.holds.named s a (Suc1 q) here in let o = (c.holds.pairs q k).take_full.only s a here in
      let second = same_place p s _ a _ 1 (take_place p q) l at o.0 o.1 (sym (deep_take q n)) in (
        asks_full p w q,
        subst (λ (z : ℕ). IsSemaphore W S z s (asks_full p w q) l) (sym u.1)
            (subst (λ (z : ℕ). IsSemaphore W S (2 * q + 1) z (asks_full p w q) l) (sym o.0)
            (subst (λ (z : ℕ). IsSemaphore W S (2 * q + 1) (w.pair q).reader (asks_full p w q) z) (let e : takes_full_at p w q ≡ l = sym second in e) (full_is p w c reactions own q k))),
      )

  lowers : (s l x : ℕ) → slice_get (code p s).turn l ≡ Some (sub x) → Lowered s l x
  lowers s l x e = let r = origin p s l (sub x) e in let f = r.from in
      lowered s l x r.index f.0 r.instr r.stands (let v = r.is in let z = f.1 in let g : l ≡ begins p s r.index + 1 = omega arith in g) f.2 f.3

  -- a take is of a pair whose buffer has one place
  binary : (s l x : ℕ) → slice_get (code p s).turn l ≡ Some (taken x) → V.IsBinary W S H x
  binary s l x e = let r = origin p s l (taken x) e in let f = r.from in
      by f.0 (asked s l x r.index f.0 r.instr r.stands (first_place s l (taken x) r f.1) f.3).0 f.2 (⊎_elim (λ u. inl u.1) (λ u. inr u.1) f.3)
    where
      by : (q : ℕ) → q < length p.pairs → pair_depth p q ≡ 1 → (x ≡ 2 * q) ⊎ (x ≡ 2 * q + 1) → V.IsBinary W S H x
      by q i d k = record { pair = pair_of p w q; is_pair = pair_is p w c reactions own q i; one_place = d; is_one = k }

  abbrev Known : ℕ → Type 0
  Known x = (t : ℕ) × (a : ℕ) × (b : ℕ) × IsSemaphore W S x t a b

  known_empty : (q x : ℕ) → q < length p.pairs → x ≡ 2 * q → Known x
  known_empty q x i e = subst Known (sym e) (_, _, _, empty_is p w c reactions own q i)

  known_full : (q x : ℕ) → q < length p.pairs → x ≡ 2 * q + 1 → Known x
  known_full q x i e = subst Known (sym e) (_, _, _, full_is p w c reactions own q i)

  known_turn : (s l x : ℕ) → slice_get (code p s).turn l ≡ Some (signal x) → Known x
  known_turn s l x e = let r = origin p s l (signal x) e in by r r.from
    where
      by : (r : Origin p s l (signal x)) → (q : ℕ) × (r.at ≡ 0) × Signals r.instr x q → Known x
      by r (q, z, inl u) = known_empty q x (c.holds.named s r.index (Pre0 q) (subst (λ (y : Instr). Stands p s r.index y) u.0 r.stands)) u.1
      by r (q, z, inr u) = known_full q x (c.holds.named s r.index (Pre1 q) (subst (λ (y : Instr). Stands p s r.index y) u.0 r.stands)) u.1

  same_signal : (x y : ℕ) → signal x ≡ signal y → x ≡ y
  same_signal x y e = cc

  known_step : (s n x : ℕ) → step_at (code p s) n ≡ Some (signal x) → Known x
  known_step s n x e = by (cases_lt n (length (code p s).prologue))
    where
      by : (n < length (code p s).prologue) ⊎ (length (code p s).prologue ≤ n) → Known x
      by (inl l) = let u : step_at (code p s) n ≡ slice_get (code p s).prologue n = rw (lt-ltb n (length (code p s).prologue) l) refl in
          let f = front_is p w c reactions own s n (signal x) (sym u ∙ e) in known_empty f.0 x f.1 (sym (same_signal _ x f.5))
      by (inr l) = let u : step_at (code p s) n ≡ slice_get (code p s).turn (place_at (code p s) n) = rw (le-ltb n (length (code p s).prologue) l) refl in
          known_turn s (place_at (code p s) n) x (sym u ∙ e)

  loads : (s l y i : ℕ) → slice_get (code p s).turn l ≡ Some (load y i) → V.IsOwnLoad W S H s l y i ⊎ (V.IsPairLoad W S H s l y i ⊎ V.IsFromWire W S H s l y i)
  loads s l y i e = let r = origin p s l (load y i) e in
      ⊎_elim (λ f. buffer_load p w c reactions own s r.index r.at l y i r.instr r.stands f r.is r.inner)
      (λ f. inr (inr (from_wire p w c reactions own s r.index r.at l y i r.instr r.stands f r.is))) r.from

  stores : (s l y i : ℕ) → slice_get (code p s).turn l ≡ Some (store y i) → V.IsBufferStore W S H s l y i ⊎ V.IsToWire W S H s l y i
  stores s l y i e = let r = origin p s l (store y i) e in
      ⊎_elim (λ f. inl (buffer_store p w c reactions own s r.index r.at l y i r.instr r.stands f r.is))
      (λ f. inr (to_wire p w c reactions own s r.index r.at l y i r.instr r.stands f r.is)) r.from

  joined : IsJoined W S H
  joined = record {
    prologue = λ s i m e. let f = front_is p w c reactions own s i m e in (2 * f.0, sym f.5);
    takes = takes;
    lowers = lowers;
    waits = λ s l m i e. own_wait p w c reactions own s l m i e;
    syncs = λ s l m i e. sync_wait p w c reactions own s l m i e;
  }

  pub is_synchronized : V.IsSynchronized W S H
  is_synchronized = record {
    joined = joined;
    binary = binary;
    signalled = known_step;
    loads = loads;
    stores = stores;
  }
