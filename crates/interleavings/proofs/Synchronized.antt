-- The laws of all runs of a synchronized system.
use Rattle.std.proofs.Common.{◌≡◌, ℕ, zero, suc, ◌+◌, ◌-◌, ◌*◌, ◌<◌, ◌≤◌, true, false, List, [], ◌∷◌, length, Option, Some, None, refl, sym, ap, subst, inl, inr, ⊎_elim, arith, ◌∙◌, ℤ}
use Rattle.std.specs.Prelude.{slice_get}
use Rattle.std.proofs.lemmas.Option.{same_Some, slice_get_within}
use Rattle.std.proofs.lemmas.Bool.{lt-ltb, le-ltb, cases_lt, cases_eq}
use Rattle.interleavings.specs.Precedence.{Precedence, Event, event, IsMade, IsConsistent, IsReady}
use Rattle.interleavings.specs.Sites.{step_at, reaction_at, place_at, passes, number_of}
use Rattle.interleavings.proofs.Numbers.{reaction_number, number_split}
use Rattle.interleavings.proofs.Between.{passes_from, passes_not_past}
use Rattle.interleavings.proofs.Cuts.{progress}
use Rattle.interleavings.specs.System.{
  System,
  State,
  Micro,
  take,
  see,
  sub,
  signal,
  await,
  advance,
  load,
  store,
  is_take,
  is_signal,
  stores,
  total,
  run,
  told,
  enabled,
  enabled_by,
  full,
  next,
  round_number,
}
use Rattle.interleavings.specs.Owners.{Owner, nth_of}
use Rattle.interleavings.specs.Media.{Half, needed, precedence}
use Rattle.interleavings.specs.Pairs.{IsSemaphore, late}
use Rattle.interleavings.specs.Order.{IsOrdered}
use Rattle.interleavings.specs.Fresh.{IsFresh}
use Rattle.interleavings.specs.Sound.{AreValues}
use Rattle.interleavings.specs.Synchronized.{IsBinary, IsOwnLoad, IsPairLoad, IsFromWire, IsBufferStore, IsToWire, IsSynchronized}
use Rattle.interleavings.specs.Laws.{Discipline, IsDisciplined, HasLaws, Finds, RunsAreTold, RunsAreFresh, RunsProgress, RunsGoOn, ReachedFind}
use Rattle.interleavings.proofs.Totals.{total_nth, total_owned}
use Rattle.interleavings.proofs.Told.{told_always, IsSoundAt, IsSound}
use Rattle.interleavings.proofs.Media.{sync_sound, own_sound, wire_load, wire_store}
use Rattle.interleavings.proofs.Pairs.{passes_at, takes_le, at_most, buffer_load, seen}
use Rattle.interleavings.proofs.Progress.{enabled_at, finds_at, next_is}
use Rattle.interleavings.proofs.Fresh.{fresh}
use Rattle.interleavings.proofs.OneMore.{goes_on}
use Rattle.interleavings.proofs.Serial.{serial, turn_inside, rank_by}

module _ {P : Type 0} (w : System P) (signaller : ℕ → Owner) (half : ℕ → ℕ → Half) (rank : Event → ℕ) (d : IsSynchronized w signaller half) where
  abbrev Precedence' : Precedence
  Precedence' = precedence w signaller half rank

  module _ (c : ℕ → ℕ) (s : ℕ) (k : IsConsistent (precedence w signaller half rank) c) (here : s < w.sequences) (pending : c s < full w s) where
    clash : {f : Event} → ◌≡◌ {A = Option Event} None (Some f) → ⊥
    clash q = cc

    -- a step that needs nothing
    free : {m : Micro} → step_at (w.codes s) (c s) ≡ Some m → needed w signaller half (event s (c s)) (Some m) ≡ None → IsReady (precedence w signaller half rank) c s
    free e n = record { pending = pending; met = λ f q. absurd (clash (sym (ap (needed w signaller half (event s (c s))) e ∙ n) ∙ q)) }

    -- a step of the turn, in reaction j
    module _ (j l : ℕ) (at : c s ≡ number_of (w.codes s) j l) (inside : l < length (w.codes s).turn) where
      -- what asks for x is ready exactly where a signal is left
      module _ (x t : ℕ) (o : IsSemaphore w signaller x s l t) (m : Micro) (e : step_at (w.codes s) (c s) ≡ Some m)
          (n : needed w signaller half (event s (c s)) (Some m) ≡ Some (nth_of w (signaller x) (passes (is_take x) (w.codes s) (c s)))) where
        taken : total w (is_take x) c ≡ passes (is_take x) (w.codes s) (c s)
        taken = total_owned w (is_take x) (late s t) o.taken c

        needs_it : needed w signaller half (event s (c s)) (step_at (w.codes s) (c s)) ≡ Some (nth_of w (signaller x) (passes (is_take x) (w.codes s) (c s)))
        needs_it = ap (needed w signaller half (event s (c s))) e ∙ n

        left_ready : 1 ≤ total w (is_signal x) c - total w (is_take x) c → IsReady (precedence w signaller half rank) c s
        left_ready h = record {
          pending = pending;
          met = λ f q. subst (IsMade c) (same_Some _ f (sym needs_it ∙ q))
              ((total_nth w (is_signal x) (signaller x) o.signalled c (passes (is_take x) (w.codes s) (c s))).0 (omega (arith, taken)));
        }

        ready_left : IsReady (precedence w signaller half rank) c s → 1 ≤ total w (is_signal x) c - total w (is_take x) c
        ready_left r = let z = (total_nth w (is_signal x) (signaller x) o.signalled c (passes (is_take x) (w.codes s) (c s))).1 (r.met _ needs_it) in omega (arith, taken)

      binary_le : (x : ℕ) → IsBinary w signaller half x → total w (is_signal x) c ≤ total w (is_take x) c + 1
      binary_le x b = let z = at_most w signaller half rank c k b.pair b.is_pair in
          subst (λ (d : ℕ). total w (is_signal x) c ≤ total w (is_take x) c + d) b.one_place
          (⊎_elim (λ q. subst (λ (y : ℕ). total w (is_signal y) c ≤ total w (is_take y) c + b.pair.depth) (sym q) z.0)
          (λ q. subst (λ (y : ℕ). total w (is_signal y) c ≤ total w (is_take y) c + b.pair.depth) (sym q) z.1) b.is_one)

      round_is : (y i : ℕ) → round_number w s (c s) y i ≡ j * w.period y + i
      round_is y i = ap (λ (z : ℕ). reaction_at (w.codes s) z * w.period y + i) at ∙ ap (λ (z : ℕ). z * w.period y + i) (reaction_number (w.codes s) j l inside)

      once_is : (y i : ℕ) → w.period y ≡ 1 → i ≡ 0 → j * w.period y + i ≡ j
      once_is y i p z = ap (λ (n : ℕ). j * n + i) p ∙ omega (arith, z)

      abbrev LoadFinds : ℕ → ℕ → Type 0
      LoadFinds y r = (r < total w (stores y) c) × (total w (stores y) c ≤ r + w.depth y)

      own_load : (y i : ℕ) → IsOwnLoad w signaller half s l y i → LoadFinds y (j * w.period y + i)
      own_load y i x = let b = x.buffer in let o = total_owned w (stores y) (late s x.st) b.written c in
          let p = ap (passes (stores y) (w.codes s)) at in let e = once_is y i b.once x.first in let n = b.some in
          let lo = passes_from (stores y) (w.codes s) _ b.written.site j l x.after in
          let hi = passes_not_past (stores y) (w.codes s) _ b.written.site j l inside in (omega arith, omega arith)

      pair_load : (y i : ℕ) → IsPairLoad w signaller half s l y i → LoadFinds y (j * w.period y + i)
      pair_load y i x = let b = x.buffer in let e = once_is y i b.once x.first in
          let here = subst (λ (u : ℕ). c u ≡ number_of (w.codes u) j l) x.same at in
          let z = buffer_load w signaller half rank c k x.pair x.is_pair y x.st l j b.written x.store_after x.store_before x.load_after x.load_before here in
          (omega (arith, e, z.0), omega (arith, e, z.1, x.depth))

      wire_loads : (y i : ℕ) → IsFromWire w signaller half s l y i → LoadFinds y (j * w.period y + i)
      wire_loads y i x = wire_load w signaller half rank x.medium x.medium_is c k y x.half_of x.place_of x.wire s l i j x.within x.load_is at

      buffer_store : (y i : ℕ) → IsBufferStore w signaller half s l y i → total w (stores y) c ≡ j * w.period y + i
      buffer_store y i x = let b = x.buffer in total_owned w (stores y) (late s l) b.written c ∙ ap (passes (stores y) (w.codes s)) at
          ∙ passes_at w (stores y) s l l j b.written (omega arith) ∙ sym (once_is y i b.once x.first)

      wire_stores : (y i : ℕ) → IsToWire w signaller half s l y i → total w (stores y) c ≡ j * w.period y + i
      wire_stores y i x = let q : c s ≡ number_of (w.codes s) j (x.place_of i) = at ∙ ap (number_of (w.codes s) j) x.place in
          wire_store w signaller half rank x.medium x.medium_is c k y x.half_of x.place_of x.wire i j x.within
          (subst (λ (u : ℕ). c u ≡ number_of (w.codes u) j (x.place_of i)) x.same q)

      sound_at : (m : Micro) → slice_get (w.codes s).turn l ≡ Some m → step_at (w.codes s) (c s) ≡ Some m → IsSoundAt w (precedence w signaller half rank) c s m
      sound_at (take x) q e = let t = d.joined.takes s l x (inl q) in let b = binary_le x (d.binary s l x q) in
          (λ z. left_ready x t.0 t.1 (take x) e refl (omega arith), λ r. let z = ready_left x t.0 t.1 (take x) e refl r in omega arith)
      sound_at (see x) q e = let t = d.joined.takes s l x (inr q) in (left_ready x t.0 t.1 (see x) e refl, ready_left x t.0 t.1 (see x) e refl)
      sound_at (sub x) q e = (free e refl, let a = d.joined.lowers s l x q in seen w signaller half rank c k x s a.0 l a.1 j (earlier a.0 a.1) at)
        where
          earlier : (a : ℕ) → IsSemaphore w signaller x s a l → a < l
          earlier a o = ⊎_elim (λ e. absurd (clash_at e)) (λ n. let b = o.before in omega arith) (cases_eq a l)
            where
              clash_at : a ≡ l → ⊥
              clash_at e = ⊎_elim (λ u. absurd (let z : ◌≡◌ {A = Option Micro} (Some (take x)) (Some (sub x)) = sym u ∙ ap (λ (i : ℕ). slice_get (w.codes s).turn i) e ∙ q in cc))
                  (λ u. absurd (let z : ◌≡◌ {A = Option Micro} (Some (see x)) (Some (sub x)) = sym u ∙ ap (λ (i : ℕ). slice_get (w.codes s).turn i) e ∙ q in cc)) o.asked
      sound_at (signal x) q e = let t = d.signalled s (c s) x e in (free e refl, takes_le w signaller half rank c k x t.0 t.1 t.2 t.3)
      sound_at (await m i true) q e = let t = d.joined.waits s l m i q in own_sound w signaller half rank m t.0 c k s l i j pending t.1 at inside e
      sound_at (await m i false) q e = let t = d.joined.syncs s l m i q in sync_sound w signaller half rank m t.0 c k s i pending e
      sound_at (advance m i) q e = free e refl
      sound_at (load y i) q e = let r = round_is y i in
          let z : LoadFinds y (j * w.period y + i) = ⊎_elim (own_load y i) (⊎_elim (pair_load y i) (wire_loads y i)) (d.loads s l y i q) in
          subst (λ (n : ℕ). IsReady (precedence w signaller half rank) c s × (n < total w (stores y) c) × (total w (stores y) c ≤ n + w.depth y)) (sym r) (free e refl, z.0, z.1)
      sound_at (store y i) q e = (free e refl, ⊎_elim (buffer_store y i) (wire_stores y i) (d.stores s l y i q) ∙ sym (round_is y i))

    in_front : c s < length (w.codes s).prologue → (m : Micro) → step_at (w.codes s) (c s) ≡ Some m → IsSoundAt w (precedence w signaller half rank) c s m
    in_front h m e = subst (IsSoundAt w (precedence w signaller half rank) c s) (sym p.1)
        (let e' : step_at (w.codes s) (c s) ≡ Some (signal p.0) = e ∙ ap (λ (z : Micro). Some z) p.1 in
        let t = d.signalled s (c s) p.0 e' in (free e' refl, takes_le w signaller half rank c k p.0 t.0 t.1 t.2 t.3))
      where
        at : step_at (w.codes s) (c s) ≡ slice_get (w.codes s).prologue (c s)
        at = rw (lt-ltb (c s) (length (w.codes s).prologue) h) refl

        p : (x : ℕ) × (m ≡ signal x)
        p = d.joined.prologue s (c s) m (sym at ∙ e)

    in_turn : length (w.codes s).prologue ≤ c s → (m : Micro) → step_at (w.codes s) (c s) ≡ Some m → IsSoundAt w (precedence w signaller half rank) c s m
    in_turn h m e = sound_at (reaction_at (w.codes s) (c s)) (place_at (w.codes s) (c s)) (number_split (w.codes s) (c s) h)
        (slice_get_within (w.codes s).turn (place_at (w.codes s) (c s)) m (sym at ∙ e)) m (sym at ∙ e) e
      where
        at : step_at (w.codes s) (c s) ≡ slice_get (w.codes s).turn (place_at (w.codes s) (c s))
        at = rw (le-ltb (c s) (length (w.codes s).prologue) h) refl

  pub sound : IsSound w (precedence w signaller half rank)
  sound c s m k here pending e = ⊎_elim (λ h. in_front c s k here pending h m e) (λ h. in_turn c s k here pending h m e) (cases_lt (c s) (length (w.codes s).prologue))

is_some : {A : Type 0} (xs : List A) (i : ℕ) → i < length xs → (a : A) × (slice_get xs i ≡ Some a)
is_some [] i h = absurd (omega arith)
is_some (x ∷ xs) zero h = (x, refl)
is_some (x ∷ xs) (suc i) h = is_some xs i (omega arith)

-- of any private state
pub laws : {P : Type 0} (w : System P) (signaller : ℕ → Owner) (half : ℕ → ℕ → Half) (spot : ℕ → ℕ → ℕ) (steps front : ℕ) (stored : ℕ → ℕ → ℤ) (owned : ℕ → ℕ → P)
    → IsSynchronized w signaller half → IsOrdered w signaller half spot steps front → AreValues w stored owned → HasLaws w stored owned
laws {P} w signaller half spot steps front stored owned d o v = record {
  tells = λ list. (told' list).0;
  fresh = λ list. fresh w signaller half (rank_by w spot steps front) d (run w list).counts (told' list).1;
  goes_on = goes_on w stored owned (λ list. (told' list).0);
  finds = λ c s m r n. subst (λ (u : ℕ → ℕ). next w u s ≡ Some m → Finds w stored owned u s m) r.1 (found_in (run w r.0).counts (told' r.0).1 s m) n;
  reached_fresh = λ c r. subst (λ (u : ℕ → ℕ). IsFresh w u) r.1 (fresh w signaller half (rank_by w spot steps front) d (run w r.0).counts (told' r.0).1);
  progress = λ list s h l.
      let r = progress p (run w list).counts (serial w signaller half spot steps front o d.joined) (told' list).1 s h l in
      (r.0, r.1, subst (λ (z : State P). enabled w z r.0 ≡ true) (sym (told' list).0) (ready_enabled (run w list).counts r.0 (told' list).1 r.1 r.2));
}
  where
    p : Precedence
    p = precedence w signaller half (rank_by w spot steps front)

    told' : (list : List ℕ) → (run w list ≡ told w stored owned (run w list).counts) × IsConsistent (precedence w signaller half (rank_by w spot steps front)) (run w list).counts
    told' list = told_always w (precedence w signaller half (rank_by w spot steps front)) stored owned (λ s. refl) (sound w signaller half (rank_by w spot steps front) d) v list

    found_in : (c : ℕ → ℕ) → IsConsistent (precedence w signaller half (rank_by w spot steps front)) c → (s : ℕ) (m : Micro) → next w c s ≡ Some m → Finds w stored owned c s m
    found_in c k s m n = let a = next_is w c s m n in
        finds_at w (precedence w signaller half (rank_by w spot steps front)) stored owned c s m
        (sound w signaller half (rank_by w spot steps front) d c s m k a.0 a.1 a.2)

    step_is : (c : ℕ → ℕ) (s : ℕ) → c s < full w s → (m : Micro) × (step_at (w.codes s) (c s) ≡ Some m)
    step_is c s l = ⊎_elim
        (λ h. let a = is_some (w.codes s).prologue (c s) h in (a.0, rw (lt-ltb (c s) (length (w.codes s).prologue) h) a.1))
        (λ h. let a = is_some (w.codes s).turn (place_at (w.codes s) (c s))
        (turn_inside w signaller half spot steps front o s (c s) h l) in (a.0, rw (le-ltb (c s) (length (w.codes s).prologue) h) a.1))
        (cases_lt (c s) (length (w.codes s).prologue))

    ready_enabled : (c : ℕ → ℕ) (s : ℕ) → IsConsistent (precedence w signaller half (rank_by w spot steps front)) c → s < w.sequences
        → IsReady (precedence w signaller half (rank_by w spot steps front)) c s → enabled w (told w stored owned c) s ≡ true
    ready_enabled c s k h r = let m = step_is c s r.pending in
        let n : next w c s ≡ Some m.0 = rw (lt-ltb s w.sequences h, lt-ltb (c s) (full w s) r.pending) m.1 in
        ap (enabled_by w (told w stored owned c) s) n
        ∙ enabled_at w (precedence w signaller half (rank_by w spot steps front)) stored owned c s m.0
        (sound w signaller half (rank_by w spot steps front) d c s m.0 k h r.pending m.1) r

pub have_laws : {P : Type 0} (w : System P) (d : Discipline) (stored : ℕ → ℕ → ℤ) (owned : ℕ → ℕ → P) → IsDisciplined w d stored owned → HasLaws w stored owned
have_laws w d stored owned h = laws w d.signaller d.half d.spot d.steps d.front stored owned h.synchronized h.ordered h.values

pub runs_are_told : RunsAreTold
runs_are_told w d stored owned h = (have_laws w d stored owned h).tells

pub runs_are_fresh : RunsAreFresh
runs_are_fresh w d stored owned h = (have_laws w d stored owned h).fresh

pub runs_progress : RunsProgress
runs_progress w d stored owned h = (have_laws w d stored owned h).progress

pub runs_go_on : RunsGoOn
runs_go_on w d stored owned h = (have_laws w d stored owned h).goes_on

pub reached_find : ReachedFind
reached_find w d stored owned h = (have_laws w d stored owned h).finds
