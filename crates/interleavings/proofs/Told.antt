-- Every run is what its counts tell.
use Rattle.std.proofs.Common.{
  ◌≡◌,
  ℕ,
  zero,
  suc,
  ◌+◌,
  ◌-◌,
  ◌%◌,
  ◌<◌,
  ◌≤◌,
  ◌⊎◌,
  Bool,
  true,
  false,
  cond,
  eqb,
  ltb,
  List,
  [],
  ◌∷◌,
  Option,
  Some,
  None,
  refl,
  sym,
  ap,
  subst,
  inl,
  inr,
  ⊎_elim,
  arith,
  ◌∙◌,
  eq-eqb,
  ne_eqb,
  add-one,
  ℤ,
}
use Rattle.std.proofs.lemmas.Bool.{lt-ltb, le-ltb, cases_lt, cases_eq, eqb-true, leb-true}
use Rattle.interleavings.proofs.Rounds.{one_turn}
use Rattle.interleavings.specs.Precedence.{Precedence, one_more, IsConsistent, IsReady}
use Rattle.interleavings.specs.Sites.{step_at, hit}
use Rattle.interleavings.proofs.Cuts.{one_more-same, one_more-other, IsConsistent-zero, IsConsistent-more}
use Rattle.interleavings.specs.System.{
  run,
  System,
  State,
  Micro,
  take,
  see,
  sub,
  signal,
  await,
  advance,
  load,
  store,
  is_take,
  is_signal,
  advances,
  stores,
  total,
  total_to,
  full,
  next,
  enabled_by,
  step,
  done_by,
  told,
  latest,
  run_from,
  opening,
  put,
  place_number,
  round_number,
  half_number,
  turn_reached,
}
use Rattle.interleavings.specs.Sound.{IsRightAt, AreValues}
use Rattle.interleavings.proofs.Totals.{total_more}

-- The precedence holds the next step ready if and only if the test of the words says so.
abbrev pub AgreesWith : Type 0 → Type 0 → Type 0
AgreesWith ready test = (test → ready) × (ready → test)

module _ {P : Type 0} (w : System P) (p : Precedence) where
  -- What sequence s finds for this micro-step after the counts c: the word of a take, a see or a wait
  -- says whether the precedence holds the step ready, and any other step is ready and finds its word as
  -- it needs it.
  abbrev pub IsSoundAt : (ℕ → ℕ) → ℕ → Micro → Type 0
  IsSoundAt c s (take x) = AgreesWith (IsReady p c s) (total w (is_signal x) c - total w (is_take x) c ≡ 1)
  IsSoundAt c s (see x) = AgreesWith (IsReady p c s) (1 ≤ total w (is_signal x) c - total w (is_take x) c)
  -- what was seen is still there
  IsSoundAt c s (sub x) = IsReady p c s × (1 ≤ total w (is_signal x) c - total w (is_take x) c)
  IsSoundAt c s (signal x) = IsReady p c s × (total w (is_take x) c ≤ total w (is_signal x) c)
  IsSoundAt c s (await m i e) = AgreesWith (IsReady p c s)
      (turn_reached e (total w (advances m) c) (half_number w s (c s) m i) ≡ true)
  IsSoundAt c s (advance m i) = IsReady p c s
  -- a load finds its own round: that was stored, and the next one in the same place was not
  IsSoundAt c s (load y i) = IsReady p c s × (round_number w s (c s) y i < total w (stores y) c) ×
      (total w (stores y) c ≤ round_number w s (c s) y i + w.depth y)
  -- the rounds of an element are stored in order
  IsSoundAt c s (store y i) = IsReady p c s × (total w (stores y) c ≡ round_number w s (c s) y i)

  -- Each sequence finds this for its next micro-step after any consistent counts.
  abbrev pub IsSound : Type 0
  IsSound = (c : ℕ → ℕ) (s : ℕ) (m : Micro) → IsConsistent p c → s < w.sequences → c s < full w s →
      step_at (w.codes s) (c s) ≡ Some m → IsSoundAt c s m

pub one_at : (x y : ℕ) → x ≡ y → let one : ℕ = cond (eqb x y) 1 0 in one ≡ 1
one_at x y e = rw (eq-eqb x y e) refl

pub none_at : (x y : ℕ) → (x ≡ y → ⊥) → let one : ℕ = cond (eqb x y) 1 0 in one ≡ 0
none_at x y h = rw (ne_eqb x y h) refl

ext : {A B : Type 0} (f g : A → B) → ((x : A) → f x ≡ g x) → f ≡ g
ext f g h = λ i x. h x i

put_by : {A : Type 0} (f g : ℕ → A) (i : ℕ) (a : A) → g i ≡ a → ((j : ℕ) → (j ≡ i → ⊥) → g j ≡ f j) → put f i a ≡ g
put_by f g i a h k = ext (put f i a) g (λ j. ⊎_elim (λ e. rw (eq-eqb j i e) (sym h ∙ ap g (sym e))) (λ e. rw (ne_eqb j i e) (sym (k j e))) (cases_eq j i))

-- the place of round t holds it, as long as no later round used the place
pub latest_is : {P : Type 0} (w : System P) (f : ℕ → ℤ) (d t n : ℕ) → t < n → n ≤ t + d → latest w f d n (t % d) ≡ f t
latest_is w f d t zero h k = absurd (omega arith)
latest_is w f d t (suc n) h k = by (cases_eq n t) (λ l. latest_is w f d t n l)
  where
    by : (n ≡ t) ⊎ (n ≡ t → ⊥) → (t < n → n ≤ t + d → latest w f d n (t % d) ≡ f t) → latest w f d (suc n) (t % d) ≡ f t
    by (inl e) r = rw (eq-eqb (t % d) (n % d) (ap (λ (x : ℕ). x % d) (sym e))) (ap f e)
    by (inr e) r = let ne : t % d ≡ n % d → ⊥ = λ q. e (one_turn t n d (omega arith) (omega arith) q) in
        rw (ne_eqb (t % d) (n % d) ne) (r (omega arith) (omega arith))

module _ {P : Type 0} (w : System P) (p : Precedence) (same : (s : ℕ) → p.full s ≡ full w s) (d : IsSound w p)
    (stored : ℕ → ℕ → ℤ) (owned : ℕ → ℕ → P) (v : AreValues w stored owned) where
  abbrev Told : (ℕ → ℕ) → State P
  Told c = told w stored owned c

  abbrev sems : (ℕ → ℕ) → ℕ → ℕ
  sems c x = total w (is_signal x) c - total w (is_take x) c

  abbrev turns : (ℕ → ℕ) → ℕ → ℕ
  turns c m = total w (advances m) c

  abbrev eles : (ℕ → ℕ) → ℕ → ℕ → ℤ
  eles c y = latest w (stored y) (w.depth y) (total w (stores y) c)

  abbrev owns : (ℕ → ℕ) → ℕ → P
  owns c t = owned t (c t)

  own_same : (c : ℕ → ℕ) (s : ℕ) → owned s (c s + 1) ≡ owned s (c s) → owns c ≡ owns (one_more c s)
  own_same c s e = ext _ _ (λ t. ⊎_elim
      (λ q. subst (λ (u : ℕ). owned u (c u) ≡ owned u (one_more c s u)) (sym q) (sym (ap (owned s) (one_more-same c s) ∙ e)))
      (λ q. ap (owned t) (sym (one_more-other c s t q))) (cases_eq t s))

  own_put : (c : ℕ → ℕ) (s : ℕ) (x : P) → owned s (c s + 1) ≡ x → put (owns c) s x ≡ owns (one_more c s)
  own_put c s x e = put_by _ _ s x (ap (owned s) (one_more-same c s) ∙ e) (λ t q. ap (owned t) (one_more-other c s t q))

  module _ (c : ℕ → ℕ) (k : IsConsistent p c) (s : ℕ) (here : s < w.sequences) (l : c s < full w s) where
    kept : (t : Micro → Bool) {m : Micro} → step_at (w.codes s) (c s) ≡ Some m → hit t (Some m) ≡ 0 → total w t (one_more c s) ≡ total w t c
    kept t {m} e h = let f = total_more w t c s here in let g : hit t (step_at (w.codes s) (c s)) ≡ 0 = rw e h in omega arith

    more : (t : Micro → Bool) {m : Micro} → step_at (w.codes s) (c s) ≡ Some m → hit t (Some m) ≡ 1 → total w t (one_more c s) ≡ total w t c + 1
    more t {m} e h = let f = total_more w t c s here in let g : hit t (step_at (w.codes s) (c s)) ≡ 1 = rw e h in omega arith

    sems_kept : {m : Micro} → step_at (w.codes s) (c s) ≡ Some m → ((x : ℕ) → hit (is_take x) (Some m) ≡ 0) → ((x : ℕ) → hit (is_signal x) (Some m) ≡ 0) → sems c ≡ sems (one_more c s)
    sems_kept e t g = ext _ _ (λ y. let a = kept (is_take y) e (t y) in let b = kept (is_signal y) e (g y) in omega arith)

    turns_kept : {m : Micro} → step_at (w.codes s) (c s) ≡ Some m → ((x : ℕ) → hit (advances x) (Some m) ≡ 0) → turns c ≡ turns (one_more c s)
    turns_kept e t = ext _ _ (λ y. sym (kept (advances y) e (t y)))

    eles_kept : {m : Micro} → step_at (w.codes s) (c s) ≡ Some m → ((x : ℕ) → hit (stores x) (Some m) ≡ 0) → eles c ≡ eles (one_more c s)
    eles_kept e t = ext _ _ (λ y. ap (latest w (stored y) (w.depth y)) (sym (kept (stores y) e (t y))))

    abbrev Moves : Micro → Type 0
    Moves m = (done_by w (Told c) s (Some m) ≡ Told (one_more c s)) × IsReady p c s

    module _ (x : ℕ) where
      sems_less : {m : Micro} → step_at (w.codes s) (c s) ≡ Some m → hit (is_take x) (Some m) ≡ 1 → ((y : ℕ) → (y ≡ x → ⊥) → hit (is_take y) (Some m) ≡ 0) → ((y : ℕ) → hit (is_signal y) (Some m) ≡ 0)
          → (a : ℕ) → a ≡ sems c x - 1 → put (sems c) x a ≡ sems (one_more c s)
      sems_less e h o g a q = put_by _ _ x a
          (let b = more (is_take x) e h in let f = kept (is_signal x) e (g x) in omega arith)
          (λ y n. let b = kept (is_take y) e (o y n) in let f = kept (is_signal y) e (g y) in omega arith)

    by_enabled : (m : Micro) → step_at (w.codes s) (c s) ≡ Some m → IsSoundAt w p c s m → IsRightAt w stored owned s (c s) m → enabled_by w (Told c) s (Some m) ≡ true → Moves m
    by_enabled (take x) e o r q =
        let one : sems c x ≡ 1 = eqb-true _ 1 q in
        let a = sems_less x e (one_at x x refl) (λ y n. none_at x y (λ z. n (sym z))) (λ y. refl) 0 (omega (arith, one)) in
        let t = turns_kept e (λ y. refl) in let f = eles_kept e (λ y. refl) in let g = own_same c s r in
        (λ i. record { counts = one_more c s; semaphores = a i; turns = t i; elements = f i; own = g i }, o.0 one)
    by_enabled (see x) e o r q =
        let a = sems_kept e (λ y. refl) (λ y. refl) in let t = turns_kept e (λ y. refl) in let f = eles_kept e (λ y. refl) in let g = own_same c s r in
        (λ i. record { counts = one_more c s; semaphores = a i; turns = t i; elements = f i; own = g i }, o.0 (leb-true 1 (sems c x) q))
    by_enabled (sub x) e o r q =
        let a = sems_less x e (one_at x x refl) (λ y n. none_at x y (λ z. n (sym z))) (λ y. refl) (sems c x - 1) refl in
        let t = turns_kept e (λ y. refl) in let f = eles_kept e (λ y. refl) in let g = own_same c s r in
        (λ i. record { counts = one_more c s; semaphores = a i; turns = t i; elements = f i; own = g i }, o.0)
    by_enabled (signal x) e o r q =
        let a : put (sems c) x (sems c x + 1) ≡ sems (one_more c s) = put_by _ _ x _
        (let b = more (is_signal x) e (one_at x x refl) in let f = kept (is_take x) e refl in let z = o.1 in omega arith)
        (λ y n. let b = kept (is_signal y) e (none_at x y (λ z. n (sym z))) in let f = kept (is_take y) e refl in omega arith) in
        let t = turns_kept e (λ y. refl) in let f = eles_kept e (λ y. refl) in let g = own_same c s r in
        (λ i. record { counts = one_more c s; semaphores = a i; turns = t i; elements = f i; own = g i }, o.0)
    by_enabled (await m j b) e o r q =
        let a = sems_kept e (λ y. refl) (λ y. refl) in let t = turns_kept e (λ y. refl) in let f = eles_kept e (λ y. refl) in let g = own_same c s r in
        (λ i. record { counts = one_more c s; semaphores = a i; turns = t i; elements = f i; own = g i }, o.0 q)
    by_enabled (advance m j) e o r q =
        let t : put (turns c) m (turns c m + 1) ≡ turns (one_more c s) = put_by _ _ m _ (more (advances m) e (one_at m m refl)) (λ y n. kept (advances y) e (none_at m y (λ z. n (sym z)))) in
        let a = sems_kept e (λ y. refl) (λ y. refl) in let f = eles_kept e (λ y. refl) in let g = own_same c s r in
        (λ i. record { counts = one_more c s; semaphores = a i; turns = t i; elements = f i; own = g i }, o)
    by_enabled (load y j) e o r q =
        let found : eles c y (place_number w s (c s) y j) ≡ stored y (round_number w s (c s) y j) = latest_is w (stored y) (w.depth y) (round_number w s (c s) y j) (total w (stores y) c) o.1 o.2 in
        let g = own_put c s _ (r ∙ ap (w.absorb s (c s) (owned s (c s))) (sym found)) in
        let a = sems_kept e (λ z. refl) (λ z. refl) in let t = turns_kept e (λ z. refl) in let f = eles_kept e (λ z. refl) in
        (λ i. record { counts = one_more c s; semaphores = a i; turns = t i; elements = f i; own = g i }, o.0)
    by_enabled (store y j) e o r q =
        let n : total w (stores y) (one_more c s) ≡ suc (total w (stores y) c) = more (stores y) e (one_at y y refl) ∙ add-one _ in
        let f : put (eles c) y (put (eles c y) (place_number w s (c s) y j) (w.emit s (c s) (owned s (c s)))) ≡ eles (one_more c s) = put_by _ _ y _
        (ap (latest w (stored y) (w.depth y)) n
        ∙ ext _ _ (λ z. λ i. cond (eqb z (o.1 i % w.depth y)) ((ap (stored y) o.1 ∙ sym r.0) i) (eles c y z)))
        (λ z h. ap (latest w (stored z) (w.depth z)) (kept (stores z) e (none_at y z (λ u. h (sym u))))) in
        let g = own_put c s _ r.1 in
        let a = sems_kept e (λ z. refl) (λ z. refl) in let t = turns_kept e (λ z. refl) in
        (λ i. record { counts = one_more c s; semaphores = a i; turns = t i; elements = f i; own = g i }, o.0)

  -- one try of s keeps that the state is what its counts tell, and that these are consistent
  abbrev Kept : State P → Type 0
  Kept z = (z ≡ Told z.counts) × IsConsistent p z.counts

  module _ (c : ℕ → ℕ) (k : IsConsistent p c) (s : ℕ) where
    counts_of : (m : Micro) → (done_by w (Told c) s (Some m)).counts ≡ one_more c s
    counts_of (take x) = refl
    counts_of (see x) = refl
    counts_of (sub x) = refl
    counts_of (signal x) = refl
    counts_of (await m j b) = refl
    counts_of (advance m j) = refl
    counts_of (load y j) = refl
    counts_of (store y j) = refl

    moved : (m : Micro) → s < w.sequences → c s < full w s → step_at (w.codes s) (c s) ≡ Some m → enabled_by w (Told c) s (Some m) ≡ true → Kept (done_by w (Told c) s (Some m))
    moved m h l e q = let b = by_enabled c k s h l m e (d c s m k h l e) (v.right s (c s) m l e) q in
        subst Kept (sym b.0) (refl, IsConsistent-more p c s k b.1)

    tried : (m : Option Micro) → s < w.sequences → c s < full w s → step_at (w.codes s) (c s) ≡ m → (b : Bool) → enabled_by w (Told c) s m ≡ b → Kept (cond b (done_by w (Told c) s m) (Told c))
    tried None h l e true q = (refl, k)
    tried None h l e false q = (refl, k)
    tried (Some m) h l e true q = moved m h l e q
    tried (Some m) h l e false q = (refl, k)

    abbrev Tried : Option Micro → Type 0
    Tried m = Kept (cond (enabled_by w (Told c) s m) (done_by w (Told c) s m) (Told c))

    within_full : s < w.sequences → (c s < full w s) ⊎ (full w s ≤ c s) → Tried (cond (ltb (c s) (full w s)) (step_at (w.codes s) (c s)) None)
    within_full h (inl l) = rw (lt-ltb (c s) (full w s) l) (tried (step_at (w.codes s) (c s)) h l refl (enabled_by w (Told c) s (step_at (w.codes s) (c s))) refl)
    within_full h (inr l) = rw (le-ltb (c s) (full w s) l) (refl, k)

    within_all : (s < w.sequences) ⊎ (w.sequences ≤ s) → Tried (next w c s)
    within_all (inl h) = rw (lt-ltb s w.sequences h) (within_full h (cases_lt (c s) (full w s)))
    within_all (inr h) = rw (le-ltb s w.sequences h) (refl, k)

  step_told : (z : State P) → Kept z → (s : ℕ) → Kept (step w z s)
  step_told z k s = subst (λ (y : State P). Kept (step w y s)) (sym k.0) (within_all z.counts k.1 s (cases_lt s w.sequences))

  run_kept : (z : State P) → Kept z → (list : List ℕ) → Kept (run_from w z list)
  run_kept z k [] = k
  run_kept z k (s ∷ ss) = run_kept (step w z s) (step_told z k s) ss

  zero_to : (t : Micro → Bool) (n : ℕ) → total_to w t (λ _. 0) n ≡ 0
  zero_to t zero = refl
  zero_to t (suc n) = let e = zero_to t n in omega arith

  opening_kept : Kept (opening w)
  opening_kept = (λ i. record { counts = λ _. 0; semaphores = sem i; turns = turn i; elements = ele i; own = own i }, IsConsistent-zero p)
    where
      sem : (opening w).semaphores ≡ sems (λ _. 0)
      sem = ext _ _ (λ y. let a = zero_to (is_signal y) w.sequences in let b = zero_to (is_take y) w.sequences in omega arith)

      turn : (opening w).turns ≡ turns (λ _. 0)
      turn = ext _ _ (λ y. sym (zero_to (advances y) w.sequences))

      ele : (opening w).elements ≡ eles (λ _. 0)
      ele = ext _ _ (λ y. ap (latest w (stored y) (w.depth y)) (sym (zero_to (stores y) w.sequences)))

      own : w.start ≡ owns (λ _. 0)
      own = ext _ _ (λ s. sym (v.first s))

-- for any private state, over any precedence in which each next step is sound
pub told_always : {P : Type 0} (w : System P) (p : Precedence) (stored : ℕ → ℕ → ℤ) (owned : ℕ → ℕ → P)
    → ((s : ℕ) → p.full s ≡ full w s) → IsSound w p → AreValues w stored owned
    → (list : List ℕ) → (run w list ≡ told w stored owned (run w list).counts) × IsConsistent p (run w list).counts
told_always w p stored owned same d v list = run_kept w p same d stored owned v (opening w) (opening_kept w p same d stored owned v) list
