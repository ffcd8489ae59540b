-- The laws of consistent cuts: the start, one more event, and progress.
use Rattle.std.proofs.Common.{◌≡◌, ℕ, zero, suc, ◌+◌, ◌<◌, ◌≤◌, Option, Some, None, eq-eqb, ne_eqb, refl, sym, ap, subst, arith, ◌∙◌}
use native.Mathlib.Decide.{dec_lt, ℕ_discrete}
use Rattle.interleavings.specs.Precedence.{Precedence, Event, event, IsMade, IsSerial, IsConsistent, IsReady, one_more}
use Rattle.interleavings.specs.CutLaws.{CutsAreConsistent, MakesProgress}

pub IsConsistent-zero : (p : Precedence) → IsConsistent p (λ _. 0)
IsConsistent-zero p = record { within = λ s. omega arith; made = λ e f h n. absurd (omega arith) }

pub same_event : (e : Event) (s n : ℕ) → e.sequence ≡ s → e.number ≡ n → e ≡ event s n
same_event e s n p q = λ i. record { sequence = p i; number = q i }

pub one_more-same : (c : ℕ → ℕ) (s : ℕ) → one_more c s s ≡ c s + 1
one_more-same c s = rw (eq-eqb s s refl) refl

pub one_more-other : (c : ℕ → ℕ) (s t : ℕ) → (t ≡ s → ⊥) → one_more c s t ≡ c t
one_more-other c s t h = rw (ne_eqb t s h) refl

pub one_more-le : (c : ℕ → ℕ) (s t : ℕ) → c t ≤ one_more c s t
one_more-le c s t = go (ℕ_discrete t s)
  where
    go : Dec (t ≡ s) → c t ≤ one_more c s t
    go (yes e) = rw (eq-eqb t s e) (omega arith)
    go (no h) = rw (ne_eqb t s h) (omega arith)

-- a ready event may be made
pub IsConsistent-more : (p : Precedence) (c : ℕ → ℕ) (s : ℕ) → IsConsistent p c → IsReady p c s → IsConsistent p (one_more c s)
IsConsistent-more p c s k r = record {
  within = λ t. within t (ℕ_discrete t s);
  made = λ e f h n. made e f h n (ℕ_discrete e.sequence s);
}
  where
    within : (t : ℕ) → Dec (t ≡ s) → one_more c s t ≤ p.full t
    within t (yes e) = rw (eq-eqb t s e) (let a = r.pending in let f : p.full t ≡ p.full s = ap p.full e in let g : c t ≡ c s = ap c e in omega arith)
    within t (no h) = rw (ne_eqb t s h) (k.within t)

    last : (e f : Event) → p.needs e ≡ Some f → e.sequence ≡ s → Dec (e.number < c s) → e.number < c s + 1 → IsMade c f
    last e f n q (yes h) l = let h' : e.number < c e.sequence = subst (λ (x : ℕ). e.number < c x) (sym q) h in k.made e f h' n
    last e f n q (no h) l = let i : e.number ≡ c s = omega arith in
        let w : e ≡ event s (c s) = same_event e s (c s) q i in
        r.met f (ap p.needs (sym w) ∙ n)

    made : (e f : Event) → IsMade (one_more c s) e → p.needs e ≡ Some f → Dec (e.sequence ≡ s) → IsMade (one_more c s) f
    made e f h n (yes q) =
        let b : e.number < c s + 1 = subst (λ (x : ℕ). e.number < x) (one_more-same c s) (subst (λ (x : ℕ). e.number < one_more c s x) q h) in
        let d : f.number < c f.sequence = last e f n q (dec_lt e.number (c s)) b in
        omega (arith, one_more-le c s f.sequence)
    made e f h n (no q) =
        let a : e.number < c e.sequence = subst (λ (x : ℕ). e.number < x) (one_more-other c s e.sequence q) h in
        let d : f.number < c f.sequence = k.made e f a n in
        omega (arith, one_more-le c s f.sequence)

-- Progress by descent: an event that is not ready waits for a pending event of a lower rank.
module _ (p : Precedence) (c : ℕ → ℕ) (o : IsSerial p) (k : IsConsistent p c) where
  abbrev Found : Type 0
  Found = (t : ℕ) × (t < p.sequences) × IsReady p c t

  lower : (t m : ℕ) → c t ≤ m → m < p.full t → p.rank (event t (c t)) ≤ p.rank (event t m)
  lower t m h f = go (ℕ_discrete (c t) m)
    where
      go : Dec (c t ≡ m) → p.rank (event t (c t)) ≤ p.rank (event t m)
      go (yes e) = let q : p.rank (event t (c t)) ≡ p.rank (event t m) = ap (λ (x : ℕ). p.rank (event t x)) e in omega arith
      go (no n) = let q : p.rank (event t (c t)) < p.rank (event t m) = o.rises t (c t) m (omega arith) f in omega arith

  abbrev Below : ℕ → Type 0
  Below fuel = (t : ℕ) → t < p.sequences → c t < p.full t → p.rank (event t (c t)) < fuel → Found

  met : (s : ℕ) (f : Event) → c s < p.full s → p.needs (event s (c s)) ≡ Some f → IsMade c f → IsReady p c s
  met s f h e l = record { pending = h; met = λ g n. let q : f ≡ g = cc in subst (IsMade c) q l }

  from_needed : (fuel s : ℕ) (f : Event) → Below fuel → s < p.sequences → c s < p.full s → p.rank (event s (c s)) < suc fuel
      → p.needs (event s (c s)) ≡ Some f → Dec (f.number < c f.sequence) → Found
  from_needed fuel s f below hs h r e (yes l) = (s, hs, met s f h e l)
  from_needed fuel s f below hs h r e (no n) =
      let a = o.needs_here (event s (c s)) f (hs, h) e in
      let b = o.needs_below (event s (c s)) f (hs, h) e in
      let d = lower f.sequence f.number (omega arith) a.1 in
      below f.sequence a.0 (omega arith) (omega arith)

  clash : {x : Option Event} (f : Event) → x ≡ Some f → x ≡ None → ⊥
  clash f n e = cc

  from_pending : (fuel s : ℕ) → Below fuel → s < p.sequences → c s < p.full s → p.rank (event s (c s)) < suc fuel
      → (x : Option Event) → p.needs (event s (c s)) ≡ x → Found
  from_pending fuel s below hs h r None e = (s, hs, record { pending = h; met = λ f n. absurd (clash f n e) })
  from_pending fuel s below hs h r (Some f) e = from_needed fuel s f below hs h r e (dec_lt f.number (c f.sequence))

  descend : (fuel : ℕ) → Below fuel
  descend zero s hs h r = absurd (omega arith)
  descend (suc fuel) s hs h r = from_pending fuel s (descend fuel) hs h r (p.needs (event s (c s))) refl

pub progress : MakesProgress
progress p c o k s hs h = descend p c o k (suc (p.rank (event s (c s)))) s hs h (omega arith)

pub cuts_are_consistent : CutsAreConsistent
cuts_are_consistent = record { opening = IsConsistent-zero; one_more = IsConsistent-more }
