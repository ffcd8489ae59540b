-- The sequences of an architecture: each is there once, and is found by what it is.
use Rattle.std.proofs.Common.{◌≡◌, ℕ, zero, suc, ◌+◌, ◌<◌, Bool, true, false, ◌&&◌, cond, nat_eq, List, [], ◌∷◌, length, Option, Some, None, refl, sym, ap, subst, arith, ◌∙◌, eq-eqb}
use Rattle.std.specs.Prelude.{slice_get, nat_lt}
use Rattle.std.specs.List.{list_all, range_with_len, position_or_len}
use Rattle.std.specs.Cmp.Derive.{both_true}
use Rattle.std.proofs.lemmas.Bool.{false≢true, and_parts, eqb-true, ltb-true}
use Rattle.std.proofs.lemmas.Option.{same_Some, slice_get_within}
use Rattle.schedule.specs.declared.Medium.{Medium}
use Rattle.schedule.specs.declared.Seq.{Seq}
use Rattle.schedule.specs.Archi.{Architecture, is_archi, is_medium, stands_at, are_bounded, are_distinct, names_of, are_joined}
use Rattle.schedule.specs.Sequences.{computation, communicator, communicators, sequences_of, sequences}
use Rattle.schedule.proofs.Bounds.{stands_below}
use Rattle.executive_program.proofs.Reading.{any_of}
use Rattle.sequence_build_laws.specs.Serial.{same_seq}
use Rattle.sequence_build_laws.proofs.Lists.{all_at, first, in_flat, flat_at, starts}
use Rattle.executive_program.specs.Instructions.{same_medium}

same_medium_is : (m n : Option ℕ) → same_medium m n ≡ true → m ≡ n
same_medium_is None None h = refl
same_medium_is None (Some n) h = absurd (false≢true h)
same_medium_is (Some m) None h = absurd (false≢true h)
same_medium_is (Some m) (Some n) h = ap (λ (k : ℕ). Some k) (eqb-true m n h)

same_medium_self : (m : Option ℕ) → same_medium m m ≡ true
same_medium_self None = refl
same_medium_self (Some m) = eq-eqb m m refl

pub medium_is_same : (m n : Option ℕ) → same_medium m n ≡ true → m ≡ n
medium_is_same m n h = same_medium_is m n h

pub same_medium_of : (m n : Option ℕ) → m ≡ n → same_medium m n ≡ true
same_medium_of m n e = subst (λ (k : Option ℕ). same_medium m k ≡ true) e (same_medium_self m)

seq_is : (q r : Seq) → q.operator ≡ r.operator → q.medium ≡ r.medium → q ≡ r
seq_is q r e h = λ i. record { operator = e i; medium = h i }

same_seq_is : (q r : Seq) → same_seq q r ≡ true → q ≡ r
same_seq_is q r h = let parts = and_parts (nat_eq q.operator r.operator) (same_medium q.medium r.medium) h in
    seq_is q r (eqb-true q.operator r.operator parts.0) (same_medium_is q.medium r.medium parts.1)

same_seq_self : (q : Seq) → same_seq q q ≡ true
same_seq_self q = both_true (eq-eqb q.operator q.operator refl) (same_medium_self q.medium)

pub range_at : (a n i o : ℕ) → slice_get (range_with_len a n) i ≡ Some o → o ≡ a + i
range_at a zero i o e = absurd cc
range_at a (suc n) zero o e = let z = same_Some a o e in omega arith
range_at a (suc n) (suc i) o e = let z = range_at (a + 1) n i o e in omega arith

pub range_there : (a n i : ℕ) → i < n → slice_get (range_with_len a n) i ≡ Some (a + i)
range_there a zero i h = absurd (omega arith)
range_there a (suc n) zero h = ap (λ (k : ℕ). Some k) (let z : a ≡ a + 0 = omega arith in z)
range_there a (suc n) (suc i) h = range_there (a + 1) n i (omega arith) ∙ ap (λ (k : ℕ). Some k) (let z : a + 1 + i ≡ a + suc i = omega arith in z)

pub range_length : (a n i o : ℕ) → slice_get (range_with_len a n) i ≡ Some o → i < n
range_length a zero i o e = absurd cc
range_length a (suc n) zero o e = omega arith
range_length a (suc n) (suc i) o e = let z = range_length (a + 1) n i o e in omega arith

-- an operator's communicators
record Communicator (o n : ℕ) (media : List Medium) (k : ℕ) (q : Seq) : Type 0 where
  at : ℕ
  number : ℕ
  is : q ≡ communicator o number
  number_is : number ≡ n + at
  medium : Medium
  there : slice_get media at ≡ Some medium

from_communicators : (o n : ℕ) (media : List Medium) (k : ℕ) (q : Seq) → slice_get (communicators o n media) k ≡ Some q → Communicator o n media k q
from_communicators o n [] k q e = absurd cc
from_communicators o n (m ∷ media) k q e = by (stands_at m o) k e (λ i. from_communicators o (n + 1) media i q)
  where
    next : (i : ℕ) → Communicator o (n + 1) media i q → (k : ℕ) → Communicator o n (m ∷ media) k q
    next i r k = record { at = suc r.at; number = r.number; is = r.is; number_is = (let z = r.number_is in omega arith); medium = r.medium; there = r.there }

    by : (b : Bool) (k : ℕ) → slice_get (cond b (communicator o n ∷ communicators o (n + 1) media) (communicators o (n + 1) media)) k ≡ Some q
        → ((i : ℕ) → slice_get (communicators o (n + 1) media) i ≡ Some q → Communicator o (n + 1) media i q) → Communicator o n (m ∷ media) k q
    by true zero e r = record { at = 0; number = n; is = sym (same_Some (communicator o n) q e); number_is = omega arith; medium = m; there = refl }
    by true (suc k) e r = next k (r k e) (suc k)
    by false k e r = next k (r k e) k

same_number : (o m n : ℕ) → communicator o m ≡ communicator o n → m ≡ n
same_number o m n e = same_Some m n (ap (λ (q : Seq). q.medium) e)

once : (o n : ℕ) (media : List Medium) (k h : ℕ) (q : Seq) → slice_get (communicators o n media) k ≡ Some q → slice_get (communicators o n media) h ≡ Some q → k ≡ h
once o n [] k h q e d = absurd cc
once o n (m ∷ media) k h q e d = by (stands_at m o) k h e d (λ i j. once o (n + 1) media i j q)
  where
    behind : (i : ℕ) → communicator o n ≡ q → slice_get (communicators o (n + 1) media) i ≡ Some q → ⊥
    behind i same d = let r = from_communicators o (n + 1) media i q d in let z = same_number o n r.number (same ∙ r.is) in let y = r.number_is in omega arith

    by : (b : Bool) (k h : ℕ) → slice_get (cond b (communicator o n ∷ communicators o (n + 1) media) (communicators o (n + 1) media)) k ≡ Some q
        → slice_get (cond b (communicator o n ∷ communicators o (n + 1) media) (communicators o (n + 1) media)) h ≡ Some q
        → ((i j : ℕ) → slice_get (communicators o (n + 1) media) i ≡ Some q → slice_get (communicators o (n + 1) media) j ≡ Some q → i ≡ j) → k ≡ h
    by true zero zero e d r = refl
    by true zero (suc h) e d r = absurd (behind h (same_Some (communicator o n) q e) d)
    by true (suc k) zero e d r = absurd (behind k (same_Some (communicator o n) q d) e)
    by true (suc k) (suc h) e d r = ap (λ (n : ℕ). suc n) (r k h e d)
    by false k h e d r = r k h e d

communicator_there : (o n : ℕ) (media : List Medium) (i : ℕ) (m : Medium) → slice_get media i ≡ Some m → stands_at m o ≡ true → (k : ℕ)
    × (slice_get (communicators o n media) k ≡ Some (communicator o (n + i)))
communicator_there o n [] i m e h = absurd cc
communicator_there o n (x ∷ media) zero m e h = by (stands_at x o) (ap (λ (z : Medium). stands_at z o) (same_Some x m e) ∙ h)
  where
    by : (b : Bool) → b ≡ true → (k : ℕ) × (slice_get (cond b (communicator o n ∷ communicators o (n + 1) media) (communicators o (n + 1) media)) k ≡ Some (communicator o (n + 0)))
    by true t = (0, ap (λ (k : ℕ). Some (communicator o k)) (let z : n ≡ n + 0 = omega arith in z))
    by false t = absurd (false≢true t)
communicator_there o n (x ∷ media) (suc i) m e h = by (stands_at x o) (communicator_there o (n + 1) media i m e h)
  where
    same : ◌≡◌ {A = Option Seq} (Some (communicator o (n + 1 + i))) (Some (communicator o (n + suc i)))
    same = ap (λ (k : ℕ). Some (communicator o k)) (let z : n + 1 + i ≡ n + suc i = omega arith in z)

    by : (b : Bool) → (k : ℕ) × (slice_get (communicators o (n + 1) media) k ≡ Some (communicator o (n + 1 + i)))
        → (k : ℕ) × (slice_get (cond b (communicator o n ∷ communicators o (n + 1) media) (communicators o (n + 1) media)) k ≡ Some (communicator o (n + suc i)))
    by true r = (suc r.0, r.1 ∙ same)
    by false r = (r.0, r.1 ∙ same)

module _ (a : Architecture) where
  abbrev operators : List ℕ
  operators = range_with_len 0 (length a.operators)

  operator_of : (o k : ℕ) (q : Seq) → slice_get (sequences_of a.media o) k ≡ Some q → q.operator ≡ o
  operator_of o zero q e = ap (λ (r : Seq). r.operator) (sym (same_Some (computation o) q e))
  operator_of o (suc k) q e = let r = from_communicators o 0 a.media k q e in ap (λ (r : Seq). r.operator) r.is

  once_of : (o k h : ℕ) (q : Seq) → slice_get (sequences_of a.media o) k ≡ Some q → slice_get (sequences_of a.media o) h ≡ Some q → k ≡ h
  once_of o zero zero q e d = refl
  once_of o zero (suc h) q e d = let r = from_communicators o 0 a.media h q d in let z : None ≡ Some r.number = ap (λ (r : Seq). r.medium) (same_Some (computation o) q e ∙ r.is) in absurd cc
  once_of o (suc k) zero q e d = let r = from_communicators o 0 a.media k q e in let z : None ≡ Some r.number = ap (λ (r : Seq). r.medium) (same_Some (computation o) q d ∙ r.is) in absurd cc
  once_of o (suc k) (suc h) q e d = ap (λ (n : ℕ). suc n) (once o 0 a.media k h q e d)

  -- no sequence is there twice
  pub one_sequence : (s t : ℕ) (q : Seq) → slice_get (sequences a) s ≡ Some q → slice_get (sequences a) t ≡ Some q → s ≡ t
  one_sequence s t q e d =
      let x = in_flat (sequences_of a.media) operators s q e in
      let y = in_flat (sequences_of a.media) operators t q d in
      let i = range_at 0 (length a.operators) x.at x.it x.is_it in
      let j = range_at 0 (length a.operators) y.at y.it y.is_it in
      let o : x.it ≡ y.it = sym (operator_of x.it x.inner q x.stands) ∙ operator_of y.it y.inner q y.stands in
      let at : x.at ≡ y.at = omega arith in
      let k = once_of x.it x.inner y.inner q x.stands (ap (λ (o : ℕ). slice_get (sequences_of a.media o) y.inner) o ∙ y.stands) in
      x.is ∙ (λ i. starts (sequences_of a.media) operators (at i) + k i) ∙ sym y.is

  -- a sequence is found where it is
  abbrev number : Seq → ℕ
  number q = position_or_len (same_seq q) (sequences a)

  found : (s : ℕ) (q : Seq) → slice_get (sequences a) s ≡ Some q → slice_get (sequences a) (position_or_len (same_seq q) (sequences a)) ≡ Some q
  found s q e = let f = first (same_seq q) (sequences a) s q e (same_seq_self q) in f.stands ∙ ap (λ (r : Seq). Some r) (sym (same_seq_is q f.it f.passes))

  pub computation_there : (o : ℕ) → o < length a.operators
      → slice_get (sequences a) (position_or_len (same_seq (record { operator = o; medium = None })) (sequences a))
      ≡ Some (record { operator = o; medium = None })
  computation_there o h =
      let at : slice_get operators o ≡ Some o = range_there 0 (length a.operators) o h ∙ ap (λ (k : ℕ). Some k) (let z : 0 + o ≡ o = omega arith in z) in
      found (starts (sequences_of a.media) operators o + 0) (computation o) (flat_at (sequences_of a.media) operators o 0 o (computation o) at refl)

  pub communicator_of : (o m : ℕ) (x : Medium) → o < length a.operators → slice_get a.media m ≡ Some x → stands_at x o ≡ true
      → slice_get (sequences a) (position_or_len (same_seq (record { operator = o; medium = Some m })) (sequences a)) ≡ Some (record { operator = o; medium = Some m })
  communicator_of o m x h e t =
      let at : slice_get operators o ≡ Some o = range_there 0 (length a.operators) o h ∙ ap (λ (k : ℕ). Some k) (let z : 0 + o ≡ o = omega arith in z) in
      let c = communicator_there o 0 a.media m x e t in
      let same : ◌≡◌ {A = Option Seq} (Some (communicator o (0 + m))) (Some (communicator o m)) = ap (λ (k : ℕ). Some (communicator o k)) (let z : 0 + m ≡ m = omega arith in z) in
      found (starts (sequences_of a.media) operators o + suc c.0) (communicator o m) (flat_at (sequences_of a.media) operators o (suc c.0) o (communicator o m) at (c.1 ∙ same))

  -- the medium of a communicator is there
  pub medium_low : (s m : ℕ) (q : Seq) → slice_get (sequences a) s ≡ Some q → q.medium ≡ Some m → m < length a.media
  medium_low s m q e h = let x = in_flat (sequences_of a.media) operators s q e in by x.it x.inner x.stands
    where
      by : (o k : ℕ) → slice_get (sequences_of a.media o) k ≡ Some q → m < length a.media
      by o zero d = let z : None ≡ Some m = ap (λ (r : Seq). r.medium) (same_Some (computation o) q d) ∙ h in absurd cc
      by o (suc k) d = let r = from_communicators o 0 a.media k q d in let z : r.number ≡ m = same_Some r.number m (ap (λ (r : Seq). r.medium) (sym r.is) ∙ h) in
          let w = slice_get_within a.media r.at r.medium r.there in let y = r.number_is in omega arith

  -- who stands at a valid architecture's medium is an operator
  pub stands_low : is_archi a.operators a.media ≡ true → (m o : ℕ) (x : Medium) → slice_get a.media m ≡ Some x → stands_at x o ≡ true → o < length a.operators
  stands_low h m o x e t =
      let first = and_parts (are_bounded a.operators a.media && list_all (is_medium (length a.operators)) a.media
      && are_distinct (names_of a.operators a.media)) (are_joined (length a.operators) a.media) h in
      let second = and_parts (are_bounded a.operators a.media && list_all (is_medium (length a.operators)) a.media) (are_distinct (names_of a.operators a.media)) first.0 in
      let media = (and_parts (are_bounded a.operators a.media) (list_all (is_medium (length a.operators)) a.media) second.0).1 in
      let right = all_at (is_medium (length a.operators)) a.media media m x e in
      let low = stands_below (length a.operators) x right in
      let k = any_of (nat_eq o) x.stands t in
      let z = ltb-true k.1 (length a.operators) (all_at (λ p. nat_lt p (length a.operators)) x.stands low k.0 k.1 k.2) in
      let y = eqb-true o k.1 k.3 in
      omega arith
