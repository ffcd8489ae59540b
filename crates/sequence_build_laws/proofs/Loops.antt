-- A program whose loops are the projections of a serial order: what stands in a loop stands in the order, and the other way round.
use Rattle.std.proofs.Common.{◌≡◌, ℕ, zero, suc, ◌+◌, ◌<◌, Bool, true, false, cond, nat_eq, List, [], ◌∷◌, length, map, take, Option, Some, None, refl, sym, ap, arith, ◌∙◌, eq-eqb}
use Rattle.std.specs.Prelude.{slice_get}
use Rattle.std.specs.List.{filter, list_any}
use Rattle.std.proofs.lemmas.Bool.{eqb-true}
use Rattle.std.proofs.lemmas.Option.{same_Some, slice_get_within}
use Rattle.std.proofs.lemmas.List.{length-map}
use Rattle.schedule.specs.declared.Seq.{Seq}
use Rattle.executive_program.specs.declared.program.Instr.{Instr}
use Rattle.executive_program.specs.declared.program.SeqCode.{SeqCode}
use Rattle.executive_program.specs.declared.program.Program.{Program}
use Rattle.executive_program.specs.Instructions.{turn, turn_of, prologue, prologue_of, medium, medium_in, operator, operator_in}
use Rattle.executive_program.specs.Places.{sequence_where}
use Rattle.executive_program.specs.WellFormed.{Stands, place_in, FollowsLoops}
use Rattle.executive_program.proofs.Reading.{any_at, any_of}
use Rattle.sequence_build_laws.specs.Serial.{Step, step, projection, codes}
use Rattle.sequence_build_laws.proofs.Lists.{get_some, map_at, from_map, tally, tally_yes, tally_not, counts_tally, tally_grows, filter_at, from_filter, filter_length, First, first}

pub codes_at : (f t : ℕ → List Instr) (n k : ℕ) (qs : List Seq) (s : ℕ) (q : Seq) → slice_get qs s ≡ Some q → k ≡ n + s
    → slice_get (codes f t n qs) s ≡ Some (record { seq = q; prologue = f k; turn = t k })
codes_at f t n k [] s q e h = absurd cc
codes_at f t n k (x ∷ qs) zero q e h = let z : n ≡ k = omega arith in let same : x ≡ q = same_Some x q e in λ i. Some (record { seq = same i; prologue = f (z i); turn = t (z i) })
codes_at f t n k (x ∷ qs) (suc s) q e h = codes_at f t (suc n) k qs s q e (omega arith)

pub codes_length : (f t : ℕ → List Instr) (n : ℕ) (qs : List Seq) → length (codes f t n qs) ≡ length qs
codes_length f t n [] = refl
codes_length f t n (q ∷ qs) = ap (λ (k : ℕ). suc k) (codes_length f t (suc n) qs)

pub codes_seqs : (f t : ℕ → List Instr) (n : ℕ) (qs : List Seq) → map (λ (c : SeqCode). c.seq) (codes f t n qs) ≡ qs
codes_seqs f t n [] = refl
codes_seqs f t n (q ∷ qs) = ap (λ (rest : List Seq). q ∷ rest) (codes_seqs f t (suc n) qs)

abbrev pub is_of : ℕ → Step → Bool
is_of s x = nat_eq x.sequence s

pub step_is : (y : Step) (s : ℕ) (x : Instr) → y.sequence ≡ s → y.instr ≡ x → y ≡ step s x
step_is y s x e h = λ i. record { sequence = e i; instr = h i }

-- place_in finds the place again
place_other : (t s : ℕ) (ts : List ℕ) (a : ℕ) → nat_eq t s ≡ false → place_in (t ∷ ts) s a ≡ suc (place_in ts s a)
place_other t s ts zero e = rw e refl
place_other t s ts (suc a) e = rw e refl

place_here : (t s : ℕ) (ts : List ℕ) (a : ℕ) → nat_eq t s ≡ true → place_in (t ∷ ts) s (suc a) ≡ suc (place_in ts s a)
place_here t s ts a e = rw e refl

pub place_is : (xs : List Step) (i : ℕ) (y : Step) → slice_get xs i ≡ Some y → place_in (map (λ x. x.sequence) xs) y.sequence (tally (is_of y.sequence) (take i xs)) ≡ i
place_is [] i y e = absurd cc
place_is (x ∷ xs) zero y e = let h = eq-eqb x.sequence y.sequence (ap (λ (z : Step). z.sequence) (same_Some x y e)) in rw h refl
place_is (x ∷ xs) (suc i) y e = by (nat_eq x.sequence y.sequence) refl (place_is xs i y e)
  where
    rest : List ℕ
    rest = map (λ (x : Step). x.sequence) xs

    n : ℕ
    n = tally (is_of y.sequence) (take i xs)

    by : (b : Bool) → nat_eq x.sequence y.sequence ≡ b → place_in (map (λ x. x.sequence) xs) y.sequence (tally (is_of y.sequence) (take i xs)) ≡ i
        → place_in (x.sequence ∷ map (λ x. x.sequence) xs) y.sequence (tally (is_of y.sequence) (x ∷ take i xs)) ≡ suc i
    by true h r = ap (λ (k : ℕ). place_in (x.sequence ∷ map (λ (x : Step). x.sequence) xs) y.sequence k) (tally_yes (is_of y.sequence) x (take i xs) h)
        ∙ place_here x.sequence y.sequence (map (λ (x : Step). x.sequence) xs) (tally (is_of y.sequence) (take i xs)) h ∙ ap (λ (k : ℕ). suc k) r
    by false h r = ap (λ (k : ℕ). place_in (x.sequence ∷ map (λ (x : Step). x.sequence) xs) y.sequence k) (tally_not (is_of y.sequence) x (take i xs) h)
        ∙ place_other x.sequence y.sequence (map (λ (x : Step). x.sequence) xs) (tally (is_of y.sequence) (take i xs)) h ∙ ap (λ (k : ℕ). suc k) r

pub tally-map : {A B : Type 0} (p : B → Bool) (f : A → B) (xs : List A) → tally p (map f xs) ≡ tally (λ x. p (f x)) xs
tally-map p f [] = refl
tally-map p f (x ∷ xs) = ap (λ (n : ℕ). cond (p (f x)) (suc n) n) (tally-map p f xs)

-- the element of a list of instructions of a sequence
module _ (p : Program) where
  pub record Code (s : ℕ) : Type 0 where
    pub it : SeqCode
    pub stands : slice_get p.seqs s ≡ Some it

  pub code_there : (s a : ℕ) (x : Instr) → Stands p s a x → Code s
  code_there s a x e = by (slice_get p.seqs s) refl
    where
      by : (o : Option SeqCode) → slice_get p.seqs s ≡ o → Code s
      by None q = let z : slice_get (turn_of None) a ≡ Some x = ap (λ (k : Option SeqCode). slice_get (turn_of k) a) (sym q) ∙ e in absurd cc
      by (Some k) q = record { it = k; stands = q }

  -- the first instruction that passes, in one sequence and in all
  pub first_in : (test : Instr → Bool) (s a : ℕ) (x : Instr) → Stands p s a x → test x ≡ true → First test (turn p s)
  first_in test s a x e h = first test (turn p s) a x e h

  abbrev pub sequence_of : (Instr → Bool) → ℕ
  sequence_of test = sequence_where p (λ q. list_any test q.turn)

  pub first_of_all : (test : Instr → Bool) (s a : ℕ) (x : Instr) → Stands p s a x → test x ≡ true → First test (turn p (sequence_of test))
  first_of_all test s a x e h =
      let c = code_there s a x e in
      let there : slice_get c.it.turn a ≡ Some x = ap (λ (o : Option SeqCode). slice_get (turn_of o) a) (sym c.stands) ∙ e in
      let f = first (λ (q : SeqCode). list_any test q.turn) p.seqs s c.it c.stands (any_at test c.it.turn a x there h) in
      let o = any_of test f.it.turn f.passes in
      first test (turn p (sequence_of test)) o.0 o.1 (ap (λ (o' : Option SeqCode). slice_get (turn_of o') o.0) f.stands ∙ o.2) o.3

module _ (p : Program) (xs : List Step) (f : ℕ → List Instr) (qs : List Seq) (codes_are : p.seqs ≡ codes f (projection xs) 0 qs)
    (low : (i : ℕ) (y : Step) → slice_get xs i ≡ Some y → y.sequence < length qs) where
  abbrev pub order : List ℕ
  order = map (λ (x : Step). x.sequence) xs

  pub code_is : (s : ℕ) (q : Seq) → slice_get qs s ≡ Some q → slice_get p.seqs s ≡ Some (record { seq = q; prologue = f s; turn = projection xs s })
  code_is s q e = ap (λ (l : List SeqCode). slice_get l s) codes_are ∙ codes_at f (projection xs) 0 s qs s q e (omega arith)

  pub seqs_length : length p.seqs ≡ length qs
  seqs_length = ap (λ (l : List SeqCode). length l) codes_are ∙ codes_length f (projection xs) 0 qs

  pub seqs_are : map (λ (c : SeqCode). c.seq) p.seqs ≡ qs
  seqs_are = ap (λ (l : List SeqCode). map (λ (c : SeqCode). c.seq) l) codes_are ∙ codes_seqs f (projection xs) 0 qs

  pub seq_there : (s : ℕ) → s < length p.seqs → (q : Seq) × (slice_get qs s ≡ Some q)
  seq_there s h = get_some qs s (let z = seqs_length in omega arith)

  pub turn_is : (s : ℕ) → s < length p.seqs → turn p s ≡ projection xs s
  turn_is s h = let q = seq_there s h in ap turn_of (code_is s q.0 q.1)

  pub prologue_is : (s : ℕ) → s < length p.seqs → prologue p s ≡ f s
  prologue_is s h = let q = seq_there s h in ap prologue_of (code_is s q.0 q.1)

  pub medium_is : (s : ℕ) (q : Seq) → slice_get qs s ≡ Some q → medium p s ≡ q.medium
  medium_is s q e = ap medium_in (code_is s q e)

  pub operator_is : (s : ℕ) (q : Seq) → slice_get qs s ≡ Some q → operator p s ≡ q.operator
  operator_is s q e = ap operator_in (code_is s q e)

  -- instruction a of the loop of s is an entry of the order
  pub record Found (s a : ℕ) (x : Instr) : Type 0 where
    pub at : ℕ
    pub stands : slice_get xs at ≡ Some (step s x)
    pub number : tally (is_of s) (take at xs) ≡ a
    pub place : place_in order s a ≡ at

  pub found : (s a : ℕ) (x : Instr) → Stands p s a x → Found s a x
  found s a x e =
      let c = code_there p s a x e in
      let h = slice_get_within p.seqs s c.it c.stands in
      let there : slice_get (projection xs s) a ≡ Some x = ap (λ (l : List Instr). slice_get l a) (sym (turn_is s h)) ∙ e in
      let m = from_map (λ (y : Step). y.instr) (filter (is_of s) xs) a x there in
      let r = from_filter (is_of s) xs a m.it m.stands in
      let seq : m.it.sequence ≡ s = eqb-true m.it.sequence s r.2 in
      let same = step_is m.it s x seq m.is in
      let here : slice_get xs r.0 ≡ Some (step s x) = r.1 ∙ ap (λ (y : Step). Some y) same in
      record {
        at = r.0;
        stands = here;
        number = r.3;
        place = ap (λ (k : ℕ). place_in order s k) (sym r.3) ∙ place_is xs r.0 (step s x) here;
      }

  pub record Put (i : ℕ) (y : Step) : Type 0 where
    pub at : ℕ
    pub stands : Stands p y.sequence at y.instr
    pub number : tally (is_of y.sequence) (take i xs) ≡ at
    pub place : place_in order y.sequence at ≡ i

  pub put : (i : ℕ) (y : Step) → slice_get xs i ≡ Some y → Put i y
  put i y e =
      let h : y.sequence < length p.seqs = (let z = low i y e in let w = seqs_length in omega arith) in
      let n = filter_at (is_of y.sequence) xs i y e (eq-eqb y.sequence y.sequence refl) in
      record {
        at = tally (is_of y.sequence) (take i xs);
        stands = ap (λ (l : List Instr). slice_get l (tally (is_of y.sequence) (take i xs))) (turn_is y.sequence h)
            ∙ map_at (λ (z : Step). z.instr) (filter (is_of y.sequence) xs) (tally (is_of y.sequence) (take i xs)) y n;
        number = refl;
        place = place_is xs i y e;
      }

  -- one place of the order is one place of a loop
  pub same_place : (s a t b : ℕ) (x y : Instr) (e : Found s a x) (h : Found t b y) → e.at ≡ h.at → (s ≡ t) × (a ≡ b)
  same_place s a t b x y e h q =
      let same : step s x ≡ step t y = same_Some (step s x) (step t y) (sym e.stands ∙ ap (slice_get xs) q ∙ h.stands) in
      let seq : s ≡ t = ap (λ (z : Step). z.sequence) same in
      (seq, sym e.number ∙ (λ i. tally (is_of (seq i)) (take (q i) xs)) ∙ h.number)

  -- in one sequence, earlier in the order is earlier in the loop
  pub earlier : (s a b : ℕ) (x y : Instr) (e : Found s a x) (h : Found s b y) → e.at < h.at → a < b
  earlier s a b x y e h l = let z = tally_grows (is_of s) xs e.at h.at (step s x) e.stands (eq-eqb s s refl) l in let u = e.number in let v = h.number in omega arith

  pub loops_followed : FollowsLoops p order
  loops_followed = record {
    names = λ i s e. let m = from_map (λ (y : Step). y.sequence) xs i s e in (let z = low i m.it m.stands in let w = seqs_length in let u = m.is in omega arith);
    lengths = λ s h.
        counts_tally (λ t. nat_eq t s) order ∙ tally-map (λ t. nat_eq t s) (λ (y : Step). y.sequence) xs
        ∙ sym (ap (λ (l : List Instr). length l) (turn_is s h) ∙ length-map (filter (is_of s) xs) (λ (y : Step). y.instr) ∙ filter_length (is_of s) xs);
  }
