-- The place of a communication in a loop by its number, and the communication at that place.
use Rattle.std.proofs.Common.{◌≡◌, ℕ, zero, suc, ◌+◌, ◌<◌, Bool, true, false, ◌&&◌, not, cond, List, [], ◌∷◌, take, refl, sym, ap, subst, arith, ◌∙◌}
use Rattle.std.specs.Prelude.{slice_get, Option, Some, None}
use Rattle.std.specs.List.{count_by, list_all}
use Rattle.std.proofs.lemmas.Bool.{false≢true}
use Rattle.std.proofs.lemmas.List.Sums.{sum_by-cons}
use Rattle.std.proofs.lemmas.Option.{same_Some}
use Rattle.sequence_build_laws.specs.declared.Instr.{Instr}
use Rattle.sequence_build_laws.specs.declared.SeqCode.{SeqCode}
use Rattle.sequence_build_laws.specs.declared.Program.{Program}
use Rattle.sequence_build_laws.specs.Instructions.{is_communication, medium, medium_in, turn, turn_of}
use Rattle.sequence_build_laws.specs.MicroSteps.{is_on}
use Rattle.sequence_build_laws.specs.Places.{communication_at}
use Rattle.sequence_build_laws.specs.WellFormed.{Communicates}
use Rattle.sequence_build_laws.proofs.Passing.{on_is, is_on_it}

counted : (y : Instr) (zs : List Instr) → count_by is_communication (y ∷ zs) ≡ cond (is_communication y) 1 0 + count_by is_communication zs
counted y zs = sum_by-cons (λ x. cond (is_communication x) 1 0) y zs

-- what stands at the place of communication t is one, and t others stand before it
pub found_at : (xs : List Instr) (t : ℕ) (x : Instr) → slice_get xs (communication_at xs t) ≡ Some x → (is_communication x ≡ true) × (count_by is_communication (take (communication_at xs t) xs) ≡ t)
found_at [] t x h = absurd (cc)
found_at (y ∷ ys) zero x h = by (is_communication y) refl (λ k e. found_at ys k x e) h
  where
    by : (b : Bool) → is_communication y ≡ b
        → ((k : ℕ) → slice_get ys (communication_at ys k) ≡ Some x → (is_communication x ≡ true)
        × (count_by is_communication (take (communication_at ys k) ys) ≡ k))
        → slice_get (y ∷ ys) (cond b 0 (suc (communication_at ys zero))) ≡ Some x → (is_communication x ≡ true)
        × (count_by is_communication (take (cond b 0 (suc (communication_at ys zero))) (y ∷ ys)) ≡ zero)
    by true e more h = let same : y ≡ x = cc in (ap is_communication (sym same) ∙ e, refl)
    by false e more h =
        let r = more zero h in (
          r.0,
          counted y (take (communication_at ys zero) ys)
              ∙ ap (λ (b : Bool). cond b 1 0 + count_by is_communication (take (communication_at ys zero) ys)) e
              ∙ (let z : 0 + count_by is_communication (take (communication_at ys zero) ys) ≡ zero = omega (arith, r.1) in z),
        )
found_at (y ∷ ys) (suc t) x h = by (is_communication y) refl (λ k e. found_at ys k x e) h
  where
    by : (b : Bool) → is_communication y ≡ b
        → ((k : ℕ) → slice_get ys (communication_at ys k) ≡ Some x → (is_communication x ≡ true)
        × (count_by is_communication (take (communication_at ys k) ys) ≡ k)) → slice_get ys (communication_at ys (cond b t (suc t)))
        ≡ Some x → (is_communication x ≡ true) × (count_by is_communication (y ∷ take (communication_at ys (cond b t (suc t))) ys) ≡ suc t)
    by true e more h =
        let r = more t h in (
          r.0,
          counted y (take (communication_at ys t) ys)
              ∙ ap (λ (b : Bool). cond b 1 0 + count_by is_communication (take (communication_at ys t) ys)) e
              ∙ (let z : 1 + count_by is_communication (take (communication_at ys t) ys) ≡ suc t = omega (arith, r.1) in z),
        )
    by false e more h =
        let r = more (suc t) h in (
          r.0,
          counted y (take (communication_at ys (suc t)) ys)
              ∙ ap (λ (b : Bool). cond b 1 0 + count_by is_communication (take (communication_at ys (suc t)) ys)) e
              ∙ (let z : 0 + count_by is_communication (take (communication_at ys (suc t)) ys) ≡ suc t = omega (arith, r.1) in z),
        )

past : (y : Instr) (ys : List Instr) (t : ℕ) → is_communication y ≡ false → communication_at (y ∷ ys) t ≡ suc (communication_at ys t)
past y ys zero e = ap (λ (b : Bool). cond b 0 (suc (communication_at ys zero))) e
past y ys (suc t) e = ap (λ (b : Bool). suc (communication_at ys (cond b t (suc t)))) e

-- a communication stands at the place of its number
pub placed : (xs : List Instr) (a : ℕ) (x : Instr) (t : ℕ) → slice_get xs a ≡ Some x → is_communication x ≡ true → count_by is_communication (take a xs) ≡ t → communication_at xs t ≡ a
placed [] a x t e c h = absurd (cc)
placed (y ∷ ys) zero x t e c h =
    let same : y ≡ x = cc in
    subst (λ (n : ℕ). communication_at (y ∷ ys) n ≡ zero) h (ap (λ (b : Bool). cond b 0 (suc (communication_at ys zero))) (ap is_communication same ∙ c))
placed (y ∷ ys) (suc a) x t e c h = by (is_communication y) refl (λ k f. placed ys a x k e c f)
  where
    by : (b : Bool) → is_communication y ≡ b → ((k : ℕ) → count_by is_communication (take a ys) ≡ k → communication_at ys k ≡ a) → communication_at (y ∷ ys) t ≡ suc a
    by true k rest =
        let more : suc (count_by is_communication (take a ys)) ≡ t =
        (let one : 1 + count_by is_communication (take a ys) ≡ suc (count_by is_communication (take a ys)) = omega arith in
        sym one ∙ (sym (ap (λ (b : Bool). cond b 1 0 + count_by is_communication (take a ys)) k) ∙ (sym (counted y (take a ys)) ∙ h))) in
        subst (λ (n : ℕ). communication_at (y ∷ ys) n ≡ suc a) more
        (ap (λ (b : Bool). suc (communication_at ys (cond b (count_by is_communication (take a ys)) (suc (count_by is_communication (take a ys)))))) k
        ∙ ap (λ (n : ℕ). suc n) (rest (count_by is_communication (take a ys)) refl))
    by false k rest =
        let none : count_by is_communication (take a ys) ≡ t =
        (let zero_more : 0 + count_by is_communication (take a ys) ≡ count_by is_communication (take a ys) = omega arith in
        sym zero_more ∙ (sym (ap (λ (b : Bool). cond b 1 0 + count_by is_communication (take a ys)) k) ∙ (sym (counted y (take a ys)) ∙ h))) in
        past y ys t k ∙ ap (λ (n : ℕ). suc n) (rest t none)

-- the first communication of a loop
abbrev IsFirstOne : List Instr → ℕ → Type 0
IsFirstOne xs a = (x : Instr) × (slice_get xs a ≡ Some x) × (is_communication x ≡ true)

pub first_one : (xs : List Instr) → list_all (λ x. not (is_communication x)) xs ≡ false → IsFirstOne xs (communication_at xs 0)
first_one [] h = absurd (false≢true (sym h))
first_one (x ∷ xs) h = by (is_communication x) refl h (λ k. first_one xs k)
  where
    by : (b : Bool) → is_communication x ≡ b → (not b && list_all (λ x. not (is_communication x)) xs) ≡ false
        → (list_all (λ x. not (is_communication x)) xs ≡ false → IsFirstOne xs (communication_at xs 0)) → IsFirstOne (x ∷ xs) (cond b 0 (suc (communication_at xs 0)))
    by true e h more = (x, refl, e)
    by false e h more = more h

pub none_earlier : (xs : List Instr) (b : ℕ) (x : Instr) → b < communication_at xs 0 → slice_get xs b ≡ Some x → is_communication x ≡ false
none_earlier [] b x l e = absurd cc
none_earlier (y ∷ ys) b x l e = by (is_communication y) refl b l e (λ c m f. none_earlier ys c x m f)
  where
    by : (t : Bool) → is_communication y ≡ t → (b : ℕ) → b < cond t 0 (suc (communication_at ys 0)) → slice_get (y ∷ ys) b ≡ Some x
        → ((c : ℕ) → c < communication_at ys 0 → slice_get ys c ≡ Some x → is_communication x ≡ false) → is_communication x ≡ false
    by true h b l e more = absurd (omega arith)
    by false h zero l e more = ap is_communication (sym (same_Some y x e)) ∙ h
    by false h (suc b) l e more = more b (omega arith) e

module _ (p : Program) where
  -- communication t of sequence s, once it is found there
  pub communicates : (m t s : ℕ) (x : Instr) → is_on m (medium p s) ≡ true → slice_get (turn p s) (communication_at (turn p s) t) ≡ Some x
      → Communicates p m t s (communication_at (turn p s) t) x
  communicates m t s x on e =
      let f = found_at (turn p s) t x e in
      record {
        on = on_is m (medium p s) on;
        stands = e;
        is_one = f.0;
        number = f.1;
      }

  -- the same of a sequence that is given
  pub communicates_in : (m t s : ℕ) (q : SeqCode) (x : Instr) → slice_get p.seqs s ≡ Some q → is_on m q.seq.medium ≡ true
      → slice_get q.turn (communication_at q.turn t) ≡ Some x → Communicates p m t s (communication_at q.turn t) x
  communicates_in m t s q x i on e =
      let f = found_at q.turn t x e in
      record {
        on = ap medium_in i ∙ on_is m q.seq.medium on;
        stands = subst (λ (o : Option SeqCode). slice_get (turn_of o) (communication_at q.turn t) ≡ Some x) (sym i) e;
        is_one = f.0;
        number = subst (λ (o : Option SeqCode). count_by is_communication (take (communication_at q.turn t) (turn_of o)) ≡ t) (sym i) f.1;
      }

  -- the sequence of a communication, at whose place it is found
  pub record InSequence (m t s : ℕ) (x : Instr) : Type 0 where
    pub code : SeqCode
    pub there : slice_get p.seqs s ≡ Some code
    pub on : is_on m code.seq.medium ≡ true
    pub found : slice_get code.turn (communication_at code.turn t) ≡ Some x

  pub in_sequence : (m t s a : ℕ) (x : Instr) → Communicates p m t s a x → InSequence m t s x
  in_sequence m t s a x c = by (slice_get p.seqs s) refl c.on c.stands c.number
    where
      by : (o : Option SeqCode) → slice_get p.seqs s ≡ o → medium_in o ≡ Some m → slice_get (turn_of o) a ≡ Some x → count_by is_communication (take a (turn_of o)) ≡ t → InSequence m t s x
      by None i on e n = absurd cc
      by (Some q) i on e n = record {
        code = q;
        there = i;
        on = is_on_it m q.seq.medium on;
        found = ap (slice_get q.turn) (placed q.turn a x t e c.is_one n) ∙ e;
      }
