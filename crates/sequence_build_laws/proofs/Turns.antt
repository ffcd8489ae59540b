-- Entries of an order: the place of a sequence's instruction, and how many of its instructions stand before a place.
use Rattle.std.proofs.Common.{◌≡◌, ℕ, zero, suc, ◌<◌, ◌≤◌, Bool, true, false, nat_eq, List, [], ◌∷◌, length, take, Some, refl, sym, ap, arith, ◌∙◌, eq-eqb}
use Rattle.std.specs.Prelude.{slice_get}
use Rattle.std.proofs.lemmas.Bool.{eqb-true}
use Rattle.std.proofs.lemmas.Option.{same_Some}
use Rattle.executive_program.specs.WellFormed.{place_in}
use Rattle.sequence_build_laws.proofs.Lists.{tally, tally_yes, tally_not}

abbrev pub mine : ℕ → ℕ → Bool
mine s t = nat_eq t s

place_other : (u t : ℕ) (us : List ℕ) (a : ℕ) → nat_eq u t ≡ false → place_in (u ∷ us) t a ≡ suc (place_in us t a)
place_other u t us zero e = rw e refl
place_other u t us (suc a) e = rw e refl

place_again : (u t : ℕ) (us : List ℕ) (a : ℕ) → nat_eq u t ≡ true → place_in (u ∷ us) t (suc a) ≡ suc (place_in us t a)
place_again u t us a e = rw e refl

place_first : (u t : ℕ) (us : List ℕ) → nat_eq u t ≡ true → place_in (u ∷ us) t 0 ≡ 0
place_first u t us e = rw e refl

-- what has its place before place i is among the entries before it
pub seen : (order : List ℕ) (i t b : ℕ) → i ≤ length order → place_in order t b < i → b < tally (mine t) (take i order)
seen [] i t b l h = absurd (omega arith)
seen (u ∷ us) zero t b l h = absurd (omega arith)
seen (u ∷ us) (suc i) t b l h = by (nat_eq u t) refl b h (λ c k. seen us i t c (omega arith) k)
  where
    by : (q : Bool) → nat_eq u t ≡ q → (b : ℕ) → place_in (u ∷ us) t b < suc i → ((c : ℕ) → place_in us t c < i → c < tally (mine t) (take i us)) → b < tally (mine t) (u ∷ take i us)
    by true e zero h r = let z = tally_yes (mine t) u (take i us) e in omega arith
    by true e (suc b) h r = let z = tally_yes (mine t) u (take i us) e in let w = place_again u t us b e in let k = r b (omega arith) in omega arith
    by false e b h r = let z = tally_not (mine t) u (take i us) e in let w = place_other u t us b e in let k = r b (omega arith) in omega arith

pub unseen : (order : List ℕ) (i t b : ℕ) → b < tally (mine t) (take i order) → place_in order t b < i
unseen [] zero t b h = absurd (omega arith)
unseen [] (suc i) t b h = absurd (omega arith)
unseen (u ∷ us) zero t b h = absurd (omega arith)
unseen (u ∷ us) (suc i) t b h = by (nat_eq u t) refl b h (λ c k. unseen us i t c k)
  where
    by : (q : Bool) → nat_eq u t ≡ q → (b : ℕ) → b < tally (mine t) (u ∷ take i us) → ((c : ℕ) → c < tally (mine t) (take i us) → place_in us t c < i) → place_in (u ∷ us) t b < suc i
    by true e zero h r = let w = place_first u t us e in omega arith
    by true e (suc b) h r = let z = tally_yes (mine t) u (take i us) e in let w = place_again u t us b e in let k = r b (omega arith) in omega arith
    by false e b h r = let z = tally_not (mine t) u (take i us) e in let w = place_other u t us b e in let k = r b (omega arith) in omega arith

-- the entry at the place of instruction a of s
pub record Entry (order : List ℕ) (s a : ℕ) : Type 0 where
  pub stands : slice_get order (place_in order s a) ≡ Some s
  pub number : tally (mine s) (take (place_in order s a) order) ≡ a

pub entry : (order : List ℕ) (s a : ℕ) → a < tally (mine s) order → Entry order s a
entry [] s a h = absurd (omega arith)
entry (u ∷ us) s a h = by (nat_eq u s) refl a h (λ c k. entry us s c k)
  where
    by : (q : Bool) → nat_eq u s ≡ q → (a : ℕ) → a < tally (mine s) (u ∷ us) → ((c : ℕ) → c < tally (mine s) us → Entry us s c) → Entry (u ∷ us) s a
    by true e zero h r = let w = sym (place_first u s us e) in record {
      stands = ap (λ (n : ℕ). slice_get (u ∷ us) n) (sym w) ∙ ap (λ (n : ℕ). Some n) (eqb-true u s e);
      number = ap (λ (n : ℕ). tally (mine s) (take n (u ∷ us))) (sym w);
    }
    by true e (suc a) h r = let z = tally_yes (mine s) u us e in let w = place_again u s us a e in let k = r a (omega arith) in record {
      stands = ap (λ (n : ℕ). slice_get (u ∷ us) n) w ∙ k.stands;
      number = ap (λ (n : ℕ). tally (mine s) (take n (u ∷ us))) w ∙ tally_yes (mine s) u (take (place_in us s a) us) e ∙ ap (λ (n : ℕ). suc n) k.number;
    }
    by false e a h r = let z = tally_not (mine s) u us e in let w = place_other u s us a e in let k = r a (omega arith) in record {
      stands = ap (λ (n : ℕ). slice_get (u ∷ us) n) w ∙ k.stands;
      number = ap (λ (n : ℕ). tally (mine s) (take n (u ∷ us))) w ∙ tally_not (mine s) u (take (place_in us s a) us) e ∙ k.number;
    }

-- and the place of the instruction that an entry makes
pub place_here : (order : List ℕ) (i s : ℕ) → slice_get order i ≡ Some s → place_in order s (tally (mine s) (take i order)) ≡ i
place_here [] i s e = absurd cc
place_here (u ∷ us) zero s e = place_first u s us (eq-eqb u s (same_Some u s e))
place_here (u ∷ us) (suc i) s e = by (nat_eq u s) refl (place_here us i s e)
  where
    by : (q : Bool) → nat_eq u s ≡ q → place_in us s (tally (mine s) (take i us)) ≡ i → place_in (u ∷ us) s (tally (mine s) (u ∷ take i us)) ≡ suc i
    by true h r = ap (place_in (u ∷ us) s) (tally_yes (mine s) u (take i us) h) ∙ place_again u s us (tally (mine s) (take i us)) h ∙ ap (λ (n : ℕ). suc n) r
    by false h r = ap (place_in (u ∷ us) s) (tally_not (mine s) u (take i us) h) ∙ place_other u s us (tally (mine s) (take i us)) h ∙ ap (λ (n : ℕ). suc n) r

-- in one sequence, a later instruction has a later place
pub place_rises : (order : List ℕ) (s a b : ℕ) → a < b → b < tally (mine s) order → place_in order s a < place_in order s b
place_rises order s a b l h = let e = entry order s b h in let n = e.number in unseen order (place_in order s b) s a (omega arith)
