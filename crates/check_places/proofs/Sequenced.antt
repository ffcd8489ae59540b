-- Sequences that have no place are those of the architecture.
use Rattle.std.proofs.Common.{◌≡◌, ℕ, ◌+◌, Bool, true, false, cond, List, [], ◌∷◌, map, refl}
use Rattle.std.specs.Prelude.{Option, Some, None}
use Rattle.std.specs.Cmp.Derive.{both_true}
use Rattle.std.proofs.lemmas.Bool.{and_parts, eqb-true, false≢true}
use Rattle.program_walks.proofs.Readings.{same_numbers}
use Rattle.sequence_build_laws.specs.declared.Seq.{Seq}
use Rattle.sequence_build_laws.specs.declared.SeqCode.{SeqCode}
use Rattle.sequence_build_laws.specs.Instructions.{same_medium}
use Rattle.order_check.specs.Sequenced.{is_of}
use Rattle.check_places.specs.declared.place.Rule.TheVariants.{OtherSequence}
use Rattle.check_places.specs.declared.place.Subject.TheVariants.{Expected}
use Rattle.check_places.specs.First.{broken}
use Rattle.check_places.specs.Names.{sequence_place}

medium_is : (m n : Option ℕ) → same_medium m n ≡ true → m ≡ n
medium_is None None e = refl
medium_is (Some m) (Some n) e = λ i. Some (eqb-true m n e i)
medium_is None (Some n) e = absurd (false≢true e)
medium_is (Some m) None e = absurd (false≢true e)

same_media : (m : Option ℕ) → same_medium m m ≡ true
same_media None = refl
same_media (Some m) = same_numbers m

pub seq_is : (q : SeqCode) (x : Seq) → is_of (Some q) x ≡ true → q.seq ≡ x
seq_is q x e =
    let both = and_parts _ (same_medium q.seq.medium x.medium) e in
    λ i. record { operator = eqb-true q.seq.operator x.operator both.0 i; medium = medium_is q.seq.medium x.medium both.1 i }

pub is_code : (q : SeqCode) → is_of (Some q) q.seq ≡ true
is_code q = both_true (same_numbers q.seq.operator) (same_media q.seq.medium)

pub sequences_are : (s : ℕ) (qs : List SeqCode) (xs : List Seq) → sequence_place s qs xs ≡ None → map (λ (q : SeqCode). q.seq) qs ≡ xs
sequences_are s [] [] e = refl
sequences_are s (q ∷ qs) [] e = absurd cc
sequences_are s [] (x ∷ xs) e = absurd cc
sequences_are s (q ∷ qs) (x ∷ xs) e = by (is_of (Some q) x) refl e (λ f. sequences_are (s + 1) qs xs f)
  where
    by : (b : Bool) → is_of (Some q) x ≡ b → cond b (sequence_place (s + 1) qs xs) (broken OtherSequence (Expected s) None) ≡ None
        → (sequence_place (s + 1) qs xs ≡ None → map (λ (q : SeqCode). q.seq) qs ≡ xs) → map (λ (q : SeqCode). q.seq) (q ∷ qs) ≡ x ∷ xs
    by true h e more = let rest = more e in λ i. seq_is q x h i ∷ rest i
    by false h e more = absurd cc
