-- The test of sequences is true exactly where the program has these, in order.
use Rattle.std.proofs.Common.{◌≡◌, ℕ, zero, suc, ◌+◌, ◌≤◌, Bool, true, false, cond, nat_eq, List, [], ◌∷◌, map, drop, length, refl, sym, ap, subst, eq-eqb, arith, length-drop, ◌∙◌}
use Rattle.std.specs.Prelude.{slice_get, Option, Some, None, nat_lt}
use Rattle.std.specs.Cmp.Derive.{both_true}
use Rattle.std.proofs.lemmas.Bool.{false≢true, and_parts, eqb-true, lt-ltb}
use Rattle.std.proofs.lemmas.List.{drop_all, length-map}
use Rattle.std.proofs.lemmas.Option.{slice_get_within}
use Rattle.std.specs.List.{flat_map, range_with_len}
use Rattle.executive_program.specs.declared.Medium.{Medium}
use Rattle.executive_program.specs.declared.Seq.{Seq}
use Rattle.executive_program.specs.Archi.{Architecture}
use Rattle.executive_program.specs.Sequences.{sequences, sequences_of}
use Rattle.executive_program.specs.declared.program.SeqCode.{SeqCode}
use Rattle.program_walks.specs.Walks.{passed}
use Rattle.order_check.specs.Sequenced.{are_sequences, is_of, is_sequence}
use Rattle.program_walks.proofs.Readings.{same_numbers}
use Rattle.executive_program.specs.Sizes.{is_last}
use Rattle.executive_program.specs.Instructions.{same_medium}

-- the parts of a sequence decide it
medium_is : (m n : Option ℕ) → same_medium m n ≡ true → m ≡ n
medium_is None None h = refl
medium_is None (Some n) h = absurd (false≢true h)
medium_is (Some m) None h = absurd (false≢true h)
medium_is (Some m) (Some n) h = ap (λ (k : ℕ). Some k) (eqb-true m n h)

same_media : (m : Option ℕ) → same_medium m m ≡ true
same_media None = refl
same_media (Some m) = same_numbers m

code_is : (o : Option SeqCode) (x : Seq) → is_of o x ≡ true → (q : SeqCode) × (o ≡ Some q) × (q.seq ≡ x)
code_is None x h = absurd (false≢true h)
code_is (Some q) x h =
    let parts = and_parts (nat_eq q.seq.operator x.operator) (same_medium q.seq.medium x.medium) h in
    let o = eqb-true q.seq.operator x.operator parts.0 in
    let m = medium_is q.seq.medium x.medium parts.1 in
    (q, refl, λ i. record { operator = o i; medium = m i })

is_code : (o : Option SeqCode) (q : SeqCode) → o ≡ Some q → is_of o q.seq ≡ true
is_code o q e = subst (λ (o : Option SeqCode). is_of o q.seq ≡ true) (sym e) (both_true (same_numbers q.seq.operator) (same_media q.seq.medium))

-- what is left of a list begins with the element of that place, if there is one
drop_there : {X : Type 0} (xs : List X) (n : ℕ) (x : X) → slice_get xs n ≡ Some x → drop n xs ≡ x ∷ drop (suc n) xs
drop_there [] n x e = absurd (cc)
drop_there (y ∷ ys) zero x e =
    let same : y ≡ x = cc in
    ap (λ z. z ∷ ys) same
drop_there (y ∷ ys) (suc n) x e = drop_there ys n x e

drop_gone : {X : Type 0} (xs : List X) (n : ℕ) → slice_get xs n ≡ None → drop n xs ≡ []
drop_gone [] zero e = refl
drop_gone [] (suc n) e = refl
drop_gone (y ∷ ys) zero e = absurd (cc)
drop_gone (y ∷ ys) (suc n) e = drop_gone ys n e

module _ (codes : List SeqCode) where
  abbrev listed : List SeqCode → List Seq
  listed qs = map (λ (q : SeqCode). q.seq) qs

  abbrev passes_by : ℕ → Seq → List Seq → Bool → Bool
  passes_by n x xs b = is_last (length codes) (cond b (passed (is_sequence codes) (n + 1) xs) None)

  -- where the walk ends after the last code, what is left of the codes has these sequences
  left_is : (n : ℕ) (xs : List Seq) → is_last (length codes) (passed (is_sequence codes) n xs) ≡ true → listed (drop n codes) ≡ xs
  left_is n [] h =
      let e = eqb-true (length codes) n h in
      ap listed (drop_all n codes (let l : length codes ≤ n = omega (arith, e) in l))
  left_is n (x ∷ xs) h = by (is_sequence codes n x) refl h (λ e. left_is (n + 1) xs e)
    where
      by : (b : Bool) → is_sequence codes n x ≡ b → passes_by n x xs b ≡ true
          → (is_last (length codes) (passed (is_sequence codes) (n + 1) xs) ≡ true → listed (drop (n + 1) codes) ≡ xs) → listed (drop n codes) ≡ x ∷ xs
      by false e h rest = absurd (false≢true h)
      by true e h rest =
          let parts = and_parts (nat_lt n (length codes)) (is_of (slice_get codes n) x) e in
          let c = code_is (slice_get codes n) x parts.1 in
          let r : listed (drop (suc n) codes) ≡ xs = subst (λ (k : ℕ). listed (drop k codes) ≡ xs) (let s : n + 1 ≡ suc n = omega arith in s) (rest h) in
          ap listed (drop_there codes n c.0 c.1) ∙ (λ i. c.2 i ∷ r i)

  -- where what is left of the codes has these sequences, the walk ends after the last code
  is_left : (n : ℕ) (xs : List Seq) → n ≤ length codes → listed (drop n codes) ≡ xs → is_last (length codes) (passed (is_sequence codes) n xs) ≡ true
  is_left n [] l h =
      let none : length (drop n codes) ≡ 0 = sym (length-map (drop n codes) (λ (q : SeqCode). q.seq)) ∙ ap (λ (xs : List Seq). length xs) h in
      eq-eqb (length codes) n (omega (arith, l, none, length-drop n codes))
  is_left n (x ∷ xs) l h = by (slice_get codes n) refl (λ l e. is_left (n + 1) xs l e)
    where
      by : (o : Option SeqCode) → slice_get codes n ≡ o
          → (n + 1 ≤ length codes → listed (drop (n + 1) codes) ≡ xs → is_last (length codes) (passed (is_sequence codes) (n + 1) xs)
          ≡ true) → passes_by n x xs (is_sequence codes n x) ≡ true
      by None e rest = let gone = sym (ap listed (drop_gone codes n e)) ∙ h in absurd (cc)
      by (Some q) e rest =
          let here : q.seq ∷ listed (drop (suc n) codes) ≡ x ∷ xs = sym (ap listed (drop_there codes n q e)) ∙ h in
          let same : q.seq ≡ x = cc in
          let others : listed (drop (suc n) codes) ≡ xs = cc in
          let within = slice_get_within codes n q e in
          let right : is_sequence codes n x ≡ true = both_true (lt-ltb n (length codes) within) (subst (λ (x : Seq). is_of (slice_get codes n) x ≡ true) same (is_code (slice_get codes n) q e)) in
          ap (passes_by n x xs) right
          ∙ rest (omega (arith, within)) (subst (λ (k : ℕ). listed (drop k codes) ≡ xs) (let s : suc n ≡ n + 1 = omega arith in s) others)

  pub sequences_of_test : (seqs : List Seq) → are_sequences codes seqs ≡ true → map (λ q. q.seq) codes ≡ seqs
  sequences_of_test seqs h = left_is 0 seqs h

  pub test_of_sequences : (seqs : List Seq) → map (λ q. q.seq) codes ≡ seqs → are_sequences codes seqs ≡ true
  test_of_sequences seqs h = is_left 0 seqs (omega arith) h

-- the sequences of an architecture, by its parts
pub listed_are : (a : Architecture) (operators : List (List ℕ)) (media : List Medium) → operators ≡ a.operators → media ≡ a.media
    → flat_map (sequences_of media) (range_with_len 0 (length operators)) ≡ sequences a
listed_are a operators media o m = λ i. flat_map (sequences_of (m i)) (range_with_len 0 (length (o i)))
