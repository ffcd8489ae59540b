-- The table at the start keeps the rule: every word is 0, and the first seat drives every sequence.
use Rattle.std.proofs.Common.{◌≡◌, ℕ, zero, suc, ◌+◌, ◌-◌, ◌*◌, ◌<◌, ◌≤◌, ◌⊎◌, inl, inr, List, [], ◌∷◌, ◌++◌, map, length, sum, get_or, Some, refl, sym, ap, subst, arith, ◌∙◌, ℤ, pos}
use Rattle.std.specs.Prelude.{replicate}
use Rattle.std.proofs.lemmas.Bool.{cases_lt}
use Rattle.std.proofs.lemmas.List.{length-replicate, get_or_past}
use mathlib.Core.Option.{some, some-injective, some-ne-none}
use lib.ListN.{get_elem?}
use Rattle.atomic_table.specs.Table.{opening as at_start}
use Rattle.executive_program.specs.Level.{all_joined}
use Rattle.executive_program.proofs.KindLens.{sum-cons}
use Rattle.phase_laws.specs.Job.{JobData}
use Rattle.phase_laws.specs.Core.{Core, opening}
use Rattle.phase_laws.specs.Told.{told}
use Rattle.phase_laws.specs.Elements.{element_in}
use Rattle.phase_laws.proofs.AgreePlaces.{lists_many, buffer_list, wire_list}
use Rattle.word_rule.specs.declared.view.View.{View}
use Rattle.word_rule.specs.Words.{word_of, table_of, table_len, element_lens, IsExact, AreExact}
use Rattle.word_rule.specs.Views.{count_by, first_view, IsFor}
use Rattle.word_rule.specs.Rule.{Drives, Tells}
use Rattle.word_rule.specs.Given.{RunsOnWords}
use Rattle.word_rule.proofs.Views.{all_zero, all_counted}
use Rattle.syn_base.specs.Vectors.{zeros}

replicate_more : {A : Type 0} (a b : ℕ) (x : A) → replicate a x ++ replicate b x ≡ replicate (a + b) x
replicate_more {A = A} zero b x = let e : b ≡ 0 + b = omega arith in ap (λ (n : ℕ). replicate {A = A} n x) e
replicate_more {A = A} (suc a) b x = let e : suc (a + b) ≡ suc a + b = omega arith in ap (λ l. x ∷ l) (replicate_more a b x) ∙ ap (λ (n : ℕ). replicate {A = A} n x) e

replicate_map : {A B : Type 0} (f : A → B) (n : ℕ) (x : A) → map f (replicate n x) ≡ replicate n (f x)
replicate_map f zero x = refl
replicate_map f (suc n) x = ap (λ l. f x ∷ l) (replicate_map f n x)

-- lists of zeros, one after the other
joined_zeros : (xss : List (List ℤ)) → ((h : ℕ) → get_or xss h [] ≡ zeros (length (get_or xss h []))) → all_joined xss ≡ zeros (sum (map length xss))
joined_zeros [] z = refl
joined_zeros (xs ∷ xss) z = (λ i. z 0 i ++ joined_zeros xss (λ h. z (suc h)) i) ∙ replicate_more (length xs) (sum (map length xss)) (pos 0) ∙ ap zeros (sym (sum-cons (length xs) (map length xss)))

module _ (j : JobData) where
  -- each list of elements is one of zeros
  each_zeros : (h : ℕ) → get_or (opening j).elements h [] ≡ zeros (length (get_or (opening j).elements h []))
  each_zeros h = by (cases_lt h (length j.program.buffers)) (cases_lt h (length j.program.buffers + j.media))
    where
      of : (n : ℕ) → get_or (opening j).elements h [] ≡ zeros n → get_or (opening j).elements h [] ≡ zeros (length (get_or (opening j).elements h []))
      of n e = e ∙ ap zeros (sym (length-replicate n (pos 0)) ∙ ap (length {A = ℤ}) (sym e))

      by : (h < length j.program.buffers) ⊎ (length j.program.buffers ≤ h) → (h < length j.program.buffers + j.media)
          ⊎ (length j.program.buffers + j.media ≤ h) → get_or (opening j).elements h [] ≡ zeros (length (get_or (opening j).elements h []))
      by (inl a) b = of _ (buffer_list j.program j.media h a)
      by (inr a) (inl b) = let m : ℕ = h - length j.program.buffers in let e : length j.program.buffers + m ≡ h = omega arith in
          of _ (ap (λ (i : ℕ). get_or (opening j).elements i []) (sym e) ∙ wire_list j.program j.media m (omega arith))
      by (inr a) (inr b) = of 0 (get_or_past (opening j).elements h [] (let l = lists_many j.program j.media in omega (arith, l, b)))

  words_zero : table_of (opening j) ≡ replicate (table_len j) 0
  words_zero = ap (λ ws. 0 ∷ ws)
      (ap (λ l. replicate {A = ℕ} (2 * length j.program.pairs) 0 ++ (replicate {A = ℕ} j.media 0 ++ map word_of l)) (joined_zeros (opening j).elements each_zeros)
      ∙ ap (λ l. replicate {A = ℕ} (2 * length j.program.pairs) 0 ++ (replicate {A = ℕ} j.media 0 ++ l)) (replicate_map word_of (sum (element_lens j)) (pos 0))
      ∙ ap (λ l. replicate {A = ℕ} (2 * length j.program.pairs) 0 ++ l) (replicate_more {A = ℕ} j.media (sum (element_lens j)) 0)
      ∙ replicate_more {A = ℕ} (2 * length j.program.pairs) (j.media + sum (element_lens j)) 0)

  exact_zeros : AreExact (opening j).elements
  exact_zeros h q = let e : element_in (opening j).elements h q ≡ pos 0 = ap (λ (l : List ℤ). get_or l q (pos 0)) (each_zeros h)
      ∙ at_zero (length (get_or (opening j).elements h [])) q in subst IsExact (sym e) refl
    where
      at_zero : (n q : ℕ) → get_or (zeros n) q (pos 0) ≡ pos 0
      at_zero zero q = refl
      at_zero (suc n) zero = refl
      at_zero (suc n) (suc q) = at_zero n q

  Counts : List ℕ
  Counts = replicate (length j.program.seqs) 0

  count_zero : (n s : ℕ) → get_or (replicate {A = ℕ} n 0) s 0 ≡ 0
  count_zero zero s = refl
  count_zero (suc n) zero = refl
  count_zero (suc n) (suc s) = count_zero n s

  module _ (g : RunsOnWords j) where
    told_is : told j (opening j).counts ≡ opening j
    told_is = sym (g.laws.told [])

    only : (i : ℕ) (v : View) → get_elem? (first_view j ∷ []) i ≡ some v → (i ≡ 0) × (first_view j ≡ v)
    only zero v e = (refl, some-injective (first_view j) v e)
    only (suc i) v e = absurd (some-ne-none v (sym e))

    counted : (i s n : ℕ) (d : Drives (first_view j ∷ []) i s n) → n ≡ 0
    counted i s n d = (all_zero 0 (length j.program.seqs) s n (subst (λ (v : View). count_by v s ≡ Some n) (sym (only i d.view d.stands).1) d.count)).0

    pub opened : Tells j (at_start (replicate (table_len j) 0) [] (first_view j))
    opened = (
      (opening j).counts,
      record {
        are_told = record { reached = ([], refl); exact = subst (λ (z : Core). AreExact z.elements) (sym told_is) exact_zeros };
        words = sym words_zero ∙ ap table_of (sym told_is);
        for_job = λ i v e. subst (IsFor j) (only i v e).1 refl;
        agree = λ i s n d. count_zero (length j.program.seqs) s ∙ sym (counted i s n d);
        apart = λ i h s n m d e. (only i d.view d.stands).0 ∙ sym (only h e.view e.stands).0;
        covered = λ s l. record { seat = 0; count = 0; drives = record { view = first_view j; stands = refl; count = all_counted 0 (length j.program.seqs) s (omega arith) (omega (arith, l)) } };
      },
    )
