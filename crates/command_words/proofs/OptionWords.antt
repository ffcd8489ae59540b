-- Words that look like the option `--workers`.
use Rattle.std.proofs.Common.{◌≡◌, ◌∙◌, ℕ, [], ◌∷◌, ◌++◌, Bool, true, false, Option, Some, None, inl, inr, ◌⊎◌, refl, sym, ap, arith, codes, take, drop, take-append-drop, ap₂, ◌+◌, suc}
use Rattle.std.proofs.lemmas.Bool.Decides.{nat_tests}
use Rattle.std.specs.Prelude.{◌==◌}
use Rattle.std.specs.List.{before_first, position_or_len}
use Rattle.std.proofs.lemmas.Slice.Eq.{bytes_eq-Decides}
use Rattle.clap.specs.Lexer.{long_of, name_and_value}
use Rattle.command_words.specs.Command.{is_joined}
use Rattle.command_words.proofs.PlainWords.{Text}
use Rattle.command_words.proofs.Looks.{two_ways}

abbrev is_mark : ℕ → Bool
is_mark x = x == 61

take_more : (n x : ℕ) (t : Text) → take (1 + n) (x ∷ t) ≡ x ∷ take n t
take_more n x t = let e : 1 + n ≡ suc n = omega arith in rw e refl

goes_on : (x : ℕ) (t : Text) → is_mark x ≡ false → before_first is_mark (x ∷ t) ≡ x ∷ before_first is_mark t
goes_on x t e = rw e (take_more (position_or_len is_mark t) x t)

ends_here : (x : ℕ) (t : Text) → is_mark x ≡ true → before_first is_mark (x ∷ t) ≡ []
ends_here x t e = rw e refl

cut : (t : Text) → (t ≡ before_first is_mark t) ⊎ ((v : Text) × (t ≡ before_first is_mark t ++ 61 ∷ v))
cut [] = inl refl
cut (x ∷ t) =
    elim (two_ways (x == 61)) [
      | inl e ↦ let s : x ≡ 61 = grind (arith, nat_tests, e) in inr (t, ap₂ (λ (y : ℕ) (f : Text). f ++ y ∷ t) s (sym (ends_here x t e)))
      | inr e ↦ elim (cut t) [
        | inl h ↦ inl (ap (λ (r : Text). x ∷ r) h ∙ sym (goes_on x t e))
        | inr h ↦ inr (h.0, ap (λ (r : Text). x ∷ r) h.1 ∙ ap (λ (f : Text). f ++ 61 ∷ h.0) (sym (goes_on x t e)))
      ]
    ]

abbrev Given : Text → Type 0
Given w = (w ≡ codes "--workers") ⊎ (is_joined w ≡ true)

by_cut : (t : Text) → before_first is_mark t ≡ codes "workers" → Given (45 ∷ 45 ∷ t)
by_cut t e =
    elim (cut t) [
      | inl h ↦ inl (ap (λ (r : Text). 45 ∷ 45 ∷ r) (h ∙ e))
      | inr h ↦ inr (ap (λ (r : Text). is_joined (45 ∷ 45 ∷ r)) (h.1 ∙ ap (λ (n : Text). n ++ 61 ∷ h.0) e))
    ]

same_name : (p q : Text × Option Text) → Some p ≡ Some q → p.0 ≡ q.0
same_name p q e = cc

named_so : (x y z : ℕ) (zs : Text) (p : Text × Option Text) → long_of (x ∷ y ∷ z ∷ zs) ≡ Some p → p.0 ≡ codes "workers" → Given (x ∷ y ∷ z ∷ zs)
named_so x y z zs p l n =
    elim (two_ways (x == 45)) [
      | inr h ↦ let none : long_of (x ∷ y ∷ z ∷ zs) ≡ None = rw h refl in let bad : None ≡ Some p = sym none ∙ l in absurd cc
      | inl h ↦ elim (two_ways (y == 45)) [
        | inr k ↦ let none : long_of (x ∷ y ∷ z ∷ zs) ≡ None = rw (h, k) refl in let bad : None ≡ Some p = sym none ∙ l in absurd cc
        | inl k ↦
            let some : long_of (x ∷ y ∷ z ∷ zs) ≡ Some (name_and_value (z ∷ zs)) = rw (h, k) refl in
            let a : x ≡ 45 = grind (arith, nat_tests, h) in
            let b : y ≡ 45 = grind (arith, nat_tests, k) in
            rw (a, b) (by_cut (z ∷ zs) (same_name _ _ (sym some ∙ l) ∙ n))
      ]
    ]

-- a word whose name is the option's is the option
pub is_given : (w : Text) (p : Text × Option Text) → long_of w ≡ Some p → p.0 ≡ codes "workers" → Given w
is_given [] p l n = absurd cc
is_given (x ∷ []) p l n =
    elim (two_ways (x == 45)) [
      | inl h ↦ let none : long_of (x ∷ []) ≡ None = rw h refl in let bad : None ≡ Some p = sym none ∙ l in absurd cc
      | inr h ↦ let none : long_of (x ∷ []) ≡ None = rw h refl in let bad : None ≡ Some p = sym none ∙ l in absurd cc
    ]
is_given (x ∷ y ∷ []) p l n =
    elim (two_ways (x == 45)) [
      | inr h ↦ let none : long_of (x ∷ y ∷ []) ≡ None = rw h refl in let bad : None ≡ Some p = sym none ∙ l in absurd cc
      | inl h ↦ elim (two_ways (y == 45)) [
        | inl k ↦ let none : long_of (x ∷ y ∷ []) ≡ None = rw (h, k) refl in let bad : None ≡ Some p = sym none ∙ l in absurd cc
        | inr k ↦ let none : long_of (x ∷ y ∷ []) ≡ None = rw (h, k) refl in let bad : None ≡ Some p = sym none ∙ l in absurd cc
      ]
    ]
is_given (x ∷ y ∷ z ∷ zs) p l n = named_so x y z zs p l n

-- what is joined to the option stands after it
pub joined_is : (w : Text) → is_joined w ≡ true → w ≡ codes "--workers=" ++ drop 10 w
joined_is w j = sym (take-append-drop 10 w) ∙ ap (λ (f : Text). f ++ drop 10 w) ((bytes_eq-Decides (take 10 w) (codes "--workers=")).0 j)
