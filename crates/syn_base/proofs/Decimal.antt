-- What is printed is read back.
use Rattle.std.proofs.Common.{
  ◌≡◌,
  ℕ,
  suc,
  ◌-◌,
  ◌^◌,
  ◌≤◌,
  ◌<◌,
  ℤ,
  pos,
  negsuc,
  List,
  [],
  ◌∷◌,
  Option,
  Some,
  None,
  Result,
  Ok,
  Err,
  Bool,
  true,
  false,
  ◌&&◌,
  ◌==◌,
  if◌then◌else◌,
  nat_le,
  refl,
  arith,
  rules,
  length,
  ap,
  ◌∙◌,
  subst,
  ne_eqb,
  w64,
  FitsSigned,
}
use Rattle.std.specs.List.{list_all}
use Rattle.std.specs.Fmt.{decimal, signed_decimal}
use Rattle.std.proofs.lemmas.Fmt.{digits_decimal, digits_value-decimal, decimal_nonempty}
use Rattle.std.proofs.lemmas.Str.Parse.{IsNumeralModel, numerals_by_fold}
use Rattle.syn_base.specs.Name.{is_digit}
use Rattle.syn_base.specs.Integer.{integer_of, behind_minus, unless_other, from_digits, with_sign, first_other, number_after, number_of}
use Rattle.syn_base.specs.declared.integer.NumFault.{NumFault}
use Rattle.syn_base.specs.declared.integer.NumFault.TheVariants.{TooLarge}
use Rattle.std.proofs.lemmas.Bool.{le-leb}

own : IsNumeralModel (λ ds. list_all is_digit ds ≡ true) (number_after 0)
own = numerals_by_fold _ (search rules) number_after (search rules)

each : (d ds : Bool) (at : ℕ) (more : Option ℕ) → (ds ≡ true → more ≡ None) → (d && ds) ≡ true → (if d then more else Some at) ≡ None
each true ds at more rest h = rest h
each false ds at more rest h = cc

none_other : (from : ℕ) (ds : List ℕ) → list_all is_digit ds ≡ true → first_other from ds ≡ None
none_other from [] h = refl
none_other from (b ∷ bs) h = each (is_digit b) (list_all is_digit bs) from (first_other (suc from) bs) (none_other (suc from) bs) h

first_digit : (d ds : Bool) → (d && ds) ≡ true → d ≡ true
first_digit true ds h = refl
first_digit false ds h = h

no_minus : (b : ℕ) → is_digit b ≡ true → (b == 45) ≡ false
no_minus b h = ne_eqb b 45 (λ e. let f : is_digit 45 ≡ true = subst (λ n. is_digit n ≡ true) e h in cc)

plain : (ds : List ℕ) → list_all is_digit ds ≡ true → 0 < length ds → integer_of ds ≡ with_sign false (number_of ds)
plain [] h k = absurd (omega arith)
plain (b ∷ bs) h k =
    ap (λ x. behind_minus x b bs) (no_minus b (first_digit (is_digit b) (list_all is_digit bs) h)) ∙ ap (λ o. unless_other o (from_digits false (b ∷ bs))) (none_other 0 (b ∷ bs) h)

some_digits : (ds : List ℕ) → 0 < length ds → from_digits true ds ≡ with_sign true (number_of ds)
some_digits [] k = absurd (omega arith)
some_digits (b ∷ bs) k = refl

minus : (ds : List ℕ) → list_all is_digit ds ≡ true → 0 < length ds → integer_of (45 ∷ ds) ≡ with_sign true (number_of ds)
minus ds h k = ap (λ o. unless_other o (from_digits true ds)) (none_other 1 ds h) ∙ some_digits ds k

abbrev fitting : Bool → ℤ → Result ℤ NumFault
fitting b z = if b then Ok z else Err TooLarge

within : (n m : ℕ) (z : ℤ) → n ≤ m → fitting (nat_le n m) z ≡ Ok z
within n m z le = ap (λ b. fitting b z) (le-leb n m le)

pub reads_back : (v : ℤ) → FitsSigned w64 v → integer_of (signed_decimal v) ≡ Ok v
reads_back (pos n) f =
    let h : n < 2 ^ 64 = omega (arith, f.sfits) in
    plain (decimal n) (digits_decimal own n h) (decimal_nonempty n h) ∙ ap (with_sign false) (digits_value-decimal own n h) ∙ within n (2 ^ 63 - 1) (pos n) (omega (arith, f.sfits))
reads_back (negsuc n) f =
    let h : suc n < 2 ^ 64 = omega (arith, f.sfits) in
    minus (decimal (suc n)) (digits_decimal own (suc n) h) (decimal_nonempty (suc n) h)
    ∙ ap (with_sign true) (digits_value-decimal own (suc n) h) ∙ within (suc n) (2 ^ 63) (negsuc n) (omega (arith, f.sfits))
