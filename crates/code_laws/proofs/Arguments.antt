-- Numbers and names as arguments: each is one argument, and is read as what was printed.
use Rattle.std.proofs.Common.{◌≡◌, ℕ, ◌≤◌, ◌<◌, ◌^◌, Bool, not, ◌&&◌, ◌||◌, ◌==◌, true, nat_le, nat_lt, List, [], ◌∷◌, length, map, refl, arith, ap, ◌∙◌, Some, pos, inl, inr, rules}
use Rattle.std.specs.Prelude.{Option}
use Rattle.std.specs.List.{list_all}
use Rattle.std.specs.Fmt.{decimal}
use Rattle.std.proofs.lemmas.Bool.{and_parts, and_from, leb-true, le-leb, eqb-true, ne_eqb, or_cases, ltb-true}
use Rattle.std.proofs.lemmas.Fmt.{digits_decimal, decimal_nonempty}
use Rattle.std.proofs.lemmas.Str.Parse.{IsNumeralModel, numerals_by_fold}
use Rattle.syn_base.specs.Name.{is_name, is_name_byte, is_digit, is_letter, begins_name}
use Rattle.syn_base.specs.Integer.{number_after}
use Rattle.syn_base.proofs.Decimal as integers
use Rattle.syn_base.specs.Bytes.{Bytes}
use Rattle.sequence_build_laws.specs.FlatValid.{is_path, is_path_byte}
use Rattle.macro_code.specs.Forms.{has_bytes, natural, number_in, buffer_in, each_in, with_first}
use Rattle.macro_code.specs.Text.{buffer_name}
use Rattle.code_laws.proofs.Forms.{is_word_byte, is_argument, all_of}

word_byte : (b : ℕ) → 45 ≤ b → b ≤ 122 → (b ≡ 59 → ⊥) → is_word_byte b ≡ true
word_byte b low high other =
    and_from (nat_le 45 b && nat_le b 122) (not (b == 59)) (and_from (nat_le 45 b) (nat_le b 122) (le-leb 45 b (omega (arith, low))) (le-leb b 122 (omega (arith, high)))) (ap not (ne_eqb b 59 other))

in_range : (low high b : ℕ) → (nat_le low b && nat_le b high) ≡ true → (low ≤ b) × (b ≤ high)
in_range low high b h = let both = and_parts (nat_le low b) (nat_le b high) h in (leb-true low b both.0, leb-true b high both.1)

digit_byte : (b : ℕ) → is_digit b ≡ true → is_word_byte b ≡ true
digit_byte b h = let r = in_range 48 57 b h in let low = r.0 in let high = r.1 in word_byte b (omega (arith, low)) (omega (arith, high)) (λ e. omega (arith, high, e))

name_byte : (b : ℕ) → is_name_byte b ≡ true → is_word_byte b ≡ true
name_byte b h = elim (or_cases (is_letter b || is_digit b) (b == 95) h) [
  | inl some ↦ elim (or_cases (is_letter b) (is_digit b) some) [
    | inl letter ↦ elim (or_cases (nat_le 65 b && nat_le b 90) (nat_le 97 b && nat_le b 122) letter) [
      | inl upper ↦ let r = in_range 65 90 b upper in let low = r.0 in let high = r.1 in word_byte b (omega (arith, low)) (omega (arith, high)) (λ e. omega (arith, low, e))
      | inr lower ↦ let r = in_range 97 122 b lower in let low = r.0 in let high = r.1 in word_byte b (omega (arith, low)) (omega (arith, high)) (λ e. omega (arith, low, e))
    ]
    | inr digit ↦ digit_byte b digit
  ]
  | inr line ↦ let e = eqb-true b 95 line in word_byte b (omega (arith, e)) (omega (arith, e)) (λ k. omega (arith, e, k))
]

path_byte : (b : ℕ) → is_path_byte b ≡ true → is_word_byte b ≡ true
path_byte b h = elim (or_cases (is_name_byte b || (b == 46) || (b == 47)) (b == 58) h) [
  | inl some ↦ elim (or_cases (is_name_byte b || (b == 46)) (b == 47) some) [
    | inl less ↦ elim (or_cases (is_name_byte b) (b == 46) less) [
      | inl name ↦ name_byte b name
      | inr dot ↦ let e = eqb-true b 46 dot in word_byte b (omega (arith, e)) (omega (arith, e)) (λ k. omega (arith, e, k))
    ]
    | inr slash ↦ let e = eqb-true b 47 slash in word_byte b (omega (arith, e)) (omega (arith, e)) (λ k. omega (arith, e, k))
  ]
  | inr colon ↦ let e = eqb-true b 58 colon in word_byte b (omega (arith, e)) (omega (arith, e)) (λ k. omega (arith, e, k))
]

-- a name, and the name of an operation
pub name_argument : (w : Bytes) → is_name w ≡ true → is_argument w ≡ true
name_argument [] h = cc
name_argument (b ∷ bs) h = all_of is_name_byte is_word_byte name_byte (b ∷ bs) (and_parts (begins_name (b ∷ bs) && nat_le (length (b ∷ bs)) 32) (list_all is_name_byte (b ∷ bs)) h).1

pub path_argument : (w : Bytes) → is_path w ≡ true → is_argument w ≡ true
path_argument [] h = cc
path_argument (b ∷ bs) h = all_of is_path_byte is_word_byte path_byte (b ∷ bs) (and_parts (nat_le 1 (length (b ∷ bs))) (list_all is_path_byte (b ∷ bs)) h).1

-- numbers
own : IsNumeralModel (λ ds. list_all is_digit ds ≡ true) (number_after 0)
own = numerals_by_fold _ (search rules) number_after (search rules)

-- 64 bits with a sign hold the number
abbrev pub is_small : ℕ → Bool
is_small n = nat_lt n 9223372036854775808

small : (n : ℕ) → is_small n ≡ true → n < 2 ^ 63
small n h = let l = ltb-true n 9223372036854775808 h in omega (arith, l)

pub number_back : (n : ℕ) → is_small n ≡ true → number_in (decimal n) ≡ Some n
number_back n h = let l = small n h in ap natural (integers.reads_back (pos n) (record { sfits = omega (arith, l) }))

digits_argument : (ds : Bytes) → list_all is_digit ds ≡ true → 0 < length ds → is_argument ds ≡ true
digits_argument [] h some = absurd (omega arith)
digits_argument (b ∷ bs) h some = all_of is_digit is_word_byte digit_byte (b ∷ bs) h

pub number_argument : (n : ℕ) → is_small n ≡ true → is_argument (decimal n) ≡ true
number_argument n h = let l = small n h in let k : n < 2 ^ 64 = omega (arith, l) in digits_argument (decimal n) (digits_decimal own n k) (decimal_nonempty n k)

-- buffers
pub buffer_back : (b : ℕ) → is_small b ≡ true → buffer_in (buffer_name b) ≡ Some b
buffer_back b h = number_back b h

pub buffer_argument : (b : ℕ) → is_small b ≡ true → is_argument (buffer_name b) ≡ true
buffer_argument b h = (and_parts (has_bytes (decimal b)) (list_all is_word_byte (decimal b)) (number_argument b h)).1

-- several
pub each_back : (read : Bytes → Option ℕ) (print : ℕ → Bytes) → ((n : ℕ) → is_small n ≡ true → read (print n) ≡ Some n) → (ns : List ℕ)
    → list_all is_small ns ≡ true → each_in read (map print ns) ≡ Some ns
each_back read print each [] h = refl
each_back read print each (n ∷ ns) h =
    let both = and_parts (is_small n) (list_all is_small ns) h in
    ap (λ (o : Option ℕ). with_first o (each_in read (map print ns))) (each n both.0) ∙ ap (with_first (Some n)) (each_back read print each ns both.1)

pub each_argument : (print : ℕ → Bytes) → ((n : ℕ) → is_small n ≡ true → is_argument (print n) ≡ true) → (ns : List ℕ) → list_all is_small ns ≡ true → list_all is_argument (map print ns) ≡ true
each_argument print each [] h = refl
each_argument print each (n ∷ ns) h =
    let both = and_parts (is_small n) (list_all is_small ns) h in
    and_from (is_argument (print n)) (list_all is_argument (map print ns)) (each n both.0) (each_argument print each ns both.1)
