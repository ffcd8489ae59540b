-- A name or a number at the front of a text is the first token.
use Rattle.std.proofs.Common.{
  ◌≡◌,
  ℕ,
  suc,
  ◌≤◌,
  ◌<◌,
  ◌^◌,
  ◌==◌,
  min,
  Bool,
  true,
  false,
  not,
  ◌&&◌,
  ◌||◌,
  if◌then◌else◌,
  [],
  ◌∷◌,
  ◌++◌,
  length,
  Ok,
  ℤ,
  pos,
  negsuc,
  refl,
  ap,
  ◌∙◌,
  arith,
  rules,
  nat_le,
  leb-true,
  w64,
  FitsSigned,
}
use Rattle.std.specs.List.{list_all}
use Rattle.std.specs.Fmt.{decimal, signed_decimal}
use Rattle.std.proofs.lemmas.Fmt.{digits_decimal, decimal_nonempty}
use Rattle.std.proofs.lemmas.Str.Parse.{IsNumeralModel, numerals_by_fold}
use Rattle.syn_base.specs.Name.{is_name, is_name_byte, is_letter, is_digit}
use Rattle.syn_base.specs.Integer.{integer_of, number_after}
use Rattle.syn_base.proofs.Decimal as integers
use Rattle.syn_base.specs.Bytes.{Bytes}
use Rattle.body_text.specs.Tokens.{number, name, front, len_by, number_or_bad, word_token, mark_or_word}
use Rattle.body_text.proofs.CanonicalTokens.{token_list, piece, Stops, and_left, and_right, not_true, front_all, digits_stop, name_byte-not_blank, name_byte-no_mark, name_byte-no_minus}

name_long : (digit minus part : Bool) (x y n : ℕ) → digit ≡ false → minus ≡ false → part ≡ true → y ≡ n → suc n ≤ 32
    → (if digit then suc x else (if minus then suc x else (if part then min 32 (suc y) else 1))) ≡ suc n
name_long digit minus part x y n p q r e few = rw (p, q, r, e) (omega arith)

pub name_token : (n rest : Bytes) → is_name n ≡ true → Stops rest → token_list 0 (n ++ rest) ≡ name n ∷ token_list 0 rest
name_token [] rest is stops = cc
name_token (b ∷ xs) rest is stops =
    let short : Bool = nat_le (suc (length xs)) 32 in
    let parts : Bool = list_all is_name_byte (b ∷ xs) in
    let both : (not (is_digit b) && short) ≡ true = and_left (not (is_digit b) && short) parts is in
    let all : (is_name_byte b && list_all is_name_byte xs) ≡ true = and_right (not (is_digit b) && short) parts is in
    let few : suc (length xs) ≤ 32 = leb-true (suc (length xs)) 32 (and_right (not (is_digit b)) short both) in
    let byte : is_name_byte b ≡ true = and_left (is_name_byte b) (list_all is_name_byte xs) all in
    let no_digit : is_digit b ≡ false = not_true (is_digit b) (and_left (not (is_digit b)) short both) in
    let count : front is_name_byte (xs ++ rest) ≡ length xs = front_all is_name_byte xs rest (and_right (is_name_byte b) (list_all is_name_byte xs) all) stops in
    let long : len_by b (xs ++ rest) ≡ suc (length xs) = name_long (is_digit b) (b == 45) (is_name_byte b) _ _ (length xs) no_digit (name_byte-no_minus b byte) byte count few in
    piece b xs rest (name_byte-not_blank b byte) long
    ∙ ap (λ o. mark_or_word o (b ∷ xs) ∷ token_list 0 rest) (name_byte-no_mark b byte)
    ∙ ap (λ c. (if c then name (b ∷ xs) else number_or_bad (integer_of (b ∷ xs))) ∷ token_list 0 rest) is

digit_passes : (l d u : Bool) → d ≡ true → (l || d || u) ≡ true
digit_passes true d u h = refl
digit_passes false d u h = ap (λ c. c || u) h

digit-name_byte : (b : ℕ) → is_digit b ≡ true → is_name_byte b ≡ true
digit-name_byte b h = digit_passes (is_letter b) (is_digit b) (b == 95) h

-- what is no name and no mark is a number where it is one
number_word : (word : Bytes) (v : ℤ) → is_name word ≡ false → integer_of word ≡ Ok v → word_token word ≡ number v
number_word word v other is = ap (λ c. if c then name word else number_or_bad (integer_of word)) other ∙ ap number_or_bad is

digits_token : (v : ℤ) (ds rest : Bytes) → list_all is_digit ds ≡ true → 0 < length ds → integer_of ds ≡ Ok v → Stops rest
    → token_list 0 (ds ++ rest) ≡ number v ∷ token_list 0 rest
digits_token v [] rest all some is stops = absurd (omega arith)
digits_token v (b ∷ xs) rest all some is stops =
    let digit : is_digit b ≡ true = and_left (is_digit b) (list_all is_digit xs) all in
    let byte : is_name_byte b ≡ true = digit-name_byte b digit in
    let count : front is_digit (xs ++ rest) ≡ length xs = front_all is_digit xs rest (and_right (is_digit b) (list_all is_digit xs) all) (digits_stop rest stops) in
    let long : len_by b (xs ++ rest) ≡ suc (length xs) = digits_long (is_digit b) (front is_digit (xs ++ rest)) (length xs) _ digit count in
    let no_name : is_name (b ∷ xs) ≡ false = ap (λ c. not c && nat_le (suc (length xs)) 32 && list_all is_name_byte (b ∷ xs)) digit in
    piece b xs rest (name_byte-not_blank b byte) long
    ∙ ap (λ o. mark_or_word o (b ∷ xs) ∷ token_list 0 rest) (name_byte-no_mark b byte)
    ∙ ap (λ t. t ∷ token_list 0 rest) (number_word (b ∷ xs) v no_name is)
  where
    digits_long : (digit : Bool) (x n other : ℕ) → digit ≡ true → x ≡ n → (if digit then suc x else other) ≡ suc n
    digits_long digit x n other h e = rw (h, e) refl

and_false : (x : Bool) → (x && false) ≡ false
and_false true = refl
and_false false = refl

minus_token : (v : ℤ) (ds rest : Bytes) → list_all is_digit ds ≡ true → integer_of (45 ∷ ds) ≡ Ok v → Stops rest
    → token_list 0 (45 ∷ (ds ++ rest)) ≡ number v ∷ token_list 0 rest
minus_token v ds rest all is stops =
    piece 45 ds rest refl (ap (λ n. suc n) (front_all is_digit ds rest all (digits_stop rest stops)))
    ∙ ap (λ t. t ∷ token_list 0 rest) (number_word (45 ∷ ds) v (and_false (nat_le (suc (length ds)) 32)) is)

own : IsNumeralModel (λ ds. list_all is_digit ds ≡ true) (number_after 0)
own = numerals_by_fold _ (search rules) number_after (search rules)

pub number_token : (v : ℤ) (rest : Bytes) → FitsSigned w64 v → Stops rest → token_list 0 (signed_decimal v ++ rest) ≡ number v ∷ token_list 0 rest
number_token (pos n) rest f stops =
    let h : n < 2 ^ 64 = omega (arith, f.sfits) in
    digits_token (pos n) (decimal n) rest (digits_decimal own n h) (decimal_nonempty n h) (integers.reads_back (pos n) f) stops
number_token (negsuc n) rest f stops =
    let h : suc n < 2 ^ 64 = omega (arith, f.sfits) in
    minus_token (negsuc n) (decimal (suc n)) rest (digits_decimal own (suc n) h) (integers.reads_back (negsuc n) f) stops
