-- Names and numbers are words, and a line of words is read as these words.
use Rattle.std.proofs.Common.{
  ◌≡◌,
  ℕ,
  ◌≤◌,
  ◌<◌,
  ◌^◌,
  Bool,
  not,
  true,
  false,
  ◌&&◌,
  ◌||◌,
  ◌==◌,
  if◌then◌else◌,
  [],
  ◌∷◌,
  length,
  Option,
  Some,
  None,
  Result,
  Ok,
  pos,
  nat_le,
  refl,
  ap,
  ◌∙◌,
  arith,
  rules,
  ◌⊎◌,
  inl,
  inr,
}
use Rattle.std.specs.List.{list_all}
use Rattle.std.specs.Fmt.{decimal}
use Rattle.std.proofs.lemmas.Bool.{and_parts, and_from, leb-true, le-leb, eqb-true, ne_eqb}
use Rattle.std.proofs.lemmas.Fmt.{digits_decimal, decimal_nonempty}
use Rattle.std.proofs.lemmas.Str.Parse.{IsNumeralModel, numerals_by_fold}
use Rattle.text_lines.specs.Text.{words_of, is_hash, is_foreign, count_text}
use Rattle.syn_base.specs.Name.{is_name, is_name_byte, is_digit, is_letter, begins_name}
use Rattle.syn_base.specs.Integer.{integer_of, number_after}
use Rattle.syn_base.proofs.Decimal as integers
use Rattle.archi_defs.specs.Archi.{is_depth}
use Rattle.archi_defs.specs.Refusals.{ArchiRefusal}
use Rattle.syn_base.specs.Bytes.{Bytes}
use Rattle.archi_defs.specs.Text.{Reading, described_line, version_line, line_by, next_line, up_to, depth_of}
use Rattle.archi_reader.specs.Canonical.{Words, joined}
use Rattle.text_lines.specs.Refusals.{with_some}
use Rattle.archi_reader.proofs.Splits.{is_plain, is_word, are_words, plain, joined_back, joined_bytes, code_back, foreign_back}

or_true : (x y : Bool) → (x || y) ≡ true → (x ≡ true) ⊎ (y ≡ true)
or_true true y h = inl refl
or_true false y h = inr h

in_range : (low high b : ℕ) → (nat_le low b && nat_le b high) ≡ true → (low ≤ b) × (b ≤ high)
in_range low high b h = let both = and_parts (nat_le low b) (nat_le b high) h in (leb-true low b both.0, leb-true b high both.1)

name_byte-range : (b : ℕ) → is_name_byte b ≡ true → (48 ≤ b) × (b ≤ 122)
name_byte-range b h = elim (or_true (is_letter b || is_digit b) (b == 95) h) [
  | inl some ↦ elim (or_true (is_letter b) (is_digit b) some) [
    | inl letter ↦ elim (or_true (nat_le 65 b && nat_le b 90) (nat_le 97 b && nat_le b 122) letter) [
      | inl upper ↦ let r = in_range 65 90 b upper in (omega (arith, r.0), omega (arith, r.1))
      | inr lower ↦ let r = in_range 97 122 b lower in (omega (arith, r.0), omega (arith, r.1))
    ]
    | inr digit ↦ let r = in_range 48 57 b digit in (omega (arith, r.0), omega (arith, r.1))
  ]
  | inr line ↦ let e = eqb-true b 95 line in (omega (arith, e), omega (arith, e))
]

plain_by : (tab return space low high hash feed : Bool) → tab ≡ false → return ≡ false → space ≡ false → low ≡ true → high ≡ true → hash ≡ false → feed ≡ false
    → (not (tab || return || space) && not (not ((tab || return || space) || (low && high))) && not hash && not feed) ≡ true
plain_by tab return space low high hash feed a b c d e f g = rw (a, b, c, d, e, f, g) refl

-- a byte of a name is one of a word
name_byte-plain : (b : ℕ) → is_name_byte b ≡ true → is_plain b ≡ true
name_byte-plain b h =
    let r = name_byte-range b h in
    let low = r.0 in
    let high = r.1 in
    plain_by (b == 9) (b == 13) (b == 32) (nat_le 33 b) (nat_le b 126) (b == 35) (b == 10)
    (ne_eqb b 9 (λ e. omega (arith, low, e))) (ne_eqb b 13 (λ e. omega (arith, low, e))) (ne_eqb b 32 (λ e. omega (arith, low, e)))
    (le-leb 33 b (omega (arith, low))) (le-leb b 126 (omega (arith, high)))
    (ne_eqb b 35 (λ e. omega (arith, low, e))) (ne_eqb b 10 (λ e. omega (arith, low, e)))

own : IsNumeralModel (λ ds. list_all is_digit ds ≡ true) (number_after 0)
own = numerals_by_fold _ (search rules) number_after (search rules)

digit-name_byte : (b : ℕ) → is_digit b ≡ true → is_name_byte b ≡ true
digit-name_byte b h = passes (is_letter b) (is_digit b) (b == 95) h
  where
    passes : (l d u : Bool) → d ≡ true → (l || d || u) ≡ true
    passes true d u e = refl
    passes false d u e = ap (λ c. c || u) e

all_plain : (test : ℕ → Bool) → ((b : ℕ) → test b ≡ true → is_plain b ≡ true) → (bs : Bytes) → list_all test bs ≡ true → list_all is_plain bs ≡ true
all_plain test each [] h = refl
all_plain test each (b ∷ bs) h =
    let both = and_parts (test b) (list_all test bs) h in
    and_from (is_plain b) (list_all is_plain bs) (each b both.0) (all_plain test each bs both.1)

-- a name is a word
pub name_word : (w : Bytes) → is_name w ≡ true → is_word w ≡ true
name_word [] h = cc
name_word (b ∷ bs) h = all_plain is_name_byte name_byte-plain (b ∷ bs) (and_parts (begins_name (b ∷ bs) && nat_le (length (b ∷ bs)) 32) (list_all is_name_byte (b ∷ bs)) h).1

digits_word : (ds : Bytes) → list_all is_digit ds ≡ true → 0 < length ds → is_word ds ≡ true
digits_word [] h some = absurd (omega arith)
digits_word (b ∷ bs) h some = all_plain is_digit (λ c k. name_byte-plain c (digit-name_byte c k)) (b ∷ bs) h

-- a number is a word
pub number_word : (n : ℕ) → n < 2 ^ 63 → is_word (count_text n) ≡ true
number_word n small = let h : n < 2 ^ 64 = omega (arith, small) in digits_word (decimal n) (digits_decimal own n h) (decimal_nonempty n h)

-- a number within its bounds is read back
pub number_back : (most n : ℕ) → nat_le n most ≡ true → n < 2 ^ 63 → up_to most (integer_of (count_text n)) ≡ Some n
number_back most n low small =
    ap (up_to most) (integers.reads_back (pos n) (record { sfits = omega (arith, small) })) ∙ ap (λ b. if b then Some n else None) low

no_hash : (ws : Words) → are_words ws ≡ true → list_all (λ b. not (is_hash b)) (joined ws) ≡ true
no_hash ws h = joined_bytes (λ b. not (is_hash b)) refl (λ b p. ap not ((plain b p).no_hash)) ws h

no_foreign : (ws : Words) → are_words ws ≡ true → list_all (λ b. not (is_foreign b)) (joined ws) ≡ true
no_foreign ws h = joined_bytes (λ b. not (is_foreign b)) refl (λ b p. ap not ((plain b p).no_foreign)) ws h

-- the line of these words
abbrev by_words : Reading → ℕ → Words → Result Reading ArchiRefusal
by_words r n ws = if length ws == 0 then Ok r else with_some r.version (version_line r n ws) (λ version. described_line r n version ws)

words_read : (r : Reading) (n : ℕ) (ws : Words) → are_words ws ≡ true → next_line r n (joined ws) ≡ by_words r n ws
words_read r n ws h =
    ap (line_by r n (joined ws)) (foreign_back (joined ws) (no_hash ws h) (no_foreign ws h))
    ∙ ap (λ code. by_words r n (words_of code)) (code_back (joined ws) (no_hash ws h))
    ∙ ap (by_words r n) (joined_back ws h)

-- a line after the version line
pub described_back : (r : Reading) (n version : ℕ) (w : Bytes) (ws : Words) → are_words (w ∷ ws) ≡ true → r.version ≡ Some version
    → next_line r n (joined (w ∷ ws)) ≡ described_line r n version (w ∷ ws)
described_back r n version w ws h is =
    words_read r n (w ∷ ws) h
    ∙ ap (λ b. if b then Ok r else with_some r.version (version_line r n (w ∷ ws)) (λ v. described_line r n v (w ∷ ws))) (ne_eqb (length (w ∷ ws)) 0 (λ e. omega (arith, e)))
    ∙ ap (λ (o : Option ℕ). with_some o (version_line r n (w ∷ ws)) (λ v. described_line r n v (w ∷ ws))) is

-- the version line
pub version_back : (r : Reading) (n : ℕ) (w : Bytes) (ws : Words) → are_words (w ∷ ws) ≡ true → r.version ≡ None → next_line r n (joined (w ∷ ws)) ≡ version_line r n (w ∷ ws)
version_back r n w ws h is =
    words_read r n (w ∷ ws) h
    ∙ ap (λ b. if b then Ok r else with_some r.version (version_line r n (w ∷ ws)) (λ v. described_line r n v (w ∷ ws))) (ne_eqb (length (w ∷ ws)) 0 (λ e. omega (arith, e)))
    ∙ ap (λ (o : Option ℕ). with_some o (version_line r n (w ∷ ws)) (λ v. described_line r n v (w ∷ ws))) is

-- a depth is read back
pub depth_back : (n : ℕ) → is_depth n ≡ true → n < 2 ^ 63 → depth_of (integer_of (count_text n)) ≡ Some n
depth_back n deep small =
    ap depth_of (integers.reads_back (pos n) (record { sfits = omega (arith, small) })) ∙ ap (λ b. if b then Some n else None) deep
