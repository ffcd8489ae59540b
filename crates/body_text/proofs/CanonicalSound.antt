-- The names of a text's tokens are names, and its numbers fit 64 bits.
use Rattle.std.proofs.Common.{
  ◌≡◌,
  ℕ,
  zero,
  suc,
  ◌-◌,
  ◌≤◌,
  ◌^◌,
  ◌==◌,
  Bool,
  true,
  false,
  if◌then◌else◌,
  List,
  [],
  ◌∷◌,
  ◌++◌,
  take,
  Option,
  Some,
  None,
  Result,
  Ok,
  Err,
  ℤ,
  pos,
  neg_ℤ,
  refl,
  sym,
  subst,
  arith,
  nat_le,
  leb-true,
  w64,
  FitsSigned,
  append_assoc,
}
use Rattle.syn_base.specs.Name.{is_name}
use Rattle.syn_base.specs.declared.integer.NumFault.{NumFault}
use Rattle.syn_base.specs.declared.integer.NumFault.TheVariants.{TooLarge}
use Rattle.syn_base.specs.Integer.{integer_of, behind_minus, signed, unless_other, from_digits, with_sign, first_other, number_of}
use Rattle.text_lines.specs.Text.{is_blank}
use Rattle.syn_base.specs.Bytes.{Bytes}
use Rattle.body_text.specs.Tokens.{Token, number, name, open_round, close_round, open_square, close_square, comma, len_by, number_or_bad, word_token, mark_or_word, token_of, tokens}
use Rattle.body_text.specs.Grammar.{Written, literal, index, element, sum_over, negation, apply, select, written}
use Rattle.body_text.proofs.CanonicalTokens.{token_list, without_places}

abbrev pub IsSound : Token → Type 0
IsSound (number v) = FitsSigned w64 v
IsSound (name n) = is_name n ≡ true
IsSound _ = Unit {0}

abbrev pub AreSound : List Token → Type 0
AreSound [] = Unit {0}
AreSound (t ∷ ts) = IsSound t × AreSound ts

-- a number that was read fits 64 bits
abbrev pub Fitting : Result ℤ NumFault → Type 0
Fitting (Ok v) = FitsSigned w64 v
Fitting (Err e) = Unit {0}

negative_fits : (n : ℕ) → n ≤ 2 ^ 63 → FitsSigned w64 (neg_ℤ (pos n))
negative_fits zero h = record { sfits = omega arith }
negative_fits (suc n) h = record { sfits = omega arith }

positive_fits : (n : ℕ) → n ≤ 2 ^ 63 - 1 → FitsSigned w64 (pos n)
positive_fits n h = record { sfits = omega arith }

tested : (within : Bool) (v : ℤ) → (within ≡ true → FitsSigned w64 v) → Fitting (if within then Ok v else Err TooLarge)
tested true v fits = fits refl
tested false v fits = tt

sign_fits : (negative : Bool) (n : ℕ) → Fitting (with_sign negative n)
sign_fits true n = tested (nat_le n (2 ^ 63)) (neg_ℤ (pos n)) (λ h. negative_fits n (leb-true n (2 ^ 63) h))
sign_fits false n = tested (nat_le n (2 ^ 63 - 1)) (pos n) (λ h. positive_fits n (leb-true n (2 ^ 63 - 1) h))

digits_fit : (negative : Bool) (ds : Bytes) → Fitting (from_digits negative ds)
digits_fit negative [] = tt
digits_fit negative (b ∷ bs) = sign_fits negative (number_of (b ∷ bs))

unless_fits : (o : Option ℕ) (r : Result ℤ NumFault) → Fitting r → Fitting (unless_other o r)
unless_fits None r h = h
unless_fits (Some place) r h = tt

signed_fits : (negative : Bool) (from : ℕ) (ds : Bytes) → Fitting (signed negative from ds)
signed_fits negative from ds = unless_fits (first_other from ds) (from_digits negative ds) (digits_fit negative ds)

behind_fits : (minus : Bool) (b : ℕ) (bs : Bytes) → Fitting (behind_minus minus b bs)
behind_fits true b bs = signed_fits true 1 bs
behind_fits false b bs = signed_fits false 0 (b ∷ bs)

pub integer_fits : (word : Bytes) → Fitting (integer_of word)
integer_fits [] = tt
integer_fits (b ∷ bs) = behind_fits (b == 45) b bs

number_sound : (r : Result ℤ NumFault) → Fitting r → IsSound (number_or_bad r)
number_sound (Ok v) h = h
number_sound (Err e) h = tt

word_by : (named : Bool) (word : Bytes) → is_name word ≡ named → IsSound (if named then name word else number_or_bad (integer_of word))
word_by true word h = h
word_by false word h = number_sound (integer_of word) (integer_fits word)

word_sound : (word : Bytes) → IsSound (word_token word)
word_sound word = word_by (is_name word) word refl

mark_sound : (v w x y z : Bool) (word : Bytes)
    → IsSound (mark_or_word (if v then Some open_round else
    (if w then Some close_round else (if x then Some open_square else (if y then Some close_square else (if z then Some comma else None))))) word)
mark_sound true w x y z word = tt
mark_sound false true x y z word = tt
mark_sound false false true y z word = tt
mark_sound false false false true z word = tt
mark_sound false false false false true word = tt
mark_sound false false false false false word = word_sound word

token_sound : (b : ℕ) (bs : Bytes) → IsSound (token_of b bs)
token_sound b bs = mark_sound (b == 40) (b == 41) (b == 91) (b == 93) (b == 44) (take (len_by b bs) (b ∷ bs))

chosen : (blank : Bool) (xs : List Token) (t : Token) (ys : List Token) → AreSound xs → IsSound t → AreSound ys → AreSound (if blank then xs else (t ∷ ys))
chosen true xs t ys h k l = h
chosen false xs t ys h k l = (k, l)

list_sound : (inside : ℕ) (bs : Bytes) → AreSound (token_list inside bs)
list_sound inside [] = tt
list_sound (suc inside) (b ∷ bs) = list_sound inside bs
list_sound zero (b ∷ bs) = chosen (is_blank b) (token_list zero bs) (token_of b bs) (token_list (len_by b bs - 1) bs) (list_sound zero bs) (token_sound b bs) (list_sound (len_by b bs - 1) bs)

pub tokens_sound : (text : Bytes) → AreSound (tokens text)
tokens_sound text = subst AreSound (sym (without_places 0 0 text)) (list_sound 0 text)

-- an expression whose names are names and whose numbers fit 64 bits
abbrev pub IsSoundTree : Written → Type 0
IsSoundTree (literal v) = FitsSigned w64 v
IsSoundTree index = Unit {0}
IsSoundTree (element p e) = (is_name p ≡ true) × IsSoundTree e
IsSoundTree (sum_over p) = is_name p ≡ true
IsSoundTree (negation a) = IsSoundTree a
IsSoundTree (apply op a b) = IsSoundTree a × IsSoundTree b
IsSoundTree (select c a b) = IsSoundTree c × (IsSoundTree a × IsSoundTree b)

-- what stands after a part, where a mark follows the part
behind : (ts : List Token) (mark : Token) (us rest : List Token) → AreSound ((ts ++ mark ∷ us) ++ rest) → AreSound (ts ++ mark ∷ (us ++ rest))
behind ts mark us rest h = subst AreSound (append_assoc ts (mark ∷ us) rest) h

pub tree_sound : (w : Written) (rest : List Token) → AreSound (written w ++ rest) → IsSoundTree w × AreSound rest
tree_sound (literal v) rest h = (h.0, h.1)
tree_sound index rest h = (tt, h.1)
tree_sound (element p e) rest h =
    let inner : IsSoundTree e × AreSound (close_square ∷ rest) = tree_sound e (close_square ∷ rest) (behind (written e) close_square [] rest h.1.1) in
    ((h.0, inner.0), inner.1.1)
tree_sound (sum_over p) rest h = (h.1.1.0, h.1.1.1.1)
tree_sound (negation a) rest h =
    let inner : IsSoundTree a × AreSound (close_round ∷ rest) = tree_sound a (close_round ∷ rest) (behind (written a) close_round [] rest h.1.1) in
    (inner.0, inner.1.1)
tree_sound (apply op a b) rest h =
    let second : List Token = written b ++ close_round ∷ [] in
    let l : IsSoundTree a × AreSound (comma ∷ (second ++ rest)) = tree_sound a (comma ∷ (second ++ rest)) (behind (written a) comma second rest h.1.1) in
    let r : IsSoundTree b × AreSound (close_round ∷ rest) = tree_sound b (close_round ∷ rest) (behind (written b) close_round [] rest l.1.1) in
    ((l.0, r.0), r.1.1)
tree_sound (select c a b) rest h =
    let third : List Token = written b ++ close_round ∷ [] in
    let second : List Token = written a ++ comma ∷ third in
    let k : IsSoundTree c × AreSound (comma ∷ (second ++ rest)) = tree_sound c (comma ∷ (second ++ rest)) (behind (written c) comma second rest h.1.1) in
    let l : IsSoundTree a × AreSound (comma ∷ (third ++ rest)) = tree_sound a (comma ∷ (third ++ rest)) (behind (written a) comma third rest k.1.1) in
    let r : IsSoundTree b × AreSound (close_round ∷ rest) = tree_sound b (close_round ∷ rest) (behind (written b) close_round [] rest l.1.1) in
    ((k.0, (l.0, r.0)), r.1.1)
