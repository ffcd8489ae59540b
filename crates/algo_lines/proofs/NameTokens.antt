-- A token that is a name is the bytes of the name at the token's place.
use Rattle.std.proofs.Common.{
  ◌≡◌,
  ℕ,
  zero,
  suc,
  ◌+◌,
  ◌-◌,
  ◌==◌,
  ◌&&◌,
  nat_le,
  Bool,
  not,
  true,
  false,
  cond,
  Option,
  Some,
  None,
  Result,
  Ok,
  Err,
  [],
  ◌∷◌,
  length,
  take,
  min,
  refl,
  arith,
  ap,
  sym,
  ◌∙◌,
  subst,
  ℤ,
}
use Rattle.std.specs.Prelude.{slice_get}
use Rattle.std.proofs.lemmas.Option.{slice_get-map}
use Rattle.std.specs.Option.{option_map}
use Rattle.std.specs.List.{list_all}
use Rattle.syn_base.specs.Name.{is_name, is_name_byte, is_digit, begins_name}
use Rattle.syn_base.specs.Integer.{integer_of}
use Rattle.syn_base.specs.declared.integer.NumFault.{NumFault}
use Rattle.text_lines.specs.Text.{is_blank}
use Rattle.body_text.specs.Tokens.{
  Placed,
  name,
  open_round,
  close_round,
  open_square,
  close_square,
  comma,
  front,
  len_by,
  number_or_bad,
  word_token,
  mark_or_word,
  token_of,
  tokens_from,
  placed,
  tokens,
}
use Rattle.body_text.specs.Reads.{place_or, place_of}
use Rattle.syn_base.specs.Bytes.{Bytes}
use Rattle.algo_lines.specs.Lines.{name_length, name_from}

no_mark : (a b c d e : Bool) (word p : Bytes)
    → mark_or_word (cond a (Some open_round)
    (cond b (Some close_round) (cond c (Some open_square) (cond d (Some close_square) (cond e (Some comma) None))))) word ≡ name p → word_token word ≡ name p
no_mark true b c d e word p h = cc
no_mark false true c d e word p h = cc
no_mark false false true d e word p h = cc
no_mark false false false true e word p h = cc
no_mark false false false false true word p h = cc
no_mark false false false false false word p h = h

word_by : (t : Bool) (r : Result ℤ NumFault) (word p : Bytes) → cond t (name word) (number_or_bad r) ≡ name p → (t ≡ true) × (word ≡ p)
word_by true r word p h = (refl, cc)
word_by false (Ok v) word p h = cc
word_by false (Err e) word p h = cc

name_word : (word p : Bytes) → word_token word ≡ name p → (is_name word ≡ true) × (word ≡ p)
name_word word p h = word_by (is_name word) (integer_of word) word p h

all_three : (a b c : Bool) → (a && b && c) ≡ true → (a ≡ true) × (c ≡ true)
all_three true true true h = (refl, refl)
all_three false b c h = cc
all_three true false c h = cc
all_three true true false h = cc

first_of_two : (a b : Bool) → (a && b) ≡ true → a ≡ true
first_of_two true b h = refl
first_of_two false b h = cc

name_begins : (b : ℕ) (bs : Bytes) → is_name (b ∷ bs) ≡ true → not (is_digit b) ≡ true
name_begins b bs h = (all_three (begins_name (b ∷ bs)) (nat_le (length (b ∷ bs)) 32) (list_all is_name_byte (b ∷ bs)) h).0

name_first : (b : ℕ) (bs : Bytes) → is_name (b ∷ bs) ≡ true → is_name_byte b ≡ true
name_first b bs h = first_of_two (is_name_byte b) (list_all is_name_byte bs) (all_three (begins_name (b ∷ bs)) (nat_le (length (b ∷ bs)) 32) (list_all is_name_byte (b ∷ bs)) h).1

no_digit : (d : Bool) → d ≡ true → not d ≡ true → ⊥
no_digit true e h = cc
no_digit false e h = cc

not_minus : (b : ℕ) → (b == 45) ≡ true → is_name_byte b ≡ true → ⊥
not_minus b e h = let is : b ≡ 45 = grind arith in
    let no : is_name_byte 45 ≡ true = subst (λ (x : ℕ). is_name_byte x ≡ true) is h in cc no

length_shape : (n : Bool) (p : ℕ) → n ≡ true → min 32 (suc p) ≡ min 32 (cond (not (not n)) (1 + p) 0)
length_shape true p h = ap (λ (k : ℕ). min 32 k) (omega arith)
length_shape false p h = cc

-- the length of a name's token
len_is : (d m n : Bool) (b : ℕ) (bs : Bytes) → is_digit b ≡ d → (b == 45) ≡ m → is_name_byte b ≡ n
    → is_name (take (cond d (suc (front is_digit bs)) (cond m (suc (front is_digit bs)) (cond n (min 32 (suc (front is_name_byte bs))) 1))) (b ∷ bs)) ≡ true
    → cond d (suc (front is_digit bs)) (cond m (suc (front is_digit bs)) (cond n (min 32 (suc (front is_name_byte bs))) 1)) ≡ name_length (b ∷ bs)
len_is true m n b bs hd hm hn h = absurd (no_digit (is_digit b) hd (name_begins b (take (front is_digit bs) bs) h))
len_is false true n b bs hd hm hn h = absurd (not_minus b hm (name_first b (take (front is_digit bs) bs) h))
len_is false false false b bs hd hm hn h = let yes = name_first b (take 0 bs) h in cc
len_is false false true b bs hd hm hn h = length_shape (is_name_byte b) (front is_name_byte bs) hn

pub token_name : (b : ℕ) (bs p : Bytes) → token_of b bs ≡ name p → p ≡ name_from (b ∷ bs) 0
token_name b bs p h =
    let word : Bytes = take (len_by b bs) (b ∷ bs) in
    let is : (is_name word ≡ true) × (word ≡ p) = name_word word p (no_mark (b == 40) (b == 41) (b == 91) (b == 93) (b == 44) word p h) in
    sym is.1 ∙ ap (λ (k : ℕ). take k (b ∷ bs)) (len_is (is_digit b) (b == 45) (is_name_byte b) b bs refl refl refl is.0)

-- the name stands this many bytes after the place
pub record Stands (bs : Bytes) (start place : ℕ) (p : Bytes) : Type 0 where
  pub behind : ℕ
  pub is : place ≡ start + behind
  pub text : p ≡ name_from bs behind

one_on : (b : ℕ) (bs : Bytes) (start place : ℕ) (p : Bytes) → Stands bs (suc start) place p → Stands (b ∷ bs) start place p
one_on b bs start place p s = record { behind = suc s.behind; is = omega (arith, s.is); text = s.text }

in_front : (b : ℕ) (bs : Bytes) (start inside t : ℕ) (x : Placed) (p : Bytes) → x.token ≡ name p
    → ((k : ℕ) → slice_get (tokens_from (suc start) inside bs) k ≡ Some x → Stands bs (suc start) x.place p)
    → slice_get (record { token = token_of b bs; place = start } ∷ tokens_from (suc start) inside bs) t ≡ Some x → Stands (b ∷ bs) start x.place p
in_front b bs start inside zero x p is again h =
    let same : record { token = token_of b bs; place = start } ≡ x = cc in
    record {
      behind = 0;
      is = sym (ap (λ (y : Placed). y.place) same) ∙ omega arith;
      text = token_name b bs p (ap (λ (y : Placed). y.token) same ∙ is);
    }
in_front b bs start inside (suc t) x p is again h = one_on b bs start x.place p (again t h)

past_blank : (blank : Bool) (b : ℕ) (bs : Bytes) (start inside t : ℕ) (x : Placed) (p : Bytes) → x.token ≡ name p
    → ((i k : ℕ) → slice_get (tokens_from (suc start) i bs) k ≡ Some x → Stands bs (suc start) x.place p)
    → slice_get (cond blank (tokens_from (suc start) zero bs) (record { token = token_of b bs; place = start } ∷ tokens_from (suc start) inside bs)) t ≡ Some x → Stands (b ∷ bs) start x.place p
past_blank true b bs start inside t x p is again h = one_on b bs start x.place p (again zero t h)
past_blank false b bs start inside t x p is again h = in_front b bs start inside t x p is (λ k e. again inside k e) h

stands : (start inside : ℕ) (bs : Bytes) (t : ℕ) (x : Placed) (p : Bytes) → x.token ≡ name p → slice_get (tokens_from start inside bs) t ≡ Some x → Stands bs start x.place p
stands start inside [] t x p is h = cc
stands start (suc inside) (b ∷ bs) t x p is h = one_on b bs start x.place p (stands (suc start) inside bs t x p is h)
stands start zero (b ∷ bs) t x p is h = past_blank (is_blank b) b bs start (len_by b bs - 1) t x p is (λ i k e. stands (suc start) i bs k x p is e) h

by_place : (text : Bytes) (o : Option Placed) (t : ℕ) (p : Bytes) → slice_get (placed text) t ≡ o → option_map (λ (x : Placed). x.token) o
    ≡ Some (name p) → name_from text (place_or (length text) o) ≡ p
by_place text None t p e h = cc
by_place text (Some x) t p e h =
    let is : x.token ≡ name p = cc in
    let s : Stands text 0 x.place p = stands 0 0 text t x p is e in
    ap (λ (k : ℕ). name_from text k) (s.is ∙ omega arith) ∙ sym s.text

-- The name of a token stands at its place.
pub name_stands : (text : Bytes) (t : ℕ) (p : Bytes) → slice_get (tokens text) t ≡ Some (name p) → name_from text (place_of text t) ≡ p
name_stands text t p h = by_place text (slice_get (placed text) t) t p refl (sym (slice_get-map (λ (x : Placed). x.token) (placed text) t) ∙ h)
