-- Tokens of texts that are put together from pieces.
use Rattle.std.proofs.Common.{
  ◌≡◌,
  ℕ,
  zero,
  suc,
  ◌+◌,
  ◌-◌,
  ◌==◌,
  Bool,
  true,
  false,
  not,
  ◌&&◌,
  ◌||◌,
  cond,
  if◌then◌else◌,
  List,
  [],
  ◌∷◌,
  ◌++◌,
  length,
  take,
  map,
  Some,
  None,
  refl,
  ap,
  ap₂,
  sym,
  subst,
  ◌∙◌,
  arith,
  ne_eqb,
}
use Rattle.std.specs.List.{list_all}
use Rattle.std.proofs.Math.Seq.{take-append_seam}
use Rattle.syn_base.specs.Name.{is_name_byte, is_letter, is_digit}
use Rattle.text_lines.specs.Text.{is_blank}
use Rattle.syn_base.specs.Bytes.{Bytes}
use Rattle.body_text.specs.Tokens.{Token, Placed, open_round, close_round, open_square, close_square, comma, front, len_by, mark_of, mark_or_word, token_of, tokens_from}

-- the tokens without their places
abbrev pub token_list : ℕ → Bytes → List Token
token_list inside [] = []
token_list (suc inside) (b ∷ bs) = token_list inside bs
token_list zero (b ∷ bs) = if is_blank b then token_list zero bs else (token_of b bs ∷ token_list (len_by b bs - 1) bs)

chosen : (blank : Bool) (xs ys : List Placed) (us vs : List Token) → map (λ p. p.token) xs ≡ us → map (λ p. p.token) ys ≡ vs
    → map (λ p. p.token) (if blank then xs else ys) ≡ (if blank then us else vs)
chosen true xs ys us vs h k = h
chosen false xs ys us vs h k = k

-- places do not matter to the tokens
pub without_places : (place inside : ℕ) (bs : Bytes) → map (λ p. p.token) (tokens_from place inside bs) ≡ token_list inside bs
without_places place inside [] = refl
without_places place (suc inside) (b ∷ bs) = without_places (suc place) inside bs
without_places place zero (b ∷ bs) = chosen (is_blank b) _ _ _ _ (without_places (suc place) zero bs) (ap (λ ts. token_of b bs ∷ ts) (without_places (suc place) (len_by b bs - 1) bs))

-- the bytes of a token are passed over
passed_over : (xs rest : Bytes) → token_list (length xs) (xs ++ rest) ≡ token_list 0 rest
passed_over [] rest = refl
passed_over (x ∷ xs) rest = passed_over xs rest

-- a text that begins with a token of known length
pub piece : (b : ℕ) (xs rest : Bytes) → is_blank b ≡ false → len_by b (xs ++ rest) ≡ suc (length xs)
    → token_list 0 (b ∷ (xs ++ rest)) ≡ mark_or_word (mark_of b) (b ∷ xs) ∷ token_list 0 rest
piece b xs rest blank long =
    let less : suc (length xs) - 1 ≡ length xs = omega arith in
    ap (λ c. if c then token_list 0 (xs ++ rest) else (token_of b (xs ++ rest) ∷ token_list (len_by b (xs ++ rest) - 1) (xs ++ rest))) blank
    ∙ ap (λ n. mark_or_word (mark_of b) (take n (b ∷ (xs ++ rest))) ∷ token_list (n - 1) (xs ++ rest)) long
    ∙ ap₂ (λ w ts. mark_or_word (mark_of b) (b ∷ w) ∷ ts) (take-append_seam xs rest) (ap (λ n. token_list n (xs ++ rest)) less ∙ passed_over xs rest)

-- the text begins with no byte that passes
abbrev pub StopsAt : (ℕ → Bool) → Bytes → Type 0
StopsAt passes [] = Unit {0}
StopsAt passes (b ∷ bs) = passes b ≡ false

pub and_left : (x y : Bool) → (x && y) ≡ true → x ≡ true
and_left true y h = refl
and_left false y h = h

pub and_right : (x y : Bool) → (x && y) ≡ true → y ≡ true
and_right true y h = h
and_right false y h = cc

pub not_true : (x : Bool) → not x ≡ true → x ≡ false
not_true true h = sym h
not_true false h = refl

pub front_all : (passes : ℕ → Bool) (xs rest : Bytes) → list_all passes xs ≡ true → StopsAt passes rest → front passes (xs ++ rest) ≡ length xs
front_all passes [] [] all stops = refl
front_all passes [] (b ∷ bs) all stops = ap (λ c. cond (not (not c)) (1 + front passes bs) 0) stops
front_all passes (x ∷ xs) rest all stops =
    let more : front passes (xs ++ rest) ≡ length xs = front_all passes xs rest (and_right (passes x) (list_all passes xs) all) stops in
    ap (λ c. cond (not (not c)) (1 + front passes (xs ++ rest)) 0) (and_left (passes x) (list_all passes xs) all) ∙ omega arith

-- the text begins with nothing that would make a name or a number in front of it longer
abbrev pub Stops : Bytes → Type 0
Stops rest = StopsAt is_name_byte rest

digit_fails : (l d u : Bool) → (l || d || u) ≡ false → d ≡ false
digit_fails true d u h = cc
digit_fails false true u h = h
digit_fails false false u h = refl

pub digits_stop : (rest : Bytes) → Stops rest → StopsAt is_digit rest
digits_stop [] stops = tt
digits_stop (b ∷ bs) stops = digit_fails (is_letter b) (is_digit b) (b == 95) stops

-- a byte that passes is none that fails
differs : (passes : ℕ → Bool) (b k : ℕ) → passes b ≡ true → passes k ≡ false → (b == k) ≡ false
differs passes b k h f = ne_eqb b k (λ e. let g : passes k ≡ true = subst (λ n. passes n ≡ true) e h in cc)

no_blank : (x y z : Bool) → x ≡ false → y ≡ false → z ≡ false → (x || y || z) ≡ false
no_blank x y z p q r = rw (p, q, r) refl

no_mark : (v w x y z : Bool) → v ≡ false → w ≡ false → x ≡ false → y ≡ false → z ≡ false
    → (if v then Some open_round else (if w then Some close_round else (if x then Some open_square else (if y then Some close_square else (if z then Some comma else None))))) ≡ None
no_mark v w x y z p q r s t = rw (p, q, r, s, t) refl

pub name_byte-not_blank : (b : ℕ) → is_name_byte b ≡ true → is_blank b ≡ false
name_byte-not_blank b h = no_blank (b == 9) (b == 13) (b == 32) (differs is_name_byte b 9 h refl) (differs is_name_byte b 13 h refl) (differs is_name_byte b 32 h refl)

pub name_byte-no_mark : (b : ℕ) → is_name_byte b ≡ true → mark_of b ≡ None
name_byte-no_mark b h =
    no_mark (b == 40) (b == 41) (b == 91) (b == 93) (b == 44)
    (differs is_name_byte b 40 h refl) (differs is_name_byte b 41 h refl) (differs is_name_byte b 91 h refl) (differs is_name_byte b 93 h refl) (differs is_name_byte b 44 h refl)

pub name_byte-no_minus : (b : ℕ) → is_name_byte b ≡ true → (b == 45) ≡ false
name_byte-no_minus b h = differs is_name_byte b 45 h refl
