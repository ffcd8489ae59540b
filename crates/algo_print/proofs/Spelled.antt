-- Names, numbers and expressions are words.
use Rattle.std.proofs.Common.{
  ◌≡◌,
  ℕ,
  suc,
  ◌<◌,
  ◌≤◌,
  ◌^◌,
  ◌==◌,
  Bool,
  true,
  false,
  not,
  ◌&&◌,
  ◌||◌,
  nat_le,
  nat_lt,
  List,
  [],
  ◌∷◌,
  ◌++◌,
  length,
  Some,
  None,
  Option,
  Result,
  ℤ,
  pos,
  negsuc,
  refl,
  sym,
  ap,
  ◌∙◌,
  subst,
  arith,
  rules,
  w64,
  FitsSigned,
  ne_eqb,
  codes,
  if◌then◌else◌,
  append-nil,
}
use Rattle.std.specs.List.{list_all}
use Rattle.std.specs.Fmt.{decimal, signed_decimal}
use Rattle.std.proofs.lemmas.Fmt.{digits_decimal, decimal_nonempty}
use Rattle.std.proofs.lemmas.Str.Parse.{IsNumeralModel, numerals_by_fold}
use Rattle.syn_base.specs.Name.{is_name, is_name_byte, is_letter, is_digit, begins_name}
use Rattle.syn_base.specs.Integer.{number_after}
use Rattle.syn_base.proofs.Decimal as integers
use Rattle.syn_base.specs.declared.arithmetic.Op.{Op}
use Rattle.syn_base.specs.declared.arithmetic.Op.TheVariants.{Add, Sub, Mul, Div, Rem, Eq, Ne, Lt, Le, Gt, Ge, Min, Max, Neg}
use Rattle.text_lines.specs.Text.{is_feed, is_blank, is_hash, is_foreign, count_text}
use Rattle.body_text.specs.Tokens.{tokens}
use Rattle.body_text.specs.Grammar.{Written, literal, index, element, sum_over, negation, apply, select, word_of, written}
use Rattle.body_text.specs.Canonical.{canonical, IsRead}
use Rattle.body_text.proofs.CanonicalTokens.{name_byte-not_blank}
use Rattle.body_text.proofs.CanonicalSound.{AreSound, IsSoundTree, tokens_sound, tree_sound}
use Rattle.body_text.proofs.CanonicalText.{text_of}
use Rattle.body_text.proofs.CanonicalPorts.{known, same_text}
use Rattle.syn_base.specs.Bytes.{Bytes}
use Rattle.algo_text.specs.Expr.{Expr}
use Rattle.algo_text.specs.Words.{number_of, number_by, count_of, count_by, period_of, period_by}
use Rattle.algo_text.specs.Blocks.{is_equals}
use Rattle.algo_print.proofs.Pieces.{is_plain, is_word, both, plain_word, passes, joins, word_more}
use Rattle.algo_print.proofs.Fits.{number_fits}
use Rattle.syn_base.specs.declared.integer.NumFault.{NumFault}

differs : (test : ℕ → Bool) (b k : ℕ) → test b ≡ true → test k ≡ false → (b == k) ≡ false
differs test b k h f = ne_eqb b k (λ e. let g : test k ≡ true = subst (λ n. test n ≡ true) e h in cc)

pub name_byte_no_equals : (b : ℕ) → is_name_byte b ≡ true → not (is_equals b) ≡ true
name_byte_no_equals b h = ap not (differs is_name_byte b 61 h refl)

-- a byte of a name lies between `0` and `z`
name_range : (b : ℕ) → is_name_byte b ≡ true → (48 ≤ b) × (b ≤ 122)
name_range b h = (low b h, high b h)
  where
    low : (b : ℕ) → is_name_byte b ≡ true → 48 ≤ b
    low b h = grind arith

    high : (b : ℕ) → is_name_byte b ≡ true → b ≤ 122
    high b h = grind arith

allowed : (blank low high : Bool) → low ≡ true → high ≡ true → not (blank || (low && high)) ≡ false
allowed true true true p q = refl
allowed false true true p q = refl
allowed blank false high p q = cc
allowed blank true false p q = cc

le_true : (m n : ℕ) → m ≤ n → nat_le m n ≡ true
le_true m n h = grind arith

pub name_byte_plain : (b : ℕ) → is_name_byte b ≡ true → is_plain b ≡ true
name_byte_plain b h =
    let range = name_range b h in
    let foreign : is_foreign b ≡ false = allowed (is_blank b) (nat_le 33 b) (nat_le b 126) (le_true 33 b (omega (arith, range.0))) (le_true b 126 (omega (arith, range.1))) in
    four (is_blank b) (is_foreign b) (is_hash b) (is_feed b) (name_byte-not_blank b h) foreign (differs is_name_byte b 35 h refl) (differs is_name_byte b 10 h refl)
  where
    four : (p q r s : Bool) → p ≡ false → q ≡ false → r ≡ false → s ≡ false → (not p && not q && not r && not s) ≡ true
    four p q r s a b c d = rw (a, b, c, d) refl

pub name_bytes : (w : Bytes) → is_name w ≡ true → list_all is_name_byte w ≡ true
name_bytes w h = (both (begins_name w && nat_le (length w) 32) (list_all is_name_byte w) h).1

pub bytes_plain : (w : Bytes) → list_all is_name_byte w ≡ true → list_all is_plain w ≡ true
bytes_plain w h = passes is_name_byte is_plain name_byte_plain w h

pub name_word : (w : Bytes) → is_name w ≡ true → is_word w ≡ true
name_word [] h = cc
name_word (b ∷ w) h = bytes_plain (b ∷ w) (name_bytes (b ∷ w) h)

digit_passes : (l d u : Bool) → d ≡ true → (l || d || u) ≡ true
digit_passes true d u h = refl
digit_passes false d u h = ap (λ c. c || u) h

digit_name_byte : (b : ℕ) → is_digit b ≡ true → is_name_byte b ≡ true
digit_name_byte b h = digit_passes (is_letter b) (is_digit b) (b == 95) h

own : IsNumeralModel (λ ds. list_all is_digit ds ≡ true) (number_after 0)
own = numerals_by_fold _ (search rules) number_after (search rules)

pub digits_bytes : (n : ℕ) → n < 2 ^ 64 → list_all is_name_byte (decimal n) ≡ true
digits_bytes n h = passes is_digit is_name_byte digit_name_byte (decimal n) (digits_decimal own n h)

some_word : (w : Bytes) → 0 < length w → list_all is_plain w ≡ true → is_word w ≡ true
some_word [] some h = absurd (omega (arith, some))
some_word (b ∷ w) some h = h

pub digits_word : (n : ℕ) → n < 2 ^ 64 → is_word (decimal n) ≡ true
digits_word n h = some_word (decimal n) (decimal_nonempty n h) (bytes_plain (decimal n) (digits_bytes n h))

pub number_word : (v : ℤ) → FitsSigned w64 v → is_word (signed_decimal v) ≡ true
number_word (pos n) f = digits_word n (omega (arith, f.sfits))
number_word (negsuc n) f = let h : suc n < 2 ^ 64 = omega (arith, f.sfits) in bytes_plain (decimal (suc n)) (digits_bytes (suc n) h)

pub operator_word : (op : Op) → is_word (word_of op) ≡ true
operator_word Add = refl
operator_word Sub = refl
operator_word Mul = refl
operator_word Div = refl
operator_word Rem = refl
operator_word Eq = refl
operator_word Ne = refl
operator_word Lt = refl
operator_word Le = refl
operator_word Gt = refl
operator_word Ge = refl
operator_word Min = refl
operator_word Max = refl
operator_word Neg = refl

-- the text of an expression in brackets, with more after it
inside : (w rest : Bytes) → is_word w ≡ true → list_all is_plain rest ≡ true → list_all is_plain (w ++ rest) ≡ true
inside w rest h k = joins is_plain w rest (plain_word w h) k

tree_word : (w : Written) → IsSoundTree w → is_word (text_of w) ≡ true
tree_word (literal v) s = number_word v s
tree_word index s = refl
tree_word (element p e) s = word_more p (codes "[" ++ (text_of e ++ codes "]")) (name_word p s.0) (inside (text_of e) (codes "]") (tree_word e s.1) refl)
tree_word (sum_over p) s = inside p (codes ")") (name_word p s) refl
tree_word (negation a) s = inside (text_of a) (codes ")") (tree_word a s) refl
tree_word (apply op a b) s =
    word_more (word_of op) (codes "(" ++ (text_of a ++ (codes "," ++ (text_of b ++ codes ")")))) (operator_word op)
    (inside (text_of a) (codes "," ++ (text_of b ++ codes ")")) (tree_word a s.0) (inside (text_of b) (codes ")") (tree_word b s.1) refl))
tree_word (select c a b) s =
    inside (text_of c) (codes "," ++ (text_of a ++ (codes "," ++ (text_of b ++ codes ")")))) (tree_word c s.0)
    (inside (text_of a) (codes "," ++ (text_of b ++ codes ")")) (tree_word a s.1.0) (inside (text_of b) (codes ")") (tree_word b s.1.1) refl))

-- the tree of a text is sound
text_sound : (text : Bytes) (w : Written) → tokens text ≡ written w → IsSoundTree w
text_sound text w e = (tree_sound w [] (subst AreSound (e ∙ sym (append-nil (written w))) (tokens_sound text))).0

-- a canonical expression is one word
pub expression_word : (ports : List Bytes) (e : Expr) → IsRead ports e → is_word (canonical ports e) ≡ true
expression_word ports e (text, body) =
    let tree : Written = body.tree in
    let same : canonical ports e ≡ text_of tree = ap (canonical ports) (sym body.is) ∙ same_text ports tree (known ports tree body.known) in
    subst (λ (w : Bytes). is_word w ≡ true) (sym same) (tree_word tree (text_sound text tree body.grammar.1))

-- a length or a number of copies is read back
small_fits : (n : ℕ) → nat_lt 64 n ≡ false → FitsSigned w64 (pos n)
small_fits n h = let low : n ≤ 64 = grind arith in record { sfits = omega arith }

pub count_back : (n : ℕ) → (n == 0) ≡ false → nat_lt 64 n ≡ false → count_of (count_text n) ≡ Some n
count_back n some low = ap (λ (r : Result ℤ NumFault). count_by (number_by r)) (integers.reads_back (pos n) (small_fits n low)) ∙ ap (λ c. if c then None else Some n) some

pub count_word : (n : ℕ) → nat_lt 64 n ≡ false → is_word (count_text n) ≡ true
count_word n low = number_word (pos n) (small_fits n low)

pub count_bytes : (n : ℕ) → nat_lt 64 n ≡ false → list_all is_name_byte (count_text n) ≡ true
count_bytes n low = let small : n ≤ 64 = grind arith in digits_bytes n (omega arith)

count_some : (o : Option ℤ) (n : ℕ) → count_by o ≡ Some n → (n == 0) ≡ false
count_some (Some (pos m)) n h = tested (m == 0) m n refl h
  where
    tested : (c : Bool) (m n : ℕ) → (m == 0) ≡ c → (if c then None else Some m) ≡ Some n → (n == 0) ≡ false
    tested true m n e h = cc
    tested false m n e h = let same : m ≡ n = cc in subst (λ (k : ℕ). (k == 0) ≡ false) same e
count_some (Some (negsuc m)) n h = cc
count_some None n h = cc

-- what is read as a length is above 0
pub count_positive : (w : Bytes) (n : ℕ) → count_of w ≡ Some n → (n == 0) ≡ false
count_positive w n h = count_some (number_of w) n h

within_16 : (n : ℕ) → nat_le n 16 ≡ true → nat_lt 64 n ≡ false
within_16 n h = grind arith

-- what is read as the number of a mark, which is read back
pub record PeriodRead (n : ℕ) : Type 0 where
  pub low : nat_lt 64 n ≡ false
  pub again : period_of (count_text n) ≡ Some n

period_kept : (m n : ℕ) (c : Bool) → nat_le m 16 ≡ c → (m == 0) ≡ false → (if c then Some m else None) ≡ Some n → PeriodRead n
period_kept m n true most some h =
    let same : m ≡ n = cc in
    let low : nat_lt 64 m ≡ false = within_16 m most in
    subst PeriodRead same (record { low = low; again = ap period_by (count_back m some low) ∙ ap (λ c. if c then Some m else None) most })
period_kept m n false most some h = cc

period_by_count : (w : Bytes) (n : ℕ) (o : Option ℕ) → count_of w ≡ o → period_by o ≡ Some n → PeriodRead n
period_by_count w n (Some m) counted h = period_kept m n (nat_le m 16) refl (count_positive w m counted) h
period_by_count w n None counted h = cc

pub period_read : (w : Bytes) (n : ℕ) → period_of w ≡ Some n → PeriodRead n
period_read w n h = period_by_count w n (count_of w) refl h

-- what is read as a number is read back
pub number_back : (w : Bytes) (v : ℤ) → number_of w ≡ Some v → number_of (signed_decimal v) ≡ Some v
number_back w v h = ap number_by (integers.reads_back v (number_fits w v h))
