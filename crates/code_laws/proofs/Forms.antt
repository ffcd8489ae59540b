-- A line has the form that it was printed in, and its arguments are those that were joined.
use Rattle.std.proofs.Common.{
  ◌≡◌,
  ℕ,
  ◌+◌,
  ◌-◌,
  ◌≤◌,
  Bool,
  not,
  ◌&&◌,
  ◌||◌,
  ◌==◌,
  true,
  false,
  if◌then◌else◌,
  nat_le,
  List,
  [],
  ◌∷◌,
  ◌++◌,
  length,
  take,
  drop,
  refl,
  sym,
  arith,
  ap,
  ap₂,
  ◌∙◌,
  None,
  Some,
  append_assoc,
  append-nil,
}
use Rattle.std.specs.Prelude.{codes}
use Rattle.std.specs.List.{list_all, list_any, position_or_len, slice_split, onto_first}
use Rattle.std.specs.Str.{bytes_eq}
use Rattle.std.proofs.lemmas.Bool.{and_parts, and_from, leb-true, le-leb, ne_eqb, or_right, not-true}
use Rattle.std.proofs.lemmas.List.{take_at, drop_at, length_push}
use Rattle.std.proofs.lemmas.List.Folds.{list_all-append, list_any-append}
use Rattle.syn_base.specs.Bytes.{Bytes, each_after_comma}
use Rattle.macro_code.specs.Forms.{
  listed,
  call,
  is_open,
  is_semicolon,
  is_comma,
  is_mark,
  is_unmarked,
  before,
  after,
  is_closed,
  inside,
  has_bytes,
  may_name,
  list_form,
  name_form,
  word_form,
  lists_form,
  operation_form,
  call_form,
  arguments_of,
}
use Rattle.macro_code.specs.Text.{joined}
use Rattle.code_laws.proofs.Bytes.{is_plain}

-- a byte of an argument or of an operation's name, and a byte of a list of arguments
abbrev pub is_word_byte : ℕ → Bool
is_word_byte b = nat_le 45 b && nat_le b 122 && not (b == 59)

abbrev pub is_list_byte : ℕ → Bool
is_list_byte b = nat_le 44 b && nat_le b 122 && not (b == 59)

pub record ListByte (b : ℕ) : Type 0 where
  pub low : 44 ≤ b
  pub high : b ≤ 122
  pub other : (b == 59) ≡ false

list_byte : (b : ℕ) → is_list_byte b ≡ true → ListByte b
list_byte b h =
    let p = and_parts (nat_le 44 b && nat_le b 122) (not (b == 59)) h in
    let q = and_parts (nat_le 44 b) (nat_le b 122) p.0 in
    record { low = leb-true 44 b q.0; high = leb-true b 122 q.1; other = not-true (b == 59) p.1 }

-- what holds of each byte that passes holds of all
pub all_of : (p q : ℕ → Bool) → ((b : ℕ) → p b ≡ true → q b ≡ true) → (l : List ℕ) → list_all p l ≡ true → list_all q l ≡ true
all_of p q each [] h = refl
all_of p q each (b ∷ l) h =
    let both = and_parts (p b) (list_all p l) h in
    and_from (q b) (list_all q l) (each b both.0) (all_of p q each l both.1)

pub all_both : (p : ℕ → Bool) (l m : List ℕ) → list_all p l ≡ true → list_all p m ≡ true → list_all p (l ++ m) ≡ true
all_both p l m a b = list_all-append p l m ∙ and_from (list_all p l) (list_all p m) a b

pub word_list : (b : ℕ) → is_word_byte b ≡ true → is_list_byte b ≡ true
word_list b h =
    let p = and_parts (nat_le 45 b && nat_le b 122) (not (b == 59)) h in
    let q = and_parts (nat_le 45 b) (nat_le b 122) p.0 in
    let low = leb-true 45 b q.0 in
    and_from (nat_le 44 b && nat_le b 122) (not (b == 59)) (and_from (nat_le 44 b) (nat_le b 122) (le-leb 44 b (omega (arith, low))) q.1) p.1

word_comma : (b : ℕ) → is_word_byte b ≡ true → not (is_comma b) ≡ true
word_comma b h =
    let p = and_parts (nat_le 45 b && nat_le b 122) (not (b == 59)) h in
    let low = leb-true 45 b (and_parts (nat_le 45 b) (nat_le b 122) p.0).0 in
    ap not (ne_eqb b 44 (λ e. omega (arith, low, e)))

pub list_plain : (b : ℕ) → is_list_byte b ≡ true → is_plain b ≡ true
list_plain b h = let l = list_byte b h in and_from (nat_le 36 b) (nat_le b 126) (le-leb 36 b (omega (arith, l.low))) (le-leb b 126 (omega (arith, l.high)))

list_open : (b : ℕ) → is_list_byte b ≡ true → not (is_open b) ≡ true
list_open b h = let l = list_byte b h in ap not (ne_eqb b 40 (λ e. omega (arith, l.low, e)))

list_semicolon : (b : ℕ) → is_list_byte b ≡ true → not (is_semicolon b) ≡ true
list_semicolon b h = ap not ((list_byte b h).other)

none_of : (p q r : Bool) → p ≡ false → q ≡ false → r ≡ false → not (p || q || r) ≡ true
none_of p q r e f g = rw (e, f, g) refl

list_mark : (b : ℕ) → is_list_byte b ≡ true → not (is_mark b) ≡ true
list_mark b h = let l = list_byte b h in none_of (b == 40) (b == 41) (b == 59) (ne_eqb b 40 (λ e. omega (arith, l.low, e))) (ne_eqb b 41 (λ e. omega (arith, l.low, e))) l.other

unmarked_by : (l : List ℕ) → list_all (λ b. not (is_mark b)) l ≡ true → list_any is_mark l ≡ false
unmarked_by [] h = refl
unmarked_by (b ∷ l) h =
    let both = and_parts (not (is_mark b)) (list_all (λ c. not (is_mark c)) l) h in
    either (is_mark b) (list_any is_mark l) (not-true (is_mark b) both.0) (unmarked_by l both.1)
  where
    either : (p q : Bool) → p ≡ false → q ≡ false → (p || q) ≡ false
    either p q e f = rw (e, f) refl

pub unmarked : (l : List ℕ) → list_all is_list_byte l ≡ true → is_unmarked l ≡ true
unmarked l h = ap not (unmarked_by l (all_of is_list_byte (λ b. not (is_mark b)) list_mark l h))

-- what stands before and after the first byte that passes
stop_at : (test : ℕ → Bool) (w rest : List ℕ) (b : ℕ) → list_all (λ c. not (test c)) w ≡ true → test b ≡ true → position_or_len test (w ++ b ∷ rest) ≡ length w
stop_at test [] rest b h t = rw t refl
stop_at test (c ∷ w) rest b h t =
    let p = and_parts (not (test c)) (list_all (λ d. not (test d)) w) h in
    rw p.0 (omega (arith, stop_at test w rest b p.1 t))

before_at : (test : ℕ → Bool) (w rest : List ℕ) (b : ℕ) → list_all (λ c. not (test c)) w ≡ true → test b ≡ true → before test (w ++ b ∷ rest) ≡ w
before_at test w rest b h t = ap (λ (k : ℕ). take k (w ++ b ∷ rest)) (stop_at test w rest b h t) ∙ take_at w (b ∷ rest) (length w) refl

after_at : (test : ℕ → Bool) (w rest : List ℕ) (b : ℕ) → list_all (λ c. not (test c)) w ≡ true → test b ≡ true → after test (w ++ b ∷ rest) ≡ rest
after_at test w rest b h t =
    ap (λ (k : ℕ). drop (k + 1) (w ++ b ∷ rest)) (stop_at test w rest b h t)
    ∙ ap (drop (length w + 1)) (sym (append_assoc w (b ∷ []) rest))
    ∙ drop_at (w ++ b ∷ []) rest (length w + 1) (length_push w b)

has_stop : (test : ℕ → Bool) (w rest : List ℕ) (b : ℕ) → test b ≡ true → list_any test (w ++ b ∷ rest) ≡ true
has_stop test w rest b t = list_any-append test w (b ∷ rest) ∙ or_right (list_any test w) (list_any test (b ∷ rest)) (rw t refl)

closed : (l : List ℕ) → is_closed (l ++ 41 ∷ []) ≡ true
closed l = ap (λ (d : List ℕ). bytes_eq d (codes ")")) (drop_at l (41 ∷ []) (length (l ++ 41 ∷ []) - 1) (let more = length_push l 41 in omega (arith, more)))

inside_at : (l : List ℕ) → inside (l ++ 41 ∷ []) ≡ l
inside_at l = take_at l (41 ∷ []) (length (l ++ 41 ∷ []) - 1) (let more = length_push l 41 in omega (arith, more))

-- NAME(LIST)
pub listed_back : (name list : Bytes) → may_name name ≡ true → list_all is_list_byte name ≡ true → list_all is_list_byte list ≡ true
    → word_form (name ++ 40 ∷ (list ++ 41 ∷ [])) ≡ Some (listed name list)
listed_back name list may n l =
    let rest = list ++ 41 ∷ [] in
    let w = name ++ 40 ∷ rest in
    let no_open = all_of is_list_byte (λ b. not (is_open b)) list_open name n in
    ap (λ (b : Bool). if b then list_form (before is_open w) (after is_open w) else name_form w) (has_stop is_open name rest 40 refl)
    ∙ ap₂ list_form (before_at is_open name rest 40 no_open refl) (after_at is_open name rest 40 no_open refl)
    ∙ ap (λ (i : Bytes). if may_name name && is_closed rest && is_unmarked i then Some (listed name i) else None) (inside_at list)
    ∙ ap (λ (b : Bool). if b then Some (listed name list) else None)
    (and_from (may_name name && is_closed rest) (is_unmarked list) (and_from (may_name name) (is_closed rest) may (closed list)) (unmarked list l))

-- OPERATION(INS;OUTS)
pub call_back : (b : ℕ) (bs ins outs : Bytes) → list_all is_list_byte (b ∷ bs) ≡ true → list_all is_list_byte ins ≡ true → list_all is_list_byte outs ≡ true
    → call_form ((b ∷ bs) ++ 40 ∷ (ins ++ 59 ∷ (outs ++ 41 ∷ []))) ≡ Some (call (b ∷ bs) ins outs)
call_back b bs ins outs n i o =
    let name = b ∷ bs in
    let lists = ins ++ 59 ∷ outs in
    let rest = lists ++ 41 ∷ [] in
    let w = name ++ 40 ∷ rest in
    let no_open = all_of is_list_byte (λ c. not (is_open c)) list_open name n in
    let no_semicolon = all_of is_list_byte (λ c. not (is_semicolon c)) list_semicolon ins i in
    ap (λ (r : Bytes). call_form (name ++ 40 ∷ r)) (sym (append_assoc ins (59 ∷ outs) (41 ∷ [])))
    ∙ ap (λ (t : Bool). if t then operation_form (before is_open w) (after is_open w) else None) (has_stop is_open name rest 40 refl)
    ∙ ap₂ operation_form (before_at is_open name rest 40 no_open refl) (after_at is_open name rest 40 no_open refl)
    ∙ ap (λ (t : Bool). if t then lists_form name (inside rest) else None) (and_from (is_unmarked name) (is_closed rest) (unmarked name n) (closed lists))
    ∙ ap (lists_form name) (inside_at lists)
    ∙ ap₂ (λ (x y : Bytes). if list_any is_semicolon lists && is_unmarked x && is_unmarked y then Some (call name x y) else None)
    (before_at is_semicolon ins outs 59 no_semicolon refl) (after_at is_semicolon ins outs 59 no_semicolon refl)
    ∙ ap (λ (t : Bool). if t then Some (call name ins outs) else None)
    (and_from (list_any is_semicolon lists && is_unmarked ins) (is_unmarked outs)
    (and_from (list_any is_semicolon lists) (is_unmarked ins) (has_stop is_semicolon ins outs 59 refl) (unmarked ins i)) (unmarked outs o))

-- an argument has bytes, and none that would end it
abbrev pub is_argument : Bytes → Bool
is_argument w = has_bytes w && list_all is_word_byte w

split_at : (w rest : List ℕ) → list_all (λ b. not (is_comma b)) w ≡ true → slice_split is_comma (w ++ 44 ∷ rest) ≡ w ∷ slice_split is_comma rest
split_at [] rest h = refl
split_at (b ∷ w) rest h =
    let p = and_parts (not (is_comma b)) (list_all (λ c. not (is_comma c)) w) h in
    rw (not-true (is_comma b) p.0) (ap (onto_first b) (split_at w rest p.1))

split_none : (w : List ℕ) → list_all (λ b. not (is_comma b)) w ≡ true → slice_split is_comma w ≡ w ∷ []
split_none [] h = refl
split_none (b ∷ w) h =
    let p = and_parts (not (is_comma b)) (list_all (λ c. not (is_comma c)) w) h in
    rw (not-true (is_comma b) p.0) (ap (onto_first b) (split_none w p.1))

split_back : (w : Bytes) (ws : List Bytes) → list_all is_argument (w ∷ ws) ≡ true → slice_split is_comma (w ++ each_after_comma ws) ≡ w ∷ ws
split_back w [] h =
    let own = and_parts (has_bytes w) (list_all is_word_byte w) (and_parts (is_argument w) true h).0 in
    ap (slice_split is_comma) (append-nil w) ∙ split_none w (all_of is_word_byte (λ b. not (is_comma b)) word_comma w own.1)
split_back w (v ∷ ws) h =
    let p = and_parts (is_argument w) (list_all is_argument (v ∷ ws)) h in
    let own = and_parts (has_bytes w) (list_all is_word_byte w) p.0 in
    split_at w (v ++ each_after_comma ws) (all_of is_word_byte (λ b. not (is_comma b)) word_comma w own.1)
    ∙ ap (λ (l : List Bytes). w ∷ l) (split_back v ws p.1)

-- joined arguments are split again
pub arguments_back : (ws : List Bytes) → list_all is_argument ws ≡ true → arguments_of (joined ws) ≡ ws
arguments_back [] h = refl
arguments_back ([] ∷ ws) h = cc
arguments_back ((b ∷ bs) ∷ ws) h = split_back (b ∷ bs) ws h

argument_bytes : (w : Bytes) → is_argument w ≡ true → list_all is_list_byte w ≡ true
argument_bytes w h = all_of is_word_byte is_list_byte word_list w (and_parts (has_bytes w) (list_all is_word_byte w) h).1

after_bytes : (ws : List Bytes) → list_all is_argument ws ≡ true → list_all is_list_byte (each_after_comma ws) ≡ true
after_bytes [] h = refl
after_bytes (w ∷ ws) h =
    let p = and_parts (is_argument w) (list_all is_argument ws) h in
    all_both is_list_byte w (each_after_comma ws) (argument_bytes w p.0) (after_bytes ws p.1)

pub joined_bytes : (ws : List Bytes) → list_all is_argument ws ≡ true → list_all is_list_byte (joined ws) ≡ true
joined_bytes [] h = refl
joined_bytes (w ∷ ws) h =
    let p = and_parts (is_argument w) (list_all is_argument ws) h in
    all_both is_list_byte w (each_after_comma ws) (argument_bytes w p.0) (after_bytes ws p.1)
