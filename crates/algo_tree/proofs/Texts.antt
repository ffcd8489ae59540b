-- A text of a path tells the path: a name and a number end where one of `/`, `.` and `:` stands.
use Rattle.std.proofs.Common.{
  ◌≡◌,
  ℕ,
  ◌+◌,
  ◌*◌,
  ◌%◌,
  ◌^◌,
  ◌<◌,
  ◌&&◌,
  ◌||◌,
  ◌==◌,
  true,
  false,
  nat_le,
  List,
  [],
  ◌∷◌,
  ◌++◌,
  drop,
  length,
  slice_index_or,
  decimal,
  refl,
  sym,
  ap,
  ap₂,
  ◌∙◌,
  subst,
  arith,
  le-leb,
  mod-lt,
}
use Rattle.std.specs.List.{list_all}
use Rattle.std.specs.Fmt.{digits}
use Rattle.std.proofs.lemmas.Bool.{false≢true, and_parts, and_from, or_left, or_right}
use Rattle.std.proofs.lemmas.Fmt.{decimal_by_steps, decimal_injective}
use Rattle.std.proofs.lemmas.List.Folds.{list_all-append}
use Rattle.syn_base.specs.Name.{is_letter, is_digit, is_name_byte, begins_name, is_name}
use Rattle.level_meaning.specs.declared.part.Part.TheVariants.{Named, Numbered, Port}
use Rattle.level_meaning.specs.Level.{Path}
use Rattle.algo_tree.specs.Texts.{parts_text, path_text}
use Rattle.algo_tree.specs.Named.{is_word, IsPathNamed}
use Rattle.algo_tree.specs.Bounded.{IsPathBounded}

abbrev pub AreNameBytes : List ℕ → Type 0
AreNameBytes xs = list_all is_name_byte xs ≡ true

pub word_bytes : (x : List ℕ) → is_word x ≡ true → AreNameBytes x
word_bytes x h = (and_parts (begins_name x) (list_all is_name_byte x) h).1

-- a name of a text is such a word
pub name_word : (x : List ℕ) → is_name x ≡ true → is_word x ≡ true
name_word x h =
    let both = and_parts (begins_name x && nat_le (length x) 32) (list_all is_name_byte x) h in
    and_from (begins_name x) (list_all is_name_byte x) (and_parts (begins_name x) (nat_le (length x) 32) both.0).0 both.1

digit_byte : (d : ℕ) → d < 10 → is_name_byte (48 + d) ≡ true
digit_byte d lt =
    let digit : is_digit (48 + d) ≡ true = and_from (nat_le 48 (48 + d)) (nat_le (48 + d) 57) (le-leb 48 (48 + d) (omega arith)) (le-leb (48 + d) 57 (omega arith)) in
    or_left (is_letter (48 + d) || is_digit (48 + d)) (48 + d == 95) (or_right (is_letter (48 + d)) (is_digit (48 + d)) digit)

pub number_bytes : (n : ℕ) → n < 2 ^ 32 → AreNameBytes (decimal n)
number_bytes n lt =
    decimal_by_steps (λ m ds. AreNameBytes ds)
    (λ m small. and_from (is_name_byte (48 + m)) true (digit_byte m small) refl)
    (λ m ds big front. list_all-append is_name_byte ds ((48 + m % 10) ∷ [])
    ∙ and_from (list_all is_name_byte ds) _ front (and_from (is_name_byte (48 + m % 10)) true (digit_byte (m % 10) (mod-lt m (omega arith))) refl))
    n (omega arith)

-- without a bound two numbers may have one text
long_numbers : decimal (10 ^ 64) ≡ decimal (2 * 10 ^ 64)
unfolding digits
long_numbers = refl

-- it begins with no byte of a name
abbrev IsEnd : List ℕ → Type 0
IsEnd [] = Unit {0}
IsEnd (b ∷ bs) = is_name_byte b ≡ false

no_end : (s : List ℕ) (b : ℕ) (bs : List ℕ) → IsEnd s → is_name_byte b ≡ true → s ≡ b ∷ bs → ⊥
no_end s b bs h name e = false≢true (sym (subst IsEnd e h) ∙ name)

-- the bytes of a name are told from what stands after them
cut : (xs ys s t : List ℕ) → AreNameBytes xs → AreNameBytes ys → IsEnd s → IsEnd t → xs ++ s ≡ ys ++ t → (xs ≡ ys) × (s ≡ t)
cut [] [] s t hx hy hs ht e = (refl, e)
cut [] (y ∷ ys) s t hx hy hs ht e = absurd (no_end s y (ys ++ t) hs (and_parts (is_name_byte y) (list_all is_name_byte ys) hy).0 e)
cut (x ∷ xs) [] s t hx hy hs ht e = absurd (no_end t x (xs ++ s) ht (and_parts (is_name_byte x) (list_all is_name_byte xs) hx).0 (sym e))
cut (x ∷ xs) (y ∷ ys) s t hx hy hs ht e =
    let rest = cut xs ys s t (and_parts (is_name_byte x) (list_all is_name_byte xs) hx).1 (and_parts (is_name_byte y) (list_all is_name_byte ys) hy).1 hs ht (ap (drop 1) e) in
    (ap₂ (λ b bs. b ∷ bs) (ap (λ l. slice_index_or l 0 0) e) rest.0, rest.1)

parts_end : (p : Path) → IsEnd (parts_text p)
parts_end [] = tt
parts_end (Named x ∷ p) = refl
parts_end (Numbered n ∷ p) = refl
parts_end (Port x ∷ p) = refl

-- two texts that begin alike
same_head : (a b : ℕ) (x y : List ℕ) → a ∷ x ≡ b ∷ y → a ≡ b
same_head a b x y e = ap (λ l. slice_index_or l 0 0) e

parts_tell : (p q : Path) → IsPathNamed p → IsPathNamed q → IsPathBounded p → IsPathBounded q → parts_text p ≡ parts_text q → p ≡ q
parts_tell [] [] hp hq bp bq e = refl
parts_tell [] (Named y ∷ q) hp hq bp bq e = absurd (let n = ap length e in omega (arith, n))
parts_tell [] (Numbered n ∷ q) hp hq bp bq e = absurd (let n = ap length e in omega (arith, n))
parts_tell [] (Port y ∷ q) hp hq bp bq e = absurd (let n = ap length e in omega (arith, n))
parts_tell (Named x ∷ p) [] hp hq bp bq e = absurd (let n = ap length e in omega (arith, n))
parts_tell (Numbered m ∷ p) [] hp hq bp bq e = absurd (let n = ap length e in omega (arith, n))
parts_tell (Port x ∷ p) [] hp hq bp bq e = absurd (let n = ap length e in omega (arith, n))
parts_tell (Named x ∷ p) (Named y ∷ q) hp hq bp bq e =
    let both = cut x y (parts_text p) (parts_text q) (word_bytes x hp.0) (word_bytes y hq.0) (parts_end p) (parts_end q) (ap (drop 1) e) in
    ap₂ (λ z r. Named z ∷ r) both.0 (parts_tell p q hp.1 hq.1 bp.1 bq.1 both.1)
parts_tell (Numbered m ∷ p) (Numbered n ∷ q) hp hq bp bq e =
    let both = cut (decimal m) (decimal n) (parts_text p) (parts_text q) (number_bytes m bp.0) (number_bytes n bq.0) (parts_end p) (parts_end q) (ap (drop 1) e) in
    ap₂ (λ z r. Numbered z ∷ r) (decimal_injective m n (omega (arith, bp.0)) (omega (arith, bq.0)) both.0) (parts_tell p q hp.1 hq.1 bp.1 bq.1 both.1)
parts_tell (Port x ∷ p) (Port y ∷ q) hp hq bp bq e =
    let both = cut x y (parts_text p) (parts_text q) (word_bytes x hp.0) (word_bytes y hq.0) (parts_end p) (parts_end q) (ap (drop 1) e) in
    ap₂ (λ z r. Port z ∷ r) both.0 (parts_tell p q hp.1 hq.1 bp.1 bq.1 both.1)
parts_tell (Named x ∷ p) (Numbered n ∷ q) hp hq bp bq e = absurd (let n = same_head 47 46 _ _ e in omega (arith, n))
parts_tell (Named x ∷ p) (Port y ∷ q) hp hq bp bq e = absurd (let n = same_head 47 58 _ _ e in omega (arith, n))
parts_tell (Numbered m ∷ p) (Named y ∷ q) hp hq bp bq e = absurd (let n = same_head 46 47 _ _ e in omega (arith, n))
parts_tell (Numbered m ∷ p) (Port y ∷ q) hp hq bp bq e = absurd (let n = same_head 46 58 _ _ e in omega (arith, n))
parts_tell (Port x ∷ p) (Named y ∷ q) hp hq bp bq e = absurd (let n = same_head 58 47 _ _ e in omega (arith, n))
parts_tell (Port x ∷ p) (Numbered n ∷ q) hp hq bp bq e = absurd (let n = same_head 58 46 _ _ e in omega (arith, n))

-- a name is not empty
name_other : (x s t : List ℕ) → is_word x ≡ true → IsEnd t → x ++ s ≡ t → ⊥
name_other [] s t name h e = false≢true name
name_other (b ∷ x) s t name h e = no_end t b (x ++ s) h (and_parts (is_name_byte b) (list_all is_name_byte x) (word_bytes (b ∷ x) name)).0 (sym e)

pub path_told : (p q : Path) → IsPathNamed p → IsPathNamed q → IsPathBounded p → IsPathBounded q → path_text p ≡ path_text q → p ≡ q
path_told (Named x ∷ p) (Named y ∷ q) hp hq bp bq e =
    let both = cut x y (parts_text p) (parts_text q) (word_bytes x hp.0) (word_bytes y hq.0) (parts_end p) (parts_end q) e in
    ap₂ (λ z r. Named z ∷ r) both.0 (parts_tell p q hp.1 hq.1 bp.1 bq.1 both.1)
path_told (Named x ∷ p) [] hp hq bp bq e = absurd (name_other x (parts_text p) [] hp.0 tt e)
path_told (Named x ∷ p) (Numbered n ∷ q) hp hq bp bq e = absurd (name_other x (parts_text p) (parts_text (Numbered n ∷ q)) hp.0 refl e)
path_told (Named x ∷ p) (Port y ∷ q) hp hq bp bq e = absurd (name_other x (parts_text p) (parts_text (Port y ∷ q)) hp.0 refl e)
path_told [] (Named y ∷ q) hp hq bp bq e = absurd (name_other y (parts_text q) [] hq.0 tt (sym e))
path_told (Numbered n ∷ p) (Named y ∷ q) hp hq bp bq e = absurd (name_other y (parts_text q) (parts_text (Numbered n ∷ p)) hq.0 refl (sym e))
path_told (Port x ∷ p) (Named y ∷ q) hp hq bp bq e = absurd (name_other y (parts_text q) (parts_text (Port x ∷ p)) hq.0 refl (sym e))
path_told [] [] hp hq bp bq e = refl
path_told [] (Numbered n ∷ q) hp hq bp bq e = parts_tell [] (Numbered n ∷ q) hp hq bp bq e
path_told [] (Port y ∷ q) hp hq bp bq e = parts_tell [] (Port y ∷ q) hp hq bp bq e
path_told (Numbered m ∷ p) [] hp hq bp bq e = parts_tell (Numbered m ∷ p) [] hp hq bp bq e
path_told (Numbered m ∷ p) (Numbered n ∷ q) hp hq bp bq e = parts_tell (Numbered m ∷ p) (Numbered n ∷ q) hp hq bp bq e
path_told (Numbered m ∷ p) (Port y ∷ q) hp hq bp bq e = parts_tell (Numbered m ∷ p) (Port y ∷ q) hp hq bp bq e
path_told (Port x ∷ p) [] hp hq bp bq e = parts_tell (Port x ∷ p) [] hp hq bp bq e
path_told (Port x ∷ p) (Numbered n ∷ q) hp hq bp bq e = parts_tell (Port x ∷ p) (Numbered n ∷ q) hp hq bp bq e
path_told (Port x ∷ p) (Port y ∷ q) hp hq bp bq e = parts_tell (Port x ∷ p) (Port y ∷ q) hp hq bp bq e
