-- Lines that are made of plain bytes, each with its line feed, split into these lines and words again.
use Rattle.std.proofs.Common.{subst, sym, ◌≡◌, ℕ, Bool, not, ◌&&◌, ◌||◌, ◌==◌, true, false, nat_le, List, [], ◌∷◌, ◌++◌, refl, arith, ap, ◌∙◌, None}
use Rattle.std.specs.List.{list_all}
use Rattle.std.proofs.lemmas.Bool.{and_parts, and_from, leb-true, le-leb, eqb-true, ne_eqb}
use Rattle.std.proofs.lemmas.List.Folds.{list_all-append}
use Rattle.text_lines.specs.Text.{is_feed, is_blank, is_hash, is_foreign, lines_of, words_of, code_of, foreign_place}
use Rattle.archi_reader.proofs.Splits as splits
use Rattle.archi_reader.proofs.Splits.{Plain}

-- a byte of a word: it may stand in a line, is no blank and begins no comment
abbrev pub is_plain : ℕ → Bool
is_plain b = nat_le 36 b && nat_le b 126

abbrev pub are_plain : List ℕ → Bool
are_plain bs = list_all is_plain bs

none_of : (p q r : Bool) → p ≡ false → q ≡ false → r ≡ false → (p || q || r) ≡ false
none_of p q r e f g = rw (e, f, g) refl

not_foreign : (p q r : Bool) → q ≡ true → r ≡ true → not (p || (q && r)) ≡ false
not_foreign true q r e f = refl
not_foreign false q r e f = rw (e, f) refl

plain : (b : ℕ) → is_plain b ≡ true → Plain b
plain b h =
    let both = and_parts (nat_le 36 b) (nat_le b 126) h in
    let low = leb-true 36 b both.0 in
    let high = leb-true b 126 both.1 in
    record {
      no_blank = none_of (b == 9) (b == 13) (b == 32) (ne_eqb b 9 (λ e. omega (arith, low, e))) (ne_eqb b 13 (λ e. omega (arith, low, e))) (ne_eqb b 32 (λ e. omega (arith, low, e)));
      no_foreign = not_foreign (is_blank b) (nat_le 33 b) (nat_le b 126) (le-leb 33 b (omega (arith, low))) both.1;
      no_hash = ne_eqb b 35 (λ e. omega (arith, low, e));
      no_feed = ne_eqb b 10 (λ e. omega (arith, low, e));
    }

passes : (test : ℕ → Bool) → ((b : ℕ) → is_plain b ≡ true → test b ≡ true) → (w : List ℕ) → are_plain w ≡ true → list_all test w ≡ true
passes test each [] h = refl
passes test each (b ∷ w) h =
    let p = and_parts (is_plain b) (are_plain w) h in
    and_from (test b) (list_all test w) (each b p.0) (passes test each w p.1)

-- a line of plain bytes and one blank
abbrev pub is_line_byte : ℕ → Bool
is_line_byte b = b == 32 || is_plain b

all_not : (p q r s : Bool) → p ≡ false → q ≡ false → r ≡ false → s ≡ false → (not p && not q && not r && not s) ≡ true
all_not p q r s e f g h = rw (e, f, g, h) refl

-- these are bytes of a word as archi_reader's lemmas have them
plain_there : (b : ℕ) → is_plain b ≡ true → splits.is_plain b ≡ true
plain_there b h = let p = plain b h in all_not (is_blank b) (is_foreign b) (is_hash b) (is_feed b) p.no_blank p.no_foreign p.no_hash p.no_feed

all_there : (w : List ℕ) → are_plain w ≡ true → list_all splits.is_plain w ≡ true
all_there w h = passes splits.is_plain plain_there w h

-- a word at the end of a line, and a word before a blank
pub last_back : (b : ℕ) (w : List ℕ) → are_plain (b ∷ w) ≡ true → words_of (b ∷ w) ≡ (b ∷ w) ∷ []
last_back b w h = splits.last_back b w (all_there (b ∷ w) h)

pub word_back : (b : ℕ) (w rest : List ℕ) → are_plain (b ∷ w) ≡ true → words_of ((b ∷ w) ++ 32 ∷ rest) ≡ (b ∷ w) ∷ words_of rest
word_back b w rest h = splits.word_back b w rest (all_there (b ∷ w) h)

record LineByte (b : ℕ) : Type 0 where
  pub no_foreign : is_foreign b ≡ false
  pub no_hash : is_hash b ≡ false
  pub no_feed : is_feed b ≡ false

line_byte : (b : ℕ) → is_line_byte b ≡ true → LineByte b
line_byte b h = by (b == 32) refl h
  where
    by : (t : Bool) → (b == 32) ≡ t → (t || is_plain b) ≡ true → LineByte b
    by true e k = subst (λ (c : ℕ). LineByte c) (sym (eqb-true b 32 e)) (record { no_foreign = refl; no_hash = refl; no_feed = refl })
    by false e k = let p = plain b k in record { no_foreign = p.no_foreign; no_hash = p.no_hash; no_feed = p.no_feed }

passes_line : (test : ℕ → Bool) → ((b : ℕ) → is_line_byte b ≡ true → test b ≡ true) → (w : List ℕ) → list_all is_line_byte w ≡ true → list_all test w ≡ true
passes_line test each [] h = refl
passes_line test each (b ∷ w) h =
    let p = and_parts (is_line_byte b) (list_all is_line_byte w) h in
    and_from (test b) (list_all test w) (each b p.0) (passes_line test each w p.1)

-- A line of such bytes: it is the first line of what it begins, has no comment, and all its bytes may stand there.
pub record IsLine (l : List ℕ) : Type 0 where
  pub first : (rest : List ℕ) → lines_of (l ++ 10 ∷ rest) ≡ l ∷ lines_of rest
  pub code : code_of l ≡ l
  pub own : foreign_place l ≡ None

pub line : (l : List ℕ) → list_all is_line_byte l ≡ true → IsLine l
line l h =
    let hash = passes_line (λ b. not (is_hash b)) (λ b p. ap not ((line_byte b p).no_hash)) l h in
    record {
      first = λ rest. splits.line_back l rest (passes_line (λ b. not (is_feed b)) (λ b p. ap not ((line_byte b p).no_feed)) l h);
      code = splits.code_back l hash;
      own = splits.foreign_back l hash (passes_line (λ b. not (is_foreign b)) (λ b p. ap not ((line_byte b p).no_foreign)) l h);
    }

-- plain bytes are bytes of a line
pub plain_line : (w : List ℕ) → are_plain w ≡ true → list_all is_line_byte w ≡ true
plain_line w h = passes is_line_byte (λ b p. rw p (either (b == 32))) w h
  where
    either : (t : Bool) → (t || true) ≡ true
    either true = refl
    either false = refl

-- both parts are plain
pub plain_both : (l m : List ℕ) → are_plain l ≡ true → are_plain m ≡ true → are_plain (l ++ m) ≡ true
plain_both l m a b = list_all-append is_plain l m ∙ and_from (are_plain l) (are_plain m) a b
