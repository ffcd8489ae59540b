-- One word of a line is read.
use Rattle.std.proofs.Common.{◌≡◌, ℕ, suc, ◌+◌, ◌-◌, ◌<◌, ◌≤◌, false, List, [], ◌∷◌, length, take, drop, get_or, refl, arith, ap, ap₂, map, sym, ◌∙◌, length-drop, drop-cons, subst}
use Rattle.std.specs.Prelude.{All}
use Rattle.std.specs.List.{position_or_len}
use Rattle.std.proofs.lemmas.List.Sums.{prefix_len-le-length}
use Rattle.std.proofs.lemmas.List.{length-take, take-take, drop-drop, drop-take}
use Rattle.text_lines.specs.Text.{is_blank, words_of, text_at, IsWithin}
use Rattle.text_lines.specs.declared.Span.{Span}
use Rattle.text_lines.proofs.Pieces.{words_of-word}

pub record Word (line code : List ℕ) (n at to : ℕ) : Type 0 where
  pub code_is : code ≡ take n line
  pub inside : at < length code
  pub letter : is_blank (get_or code at 0) ≡ false
  pub next : to ≡ at + position_or_len is_blank (drop at code)

word_front : (d : List ℕ) (b : ℕ) (bs : List ℕ) → d ≡ b ∷ bs → is_blank b ≡ false
    → words_of d ≡ take (position_or_len is_blank d) d ∷ words_of (drop (position_or_len is_blank d) d)
word_front d b bs e h = subst (λ (x : List ℕ). words_of x ≡ take (position_or_len is_blank x) x ∷ words_of (drop (position_or_len is_blank x) x)) (sym e) (words_of-word b bs h)

ends_later : (d : List ℕ) (b : ℕ) (bs : List ℕ) → d ≡ b ∷ bs → is_blank b ≡ false → 0 < position_or_len is_blank d
ends_later d b bs e h = subst (λ (x : List ℕ). 0 < position_or_len is_blank x) (sym e) (rw h (omega arith))

piece : (line code : List ℕ) (n at e : ℕ) → code ≡ take n line → at + e ≤ length code → take e (drop at code) ≡ take e (drop at line)
piece line code n at e is le =
    let room : at + e ≤ n = omega (arith, length-take n line, ap length is) in
    let same : take (at + e) code ≡ take (at + e) line = rw is (take-take (at + e) n line room) in
    sym (drop-take at e code) ∙ ap (drop at) same ∙ drop-take at e line

pub word_within : (line code : List ℕ) (n at to : ℕ) → Word line code n at to → (at < to) × (to ≤ length code)
word_within line code n at to w =
    let later : 0 < position_or_len is_blank (drop at code) = ends_later _ _ _ (drop-cons code at 0 w.inside) w.letter in
    let most : position_or_len is_blank (drop at code) ≤ length (drop at code) = prefix_len-le-length _ (drop at code) in
    (omega (arith, w.next), omega (arith, w.next, w.inside, length-drop at code))

pub word_read : (line code : List ℕ) (n at to : ℕ) → Word line code n at to
    → words_of (drop at code) ≡ take (to - at) (drop at line) ∷ words_of (drop to code)
word_read line code n at to w =
    let e : ℕ = position_or_len is_blank (drop at code) in
    let within = word_within line code n at to w in
    let is : to - at ≡ e = omega (arith, w.next) in
    let same : take (to - at) (drop at code) ≡ take (to - at) (drop at line) = piece line code n at (to - at) w.code_is (omega (arith, within.0, within.1)) in
    let front = word_front _ _ _ (drop-cons code at 0 w.inside) w.letter in
    let behind : drop e (drop at code) ≡ drop to code = drop-drop e at code ∙ ap (λ (k : ℕ). drop k code) (sym w.next) in
    front ∙ rw behind (rw (← same, is) refl)

-- spans of a line's code are spans of the line, with the same texts
pub texts_in_line : (line code : List ℕ) (n : ℕ) (spans : List Span) → code ≡ take n line → All (IsWithin (length code)) spans → map (text_at code) spans ≡ map (text_at line) spans
texts_in_line line code n [] is all = refl
texts_in_line line code n (s ∷ ss) is all =
    let w : IsWithin (length code) s = all 0 s (omega arith) in
    ap₂ (λ t ts. t ∷ ts) (piece line code n s.from (s.to - s.from) is (omega (arith, w.0, w.1))) (texts_in_line line code n ss is (λ k d h. all (suc k) d (omega arith)))

pub within_line : (line code : List ℕ) (n : ℕ) (spans : List Span) → code ≡ take n line → All (IsWithin (length code)) spans → All (IsWithin (length line)) spans
within_line line code n spans is all k d h =
    let w = all k d h in (w.0, omega (arith, w.1, ap length is, length-take n line))
