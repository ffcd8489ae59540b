-- The first line and the first word of what is left.
use Rattle.std.proofs.Common.{◌≡◌, ℕ, suc, ◌+◌, ◌<◌, Bool, not, true, false, cond, List, [], ◌∷◌, length, take, drop, refl, arith, ap, sym, ◌∙◌, ◌-◌, subst, drop-cons}
use Rattle.std.proofs.lemmas.List.{drop-drop}
use Rattle.std.specs.List.{position_or_len}
use Rattle.text_lines.specs.Text.{is_feed, is_blank, lines_of, with_byte, words_of}

with_end : (f : Bool) (b : ℕ) → cond f ([] ∷ []) (with_byte b [])
    ≡ take (cond (not f) (1 + 0) 0) (b ∷ []) ∷ lines_of (drop (cond (not f) (1 + 0) 0 + 1) (b ∷ []))
with_end true b = refl
with_end false b = refl

with_more : (f : Bool) (b : ℕ) (bs : List ℕ) (e : ℕ) → lines_of bs ≡ take e bs ∷ lines_of (drop (e + 1) bs)
    → cond f ([] ∷ lines_of bs) (with_byte b (lines_of bs))
    ≡ take (cond (not f) (1 + e) 0) (b ∷ bs) ∷ lines_of (drop (cond (not f) (1 + e) 0 + 1) (b ∷ bs))
with_more true b bs e h = refl
with_more false b bs e h = let one : 1 + e ≡ suc e = omega arith in
    let two : 1 + e + 1 ≡ suc (e + 1) = omega arith in
    rw (two, one) (ap (with_byte b) h)

-- lines from the front: the bytes before the next line feed, and the lines of what is after it
pub lines_of-first : (b : ℕ) (bs : List ℕ) → lines_of (b ∷ bs)
    ≡ take (position_or_len is_feed (b ∷ bs)) (b ∷ bs) ∷ lines_of (drop (position_or_len is_feed (b ∷ bs) + 1) (b ∷ bs))
lines_of-first b [] = with_end (is_feed b) b
lines_of-first b (c ∷ bs) = with_more (is_feed b) b (c ∷ bs) (position_or_len is_feed (c ∷ bs)) (lines_of-first c bs)

-- the letter b before a blank is a word, and before a letter the first byte of its word
letter : (f : Bool) (b c : ℕ) (bs : List ℕ) (ws : List (List ℕ)) (e : ℕ)
    → (f ≡ true → e ≡ 0) → (f ≡ false → ws ≡ take e (c ∷ bs) ∷ words_of (drop e (c ∷ bs)))
    → ws ≡ words_of (c ∷ bs)
    → cond f ((b ∷ []) ∷ ws) (with_byte b ws) ≡ take (1 + e) (b ∷ c ∷ bs) ∷ words_of (drop (1 + e) (b ∷ c ∷ bs))
letter true b c bs ws e at_once later all =
    let one : 1 + e ≡ 1 = omega (arith, at_once refl) in rw one (ap (λ (v : List (List ℕ)). (b ∷ []) ∷ v) all)
letter false b c bs ws e at_once later all =
    let one : 1 + e ≡ suc e = omega arith in rw one (ap (with_byte b) (later refl))

-- a blank at the front
pub words_of-blank : (b : ℕ) (bs : List ℕ) → is_blank b ≡ true → words_of (b ∷ bs) ≡ words_of bs
words_of-blank b bs h = rw h refl

-- a word at the front
pub words_of-word : (b : ℕ) (bs : List ℕ) → is_blank b ≡ false → words_of (b ∷ bs)
    ≡ take (position_or_len is_blank (b ∷ bs)) (b ∷ bs) ∷ words_of (drop (position_or_len is_blank (b ∷ bs)) (b ∷ bs))
words_of-word b [] h = rw h refl
words_of-word b (c ∷ bs) h = rw h (letter (is_blank c) b c bs (words_of (c ∷ bs)) (position_or_len is_blank (c ∷ bs)) (λ f. rw f refl) (words_of-word c bs) refl)

front_line : (d : List ℕ) (b : ℕ) (bs : List ℕ) → d ≡ b ∷ bs
    → lines_of d ≡ take (position_or_len is_feed d) d ∷ lines_of (drop (position_or_len is_feed d + 1) d)
front_line d b bs e = subst (λ (x : List ℕ). lines_of x ≡ take (position_or_len is_feed x) x ∷ lines_of (drop (position_or_len is_feed x + 1) x)) (sym e) (lines_of-first b bs)

-- The next line of a text, as a loop over its bytes finds it.
pub lines_of-next : (bytes : List ℕ) (from to : ℕ) → from < length bytes → to ≡ from + position_or_len is_feed (drop from bytes)
    → lines_of (drop from bytes) ≡ take (to - from) (drop from bytes) ∷ lines_of (drop (to + 1) bytes)
lines_of-next bytes from to inside next =
    let e : ℕ = position_or_len is_feed (drop from bytes) in
    let is : to - from ≡ e = omega (arith, next) in
    let behind : drop (e + 1) (drop from bytes) ≡ drop (to + 1) bytes = drop-drop (e + 1) from bytes ∙ ap (λ (k : ℕ). drop k bytes) (omega (arith, next)) in
    front_line (drop from bytes) _ _ (drop-cons bytes from 0 inside) ∙ rw behind (rw is refl)
