-- The first word of a line, and a line up to its comment.
use Rattle.std.proofs.Common.{◌≡◌, ℕ, ◌<◌, ◌+◌, ◌-◌, true, false, List, ◌∷◌, length, length-drop, get_or, take, drop, position, Some, None, sym, ap, ◌∙◌, arith}
use Rattle.std.specs.List.{list_any, position_or_len}
use Rattle.text_lines.specs.Text.{code_of, is_blank, is_foreign, is_hash, words_of}
use Rattle.text_lines.proofs.Places.{found_at}
use Rattle.syn_base.specs.Bytes.{Bytes}
use Rattle.code_lines.specs.Views.{is_stop}
use Rattle.code_lines.proofs.Clean.{mark_first, no_stop, wrong_first}
use Rattle.code_lines.proofs.Cuts.{none_passes}
use Rattle.text_lines.proofs.Reading.{Word, word_read}
use Rattle.std.proofs.Math.Seq.{take-length}
use Rattle.std.proofs.lemmas.List.{take_all}

-- the first word, and what stands after it
pub first_read : (code : List ℕ) (from to : ℕ) → from < length code → is_blank (get_or code from 0) ≡ false → to
    ≡ from + position_or_len is_blank (drop from code) → words_of (drop from code) ≡ words_of code
    → words_of code ≡ take (to - from) (drop from code) ∷ words_of (take (length code - to) (drop to code))
first_read code from to inside letter next so_far =
    let w : Word code code (length code) from to = record { code_is = sym (take-length code); inside = inside; letter = letter; next = next } in
    let all : take (length code - to) (drop to code) ≡ drop to code = take_all (length code - to) (drop to code) (omega (arith, length-drop to code)) in
    rw all (sym so_far ∙ word_read code code (length code) from to w)

-- the whole line is clean, and has no comment
pub clean_whole : (line : Bytes) → position is_stop line ≡ None → (line ≡ code_of line) × (list_any is_foreign (code_of line) ≡ false)
clean_whole line none =
    let found = no_stop is_hash is_foreign line (none_passes is_stop line none) in
    let all : line ≡ code_of line = sym (ap (λ (k : ℕ). take k line) found.0 ∙ take-length line) in
    (all, ap (list_any is_foreign) (sym all) ∙ found.1)

-- the line is clean up to its comment
pub clean_to : (line : Bytes) (n : ℕ) → position is_stop line ≡ Some n → n < length line → is_hash (get_or line n 0) ≡ true
    → (take n line ≡ code_of line) × (list_any is_foreign (code_of line) ≡ false)
clean_to line n first inside is =
    let found = mark_first is_hash is_foreign line n 0 (found_at is_stop line n first) inside is in
    let to : take n line ≡ code_of line = ap (λ (k : ℕ). take k line) (sym found.0) in
    (to, ap (list_any is_foreign) (sym to) ∙ found.1)

-- a byte that may not stand there is not in the comment
pub foreign_before : (line : Bytes) (n : ℕ) → position is_stop line ≡ Some n → n < length line → is_hash (get_or line n 0) ≡ false → list_any is_foreign (code_of line) ≡ true
foreign_before line n first inside is = wrong_first is_hash is_foreign line n 0 (found_at is_stop line n first) inside is
