-- Reading lines that are made of words.
use Rattle.std.proofs.Common.{◌≡◌, ℕ, suc, ◌+◌, List, [], ◌∷◌, ◌++◌, length, map, Result, Ok, Err, refl, ap, ◌∙◌, arith}
use Rattle.archi_defs.specs.Refusals.{ArchiRefusal}
use Rattle.archi_defs.specs.Text.{Reading, next_line, rest_of, whole}
use Rattle.text_lines.specs.Refusals.{and_then}
use Rattle.archi_reader.specs.Canonical.{Words, joined}

-- the reading after these lines
abbrev pub after : Reading → ℕ → List Words → Result Reading ArchiRefusal
after r n [] = Ok r
after r n (ws ∷ lines) = and_then (next_line r n (joined ws)) (λ s. after s (n + 1) lines)

rest_behind : (read : Result Reading ArchiRefusal) (n : ℕ) (lines : List Words)
    → ((s : Reading) → rest_of s (n + 1) (map joined lines) ≡ and_then (after s (n + 1) lines) (λ t. whole t (n + 1 + length lines)))
    → and_then read (λ s. rest_of s (n + 1) (map joined lines)) ≡ and_then (and_then read (λ s. after s (n + 1) lines)) (λ t. whole t (n + 1 + length lines))
rest_behind (Ok s) n lines h = h s
rest_behind (Err e) n lines h = refl

pub rest_after : (lines : List Words) (r : Reading) (n : ℕ) → rest_of r n (map joined lines) ≡ and_then (after r n lines) (λ s. whole s (n + length lines))
rest_after [] r n = ap (whole r) (let e : n ≡ n + 0 = omega arith in e)
rest_after (ws ∷ lines) r n =
    rest_behind (next_line r n (joined ws)) n lines (λ s. rest_after lines s (n + 1))
    ∙ ap (λ (k : ℕ). and_then (after r n (ws ∷ lines)) (λ s. whole s k)) (let e : n + 1 + length lines ≡ n + suc (length lines) = omega arith in e)

append_behind : (read : Result Reading ArchiRefusal) (n : ℕ) (lines more : List Words)
    → ((s : Reading) → after s (n + 1) (lines ++ more) ≡ and_then (after s (n + 1) lines) (λ t. after t (n + 1 + length lines) more))
    → and_then read (λ s. after s (n + 1) (lines ++ more)) ≡ and_then (and_then read (λ s. after s (n + 1) lines)) (λ t. after t (n + 1 + length lines) more)
append_behind (Ok s) n lines more h = h s
append_behind (Err e) n lines more h = refl

pub after_append : (lines more : List Words) (r : Reading) (n : ℕ) → after r n (lines ++ more) ≡ and_then (after r n lines) (λ s. after s (n + length lines) more)
after_append [] more r n = ap (λ (k : ℕ). after r k more) (let e : n ≡ n + 0 = omega arith in e)
after_append (ws ∷ lines) more r n =
    append_behind (next_line r n (joined ws)) n lines more (λ s. after_append lines more s (n + 1))
    ∙ ap (λ (k : ℕ). and_then (after r n (ws ∷ lines)) (λ s. after s k more)) (let e : n + 1 + length lines ≡ n + suc (length lines) = omega arith in e)

-- lines after others
pub then_lines : (lines more : List Words) (r s : Reading) (n : ℕ) → after r n lines ≡ Ok s → after r n (lines ++ more) ≡ after s (n + length lines) more
then_lines lines more r s n is = after_append lines more r n ∙ ap (λ read. and_then read (λ t. after t (n + length lines) more)) is

-- one line
pub then_line : (ws : Words) (lines : List Words) (r s : Reading) (n : ℕ) → next_line r n (joined ws) ≡ Ok s → after r n (ws ∷ lines) ≡ after s (n + 1) lines
then_line ws lines r s n is = ap (λ read. and_then read (λ t. after t (n + 1) lines)) is
