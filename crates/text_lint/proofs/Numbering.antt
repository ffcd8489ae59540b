-- One line more of a text.
use Rattle.std.proofs.Common.{◌≡◌, ℕ, ◌+◌, List, ◌∷◌, ◌++◌, ap, sym, ◌∙◌, append_assoc, add-one}
use Rattle.syn_base.specs.Bytes.{Bytes}
use Rattle.text_lint.specs.Numbered.{number_by, numbers_from}

pub line_more : (key : Bytes) (n : ℕ) (line : Bytes) (lines all : List Bytes) (old new whole : List ℕ)
    → all ≡ line ∷ lines → new ≡ old ++ number_by key n line → old ++ numbers_from key n all ≡ whole
    → new ++ numbers_from key (n + 1) lines ≡ whole
line_more key n line lines all old new whole cut added before =
    ap (λ (xs : List ℕ). xs ++ numbers_from key (n + 1) lines) added
    ∙ append_assoc old (number_by key n line) (numbers_from key (n + 1) lines)
    ∙ ap (λ (k : ℕ). old ++ (number_by key n line ++ numbers_from key k lines)) (add-one n)
    ∙ ap (λ (ls : List Bytes). old ++ numbers_from key n ls) (sym cut)
    ∙ before
