-- What was appended so far, and what is left, make the whole.
use Rattle.std.proofs.Common.{◌≡◌, ℕ, ◌≤◌, List, [], ◌++◌, drop, length, append_assoc, sym, ap, ◌∙◌}
use Rattle.std.proofs.lemmas.List.{append-nil, at_drop_all}

-- one step more
pub appended : {Y : Type 0} (one rest left old new whole : List Y) → left ≡ one ++ rest → new ≡ old ++ one → old ++ left ≡ whole → new ++ rest ≡ whole
appended {Y = Y} one rest left old new whole l n w = ap (λ (m : List Y). m ++ rest) n ∙ append_assoc old one rest ∙ ap (λ (m : List Y). old ++ m) (sym l) ∙ w

-- where nothing is left
pub all_appended : {X Y : Type 0} (f : List X → List Y) (xs : List X) (k : ℕ) (out whole : List Y) → f [] ≡ [] → length xs ≤ k → out ++ f (drop k xs) ≡ whole → out ≡ whole
all_appended {Y = Y} f xs k out whole none h e = sym (append-nil out) ∙ ap (λ (l : List Y). out ++ l) (sym (at_drop_all f xs k h ∙ none)) ∙ e
