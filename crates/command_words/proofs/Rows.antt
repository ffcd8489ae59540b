-- Rows that are put after others, one for each argument.
use Rattle.std.proofs.Common.{◌≡◌, ◌∙◌, List, [], ◌∷◌, ◌++◌, true, false, Option, Some, None, inl, inr, refl, sym, ap}
use Rattle.std.specs.Prelude.{find, is_some, option_map}
use Rattle.std.specs.Option.{option_or}
use Rattle.std.proofs.lemmas.List.Folds.{find-append}
use Rattle.std.specs.Str.{bytes_eq}
use Rattle.clap.specs.Walk.{Row, at_row, without, has_row, first_of, with_values, more_values, reading_by}
use Rattle.clap.specs.Takes.{is_given}
use Rattle.clap.specs.declared.parser.matches.ValueSource.TheVariants.{CommandLine}
use Rattle.command_words.specs.App.{argument}
use Rattle.command_words.proofs.PlainWords.{Text}
use Rattle.command_words.proofs.Looks.{two_ways}
use Rattle.command_words.proofs.Leaves.{row}

-- the first row of this argument
abbrev pub row_in : Text → List Row → Option Row
row_in id rs = find (λ (r : Row). bytes_eq r.id id) rs

-- the argument has this value, or none
abbrev pub Has : Text → List Row → Option Text → Type 0
Has id rs o = row_in id rs ≡ option_map (row id) o

abbrev pub more : Text → Text → List Row → List Row
more id v rs = rs ++ row id v ∷ []

any_found : (id : Text) (rs : List Row) → has_row id rs ≡ is_some (row_in id rs)
any_found id [] = refl
any_found id (r ∷ rs) = elim (two_ways (bytes_eq r.id id)) [ inl e ↦ rw e refl | inr e ↦ rw e (any_found id rs) ]

pub has_value : (id v : Text) (rs : List Row) → Has id rs (Some v) → has_row id rs ≡ true
has_value id v rs h = any_found id rs ∙ ap is_some h

pub has_none : (id : Text) (rs : List Row) → Has id rs None → has_row id rs ≡ false
has_none id rs h = any_found id rs ∙ ap is_some h

pub first_value_of : (id : Text) (o : Option Text) (rs : List Row) → Has id rs o → first_of id rs ≡ o
first_value_of id None rs h = rw h refl
first_value_of id (Some v) rs h = rw h refl

pub value_given : (id v : Text) (rs : List Row) → Has id rs (Some v) → is_given id rs ≡ true
value_given id v rs h = rw h refl

pub none_given : (id : Text) (rs : List Row) → Has id rs None → is_given id rs ≡ false
none_given id rs h = rw h refl

-- another argument's row changes nothing
pub stays : (id other v : Text) (o : Option Text) (rs : List Row) → bytes_eq other id ≡ false → Has id rs o → Has id (more other v rs) o
stays id other v o rs e h = find-append (λ (r : Row). bytes_eq r.id id) rs (row other v ∷ []) ∙ rw (e, h) (last o)
  where
    last : (o : Option Text) → option_or (option_map (row id) o) None ≡ option_map (row id) o
    last None = refl
    last (Some w) = refl

pub is_added : (id v : Text) (rs : List Row) → bytes_eq id id ≡ true → Has id rs None → Has id (more id v rs) (Some v)
is_added id v rs e h = find-append (λ (r : Row). bytes_eq r.id id) rs (row id v ∷ []) ∙ rw (e, h) refl

at_the_end : (id : Text) (change : Row → List Row) (missing rs : List Row) → Has id rs None → at_row id change missing rs ≡ rs ++ missing
at_the_end id change missing [] h = refl
at_the_end id change missing (r ∷ rs) h =
    elim (two_ways (bytes_eq r.id id)) [
      | inl e ↦ let found : row_in id (r ∷ rs) ≡ Some r = rw e refl in let bad : Some r ≡ None = sym found ∙ h in absurd cc
      | inr e ↦ let left : row_in id (r ∷ rs) ≡ row_in id rs = rw e refl in rw e (ap (λ (xs : List Row). r ∷ xs) (at_the_end id change missing rs (sym left ∙ h)))
    ]

append_none : (rs : List Row) → rs ++ [] ≡ rs
append_none [] = refl
append_none (r ∷ rs) = ap (λ (xs : List Row). r ∷ xs) (append_none rs)

left_alone : (id : Text) (rs : List Row) → Has id rs None → without id rs ≡ rs
left_alone id rs h = at_the_end id (λ r. []) [] rs h ∙ append_none rs

-- the first use of an argument
pub first_use : (id v : Text) (rs : List Row) → Has id rs None → with_values id (reading_by (argument id true)) CommandLine (v ∷ []) (without id rs) ≡ more id v rs
first_use id v rs h = ap (λ (xs : List Row). with_values id (reading_by (argument id true)) CommandLine (v ∷ []) xs) (left_alone id rs h)
    ∙ at_the_end id (more_values CommandLine (v ∷ [])) (row id v ∷ []) rs h
