-- The plain words after a command that takes no workers.
use Rattle.std.proofs.Common.{◌≡◌, ◌∙◌, refl, ap, List, [], ◌∷◌, Bool, true, false, Option, Some, None, codes, if◌then◌else◌}
use Rattle.std.specs.Prelude.{option_map, option_and_then}
use Rattle.std.specs.Str.{bytes_eq}
use Rattle.syn_base.specs.Bytes.{Bytes}
use Rattle.command_words.specs.Command.{Command, Arguments, is_option, arguments_of, plain_by, with_plain}

abbrev pub Text : Type 0
Text = Bytes

abbrev pub is_escape : Text → Bool
is_escape word = bytes_eq word (codes "--")

abbrev pub is_dashed : Text → Bool
is_dashed = is_option

-- none where an option stands before a `--`, which ends the options
abbrev pub plain_from : Bool → List Text → Option (List Text)
plain_from true words = Some words
plain_from false [] = Some []
plain_from false (word ∷ words) = if is_escape word then Some words
    else (if is_dashed word then None else option_map (λ more. word ∷ more) (plain_from false words))

abbrev only : List Text → Arguments
only us = record { plain = us; workers = [] }

with_one : (w : Text) (o : Option (List Text)) → with_plain w (option_map only o) ≡ option_map only (option_map (λ more. w ∷ more) o)
with_one w None = refl
with_one w (Some us) = refl

are_plain : (ws : List Text) → arguments_of false false ws ≡ option_map only (plain_from false ws)
are_plain [] = refl
are_plain (w ∷ ws) = by (is_escape w) (is_dashed w) (are_plain ws)
  where
    by : (e d : Bool) → arguments_of false false ws ≡ option_map only (plain_from false ws) → (if e then Some (only ws) else (if d then None else with_plain w (arguments_of false false ws)))
        ≡ option_map only (if e then Some ws else (if d then None else option_map (λ more. w ∷ more) (plain_from false ws)))
    by true d h = refl
    by false true h = refl
    by false false h = ap (with_plain w) h ∙ with_one w (plain_from false ws)

pub answered : (go : List Text → Option Command) (ws : List Text) → plain_by go (arguments_of false false ws) ≡ option_and_then go (plain_from false ws)
answered go ws = ap (plain_by go) (are_plain ws) ∙ last (plain_from false ws)
  where
    last : (o : Option (List Text)) → plain_by go (option_map only o) ≡ option_and_then go o
    last None = refl
    last (Some us) = refl
