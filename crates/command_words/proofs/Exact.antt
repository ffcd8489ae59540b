-- clap accepts exactly the words of the commands, with their arguments.
use Rattle.std.proofs.Common.{◌≡◌, ◌∙◌, List, [], ◌∷◌, true, false, Option, Some, None, refl, sym, subst, ap}
use Rattle.std.specs.Prelude.{option_and_then}
use Rattle.std.specs.Str.{IsUtf8}
use Rattle.clap.specs.Walk.{Row, nothing_held}
use Rattle.clap.specs.Simple.{subcommand_of}
use Rattle.clap.specs.Faults.{fault_of}
use Rattle.command_words.specs.Table.{table, kind_named}
use Rattle.command_words.specs.Command.{
  Command,
  check,
  sim,
  one,
  two,
  one_or_two,
  four,
  loaded,
  dated,
  number_up_to,
  algorithm_text,
  schedule_text,
  plain,
  plainly,
  arguments_of,
  command_of_kind,
  command_of,
}
use Rattle.command_words.specs.Plain.{plain_words, command_with, command_named}
use Rattle.command_words.specs.Answer.{Tells}
use Rattle.command_words.specs.App.{the_app}
use Rattle.command_words.specs.declared.table.CommandKind.{CommandKind}
use Rattle.command_words.specs.declared.table.CommandKind.TheVariants.{Check, Sim, Algorithm, Schedule, Run, Load, Exec, Dates}
use Rattle.command_words.proofs.Behind.{behind, given, behind_first}
use Rattle.command_words.proofs.PlainWords.{Text, plain_from, answered}
use Rattle.command_words.proofs.Leaf.{IsRefused, at}
use Rattle.command_words.proofs.Stages.{AreTexts, Fits}
use Rattle.command_words.proofs.Leaves.{wants_one, single_reads, wants_two, both_read, one_or_two_read, wants_four, four_read, four_rows, rows}
use Rattle.command_words.proofs.RunWords as walk
use Rattle.command_words.proofs.RunWords.{Fate, working_by, working_read}
use Rattle.command_words.proofs.Whole.{Behaves, behaves, leaf_of, no_word, nothing, no_name}

pub data Exact (words : List Text) : Type 0 where
  refused : IsRefused (fault_of the_app words) → command_of words ≡ None → Exact words
  accepted : (name a : Text) (b c d w : Option Text) (rs : List Row) → fault_of the_app words ≡ [] → subcommand_of the_app words ≡ Some (name, rs) → Tells rs a b c d w
      → command_of words ≡ command_named name (plain_words a b c d) w → Exact words

-- what is wanted of the plain words is what the command takes
abbrev Told : Option (List Row) → (List Text → Option Command) → List Text → Type 0
Told None go us = go us ≡ None
Told (Some r) go us = (a : Text) × (b c d : Option Text) × Tells r a b c d None × (us ≡ plain_words a b c d)

tells_rows : (a : Text) (b : Option Text) → Tells (rows a b) a b None None None
tells_rows a None = record { first = refl; second = refl; third = refl; fourth = refl; workers = refl }
tells_rows a (Some b) = record { first = refl; second = refl; third = refl; fourth = refl; workers = refl }

tells_four : (a b c d : Text) → Tells (four_rows a b c d) a (Some b) (Some c) (Some d) None
tells_four a b c d = record { first = refl; second = refl; third = refl; fourth = refl; workers = refl }

module _ (name : Text) where
  told_one : (go : Text → Option Command) (us : List Text) → Told (wants_one name us) (one go) us
  told_one go [] = refl
  told_one go (a ∷ []) = (a, None, None, None, tells_rows a None, refl)
  told_one go (a ∷ b ∷ us) = refl

  told_one_or_two : (go : Text → Option Text → Option Command) (us : List Text) → Told (wants_two name false us) (one_or_two go) us
  told_one_or_two go [] = refl
  told_one_or_two go (a ∷ []) = (a, None, None, None, tells_rows a None, refl)
  told_one_or_two go (a ∷ b ∷ []) = (a, Some b, None, None, tells_rows a (Some b), refl)
  told_one_or_two go (a ∷ b ∷ c ∷ us) = refl

  told_two : (go : Text → Text → Option Command) (us : List Text) → Told (wants_two name true us) (two go) us
  told_two go [] = refl
  told_two go (a ∷ []) = refl
  told_two go (a ∷ b ∷ []) = (a, Some b, None, None, tells_rows a (Some b), refl)
  told_two go (a ∷ b ∷ c ∷ us) = refl

  told_four : (go : Text → Text → Text → Text → Option Command) (us : List Text) → Told (wants_four name us) (four go) us
  told_four go [] = refl
  told_four go (a ∷ []) = refl
  told_four go (a ∷ b ∷ []) = refl
  told_four go (a ∷ b ∷ c ∷ []) = refl
  told_four go (a ∷ b ∷ c ∷ d ∷ []) = (a, Some b, Some c, Some d, tells_four a b c d, refl)
  told_four go (a ∷ b ∷ c ∷ d ∷ e ∷ us) = refl

-- The words after the name of a command of this kind.
module _ (program name : Text) (ws : List Text) (kind : CommandKind) (is : kind_named table name ≡ Some kind) where
  clap : Behaves name (leaf_of (name, kind))
  clap = behaves name kind is

  of_kind : command_of (program ∷ name ∷ ws) ≡ command_of_kind kind ws
  of_kind = ap (option_and_then (λ (k : CommandKind). command_of_kind k ws)) is

  as_named : (us : List Text) (w : Option Text) → command_with kind us w ≡ command_named name us w
  as_named us w = sym (ap (option_and_then (λ (k : CommandKind). command_with k us w)) is)

  -- one that takes plain arguments alone
  module _ (go : List Text → Option Command) (by : command_of_kind kind ws ≡ plainly go ws) (goes : (us : List Text) → go us ≡ command_with kind us None) (wants : List Text → Option (List Row))
      (told : (us : List Text) → Told (wants us) go us) where
    is_said : command_of (program ∷ name ∷ ws) ≡ option_and_then go (plain_from false ws)
    is_said = of_kind ∙ by ∙ answered go ws

    by_rows : (us : List Text) → plain_from false ws ≡ Some us → (r : Option (List Row)) → Told r go us → Fits (leaf_of (name, kind)) (at nothing_held 1 false) ws r → Exact (program ∷ name ∷ ws)
    by_rows us p None t f = refused (subst IsRefused (sym (clap.faults program ws)) f) (is_said ∙ ap (option_and_then go) p ∙ t)
    by_rows us p (Some r) t f =
        accepted name t.0 t.1 t.2 t.3 None r (clap.faults program ws ∙ f.0) (clap.rows program ws ∙ ap (λ (rs : List Row). Some (name, rs)) f.1) t.4
        (is_said ∙ ap (option_and_then go) p ∙ ap go t.5 ∙ goes (plain_words t.0 t.1 t.2 t.3) ∙ as_named (plain_words t.0 t.1 t.2 t.3) None)

    by_words : (o : Option (List Text)) → plain_from false ws ≡ o → Fits (leaf_of (name, kind)) (at nothing_held 1 false) ws (option_and_then wants o) → Exact (program ∷ name ∷ ws)
    by_words None p f = refused (subst IsRefused (sym (clap.faults program ws)) f) (is_said ∙ ap (option_and_then go) p)
    by_words (Some us) p f = by_rows us p (wants us) (told us) f

    takes_plain : Fits (leaf_of (name, kind)) (at nothing_held 1 false) ws (option_and_then wants (plain_from false ws)) → Exact (program ∷ name ∷ ws)
    takes_plain f = by_words (plain_from false ws) refl f

module _ (program name : Text) (ws : List Text) (u : AreTexts ws) where
  takes_workers : (is : kind_named table name ≡ Some Run) → Exact (program ∷ name ∷ ws)
  takes_workers is = by (working_read false name ws u)
    where
      whole : command_of (program ∷ name ∷ ws) ≡ working_by false (behind (given [] []) (arguments_of true false ws))
      whole = of_kind program name ws Run is ∙ ap (working_by false) (sym (behind_first (arguments_of true false ws)))

      by : Fate false name (at nothing_held 1 false) ws (behind (given [] []) (arguments_of true false ws)) → Exact (program ∷ name ∷ ws)
      by (walk.refused r n) = refused (subst IsRefused (sym ((behaves name Run is).faults program ws)) r) (whole ∙ n)
      by (walk.accepted a b c d n k t m) =
          accepted name a (Some b) (Some c) d n _ ((behaves name Run is).faults program ws ∙ k) ((behaves name Run is).rows program ws) t
          (whole ∙ m ∙ as_named program name ws Run is (plain_words a (Some b) (Some c) d) n)

  takes_code : (is : kind_named table name ≡ Some Exec) → Exact (program ∷ name ∷ ws)
  takes_code is = by (working_read true name ws u)
    where
      whole : command_of (program ∷ name ∷ ws) ≡ working_by true (behind (given [] []) (arguments_of true false ws))
      whole = of_kind program name ws Exec is ∙ ap (working_by true) (sym (behind_first (arguments_of true false ws)))

      by : Fate true name (at nothing_held 1 false) ws (behind (given [] []) (arguments_of true false ws)) → Exact (program ∷ name ∷ ws)
      by (walk.refused r n) = refused (subst IsRefused (sym ((behaves name Exec is).faults program ws)) r) (whole ∙ n)
      by (walk.accepted a b c d n k t m) =
          accepted name a (Some b) (Some c) d n _ ((behaves name Exec is).faults program ws ∙ k) ((behaves name Exec is).rows program ws) t
          (whole ∙ m ∙ as_named program name ws Exec is (plain_words a (Some b) (Some c) d) n)

  of_this : (kind : CommandKind) → kind_named table name ≡ Some kind → Exact (program ∷ name ∷ ws)
  of_this Check is =
      takes_plain program name ws Check is (one_or_two (λ a h. Some (plain (check a h)))) refl (λ us. refl) (wants_two name false)
      (told_one_or_two name (λ a h. Some (plain (check a h)))) (one_or_two_read name false ws u)
  of_this Sim is =
      takes_plain program name ws Sim is (two (λ a s. Some (plain (sim a s)))) refl (λ us. refl) (wants_two name true) (told_two name (λ a s. Some (plain (sim a s)))) (both_read name false ws u)
  of_this (Algorithm text) is =
      takes_plain program name ws (Algorithm text) is (one (λ a. Some (plain (algorithm_text text a)))) refl (λ us. refl) (wants_one name)
      (told_one name (λ a. Some (plain (algorithm_text text a)))) (single_reads name false ws u)
  of_this (Schedule text) is =
      takes_plain program name ws (Schedule text) is (two (λ a h. Some (plain (schedule_text text a h)))) refl (λ us. refl)
      (wants_two name true) (told_two name (λ a h. Some (plain (schedule_text text a h)))) (both_read name false ws u)
  of_this Run is = takes_workers is
  of_this Load is =
      takes_plain program name ws Load is (one (λ n. loaded (number_up_to 1000 n))) refl (λ us. refl) (wants_one name)
      (told_one name (λ n. loaded (number_up_to 1000 n))) (single_reads name false ws u)
  of_this Exec is = takes_code is
  of_this Dates is =
      takes_plain program name ws Dates is (four (λ a h g n. dated a h g (number_up_to 1000 n))) refl (λ us. refl) (wants_four name) (told_four name (λ a h g n. dated a h g (number_up_to 1000 n)))
      (four_read name false ws u)

  unnamed : IsUtf8 name → kind_named table name ≡ None → Exact (program ∷ name ∷ ws)
  unnamed v none = refused (no_name name none program ws v) (ap (option_and_then (λ (k : CommandKind). command_of_kind k ws)) none)

  by_name : IsUtf8 name → (o : Option CommandKind) → kind_named table name ≡ o → Exact (program ∷ name ∷ ws)
  by_name v None e = unnamed v e
  by_name v (Some kind) e = of_this kind e

pub exact : (words : List Text) → AreTexts words → Exact words
exact [] u = refused nothing refl
exact (program ∷ []) u = refused (no_word program) refl
exact (program ∷ name ∷ ws) u = by_name program name ws u.1.1 u.1.0 (kind_named table name) refl
