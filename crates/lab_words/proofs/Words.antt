-- From what `clap` finds to the command.
use Rattle.std.proofs.Common.{◌≡◌, ◌∙◌, suc, Bool, List, [], ◌∷◌, length, Option, Some, None, refl, sym, subst, ap, arith, inl, inr, true, false}
use Rattle.std.proofs.lemmas.Bool.{ne_eqb}
use Rattle.std.specs.Prelude.{if◌then◌else◌, option_and_then, option_map}
use Rattle.clap.specs.Simple.{App, HasMatchesOf, is_simple, subcommand_of, subcommand_rows_of}
use Rattle.clap.specs.Faults.{fault_of, is_simple_and_free}
use Rattle.clap.specs.Walk.{Row, is_empty}
use Rattle.clap.specs.Kinds.{Kinds, HasKind, IsAmong}
use Rattle.clap.specs.Values.{kind_of}
use Rattle.clap.specs.declared.error.Error.{Error}
use Rattle.clap.specs.declared.error.kind.ErrorKind.{ErrorKind}
use Rattle.clap.specs.declared.error.kind.ErrorKind.TheVariants as kind
use Rattle.clap.specs.declared.parser.matches.ArgMatches.{ArgMatches}
use Rattle.syn_base.specs.Bytes.{Bytes}
use Rattle.command_words.specs.Answer.{wants_memory}
use Rattle.lab_words.specs.App.{the_app}
use Rattle.lab_words.specs.Command.{Command, command_in, command_of}

free : is_simple_and_free the_app ≡ true
free = refl

simple : is_simple the_app ≡ true
simple = refl

-- the command, where the faults are none or some
abbrev told : List Bytes → Bool → Option Command
told words none = if none then option_and_then command_in (subcommand_of the_app words) else None

not_empty : (k : ErrorKind) (faults : Kinds) → IsAmong k faults → is_empty faults ≡ false
not_empty k [] h = absurd h
not_empty k (x ∷ xs) h = ne_eqb (suc (length xs)) 0 (λ e. omega arith)

memory : (k : ErrorKind) → k ≡ kind.OutOfMemory → wants_memory k ≡ true
memory k e = ap wants_memory e

module _ (words : List Bytes) (app : App) (is : app ≡ the_app) where
  -- the matches of `clap`
  pub found : (m : ArgMatches) → (is_simple_and_free app ≡ true → fault_of app words ≡ []) → HasMatchesOf app words m → (o : Option Command)
      → o ≡ option_and_then command_in (subcommand_rows_of m) → o ≡ command_of words
  found m faults has o e =
      let none = subst (λ (a : App). fault_of a words ≡ []) is (faults (ap is_simple_and_free is ∙ free)) in
      let rows = (has (ap is_simple is ∙ simple)).1 ∙ ap (λ (a : App). subcommand_of a words) is in
      e ∙ ap (option_and_then command_in) rows ∙ sym (ap (λ (ks : Kinds). told words (is_empty ks)) none)

  by_kind : (e : Error) → HasKind (fault_of the_app words) e → wants_memory (kind_of e) ≡ false → None ≡ command_of words
  by_kind e (inl m) w = let bad : true ≡ false = sym (memory (kind_of e) m) ∙ w in cc
  by_kind e (inr among) w = sym (ap (told words) (not_empty (kind_of e) (fault_of the_app words) among))

  -- an error that is not of memory
  pub refused : (e : Error) → (is_simple_and_free app ≡ true → HasKind (fault_of app words) e) → wants_memory (kind_of e) ≡ false → None ≡ command_of words
  refused e h w = by_kind e (subst (λ (a : App). HasKind (fault_of a words) e) is (h (ap is_simple_and_free is ∙ free))) w

same_some : {X : Type 0} (x y : X) → Some x ≡ Some y → x ≡ y
same_some x y e = cc

-- a name and its rows, by each of them
pub both : (o : Option (Bytes × List Row)) (name : Bytes) (rows : List Row) → Some name ≡ option_map (λ (p : Bytes × List Row). p.0) o → Some rows ≡ option_map (λ (p : Bytes × List Row). p.1) o
    → o ≡ Some (name, rows)
both None name rows n r = let bad : Some name ≡ None = n in cc
both (Some (a, b)) name rows n r = λ i. Some (sym (same_some name a n) i, sym (same_some rows b r) i)

pub neither : (o : Option (Bytes × List Row)) → None ≡ option_map (λ (p : Bytes × List Row). p.1) o → o ≡ None
neither None r = refl
neither (Some (a, b)) r = let bad : None ≡ Some b = r in cc
