-- From what clap finds to the commands.
use Rattle.std.proofs.Common.{◌≡◌, ◌∙◌, List, [], ◌∷◌, Option, Some, None, map, refl, sym, subst, ap, inl, inr, true, false}
use Rattle.std.specs.Prelude.{IsSomeAnd, option_map, String}
use Rattle.std.specs.Box.{box_value}
use Rattle.std.specs.String.{string_bytes}
use Rattle.std.proofs.lemmas.Str.{IsUtf8-string_bytes}
use Rattle.clap.specs.Simple.{App, HasMatchesOf, is_simple, subcommand_of, subcommand_rows_of}
use Rattle.clap.specs.Faults.{fault_of, is_simple_and_free}
use Rattle.clap.specs.Walk.{Row, first_of, rows_of}
use Rattle.clap.specs.Matches.{first_value, found_of, subcommand_name_of}
use Rattle.clap.specs.Kinds.{Kinds, HasKind, IsAmong}
use Rattle.clap.specs.Values.{kind_of}
use Rattle.clap.specs.declared.error.Error.{Error}
use Rattle.clap.specs.declared.error.kind.ErrorKind.{ErrorKind}
use Rattle.clap.specs.declared.error.kind.ErrorKind.TheVariants as kind
use Rattle.clap.specs.declared.parser.matches.ArgMatches.{ArgMatches}
use Rattle.clap.specs.declared.parser.matches.ArgMatches.TheViews.{out-ArgMatches, out-SubCommand}
use Rattle.clap.specs.declared.parser.matches.Found.{Found}
use Rattle.clap.proofs.WalkLemmas.{first_value-rows}
use Rattle.command_words.specs.Command.{command_of}
use Rattle.command_words.specs.Plain.{plain_words, command_named}
use Rattle.command_words.specs.App.{the_app}
use Rattle.command_words.specs.Answer.{wants_memory, Tells, Gives, Is}
use Rattle.command_words.specs.declared.given.Given.{Given}
use Rattle.command_words.proofs.PlainWords.{Text}
use Rattle.command_words.proofs.Stages.{AreTexts}
use Rattle.command_words.proofs.Whole.{simple, simple_too}
use Rattle.command_words.proofs.Exact.{Exact, refused, accepted, exact}

pub same_some : {X : Type 0} (x y : X) → Some x ≡ Some y → x ≡ y
same_some x y e = cc

pub value_is : (f : Found) (rs : List Row) (id : Text) (v : Option Text) → rows_of f ≡ rs → first_of id rs ≡ v → first_value f id ≡ v
value_is f rs id v r e = first_value-rows f id ∙ ap (first_of id) r ∙ e

fronts : {X : Type 0} (f : X → Text) (g : X → List Row) (o : Option X) → option_map f o ≡ option_map (λ (p : Text × List Row). p.0) (option_map (λ b. (f b, g b)) o)
fronts f g None = refl
fronts f g (Some x) = refl

pub name_is : (m : ArgMatches) → subcommand_name_of m ≡ option_map (λ (p : Text × List Row). p.0) (subcommand_rows_of m)
name_is m = fronts (λ b. (out-SubCommand (box_value b)).name.now) (λ b. rows_of (found_of (out-SubCommand (box_value b)).matches)) (out-ArgMatches m).subcommand

module _ {Z : Type 0} where
  pub texts : (ws : List (String Z)) → AreTexts (map string_bytes ws)
  texts [] = tt
  texts (w ∷ ws) = (IsUtf8-string_bytes w, texts ws)

gives : (words : List Text) (name a : Text) (b c d w : Option Text) → command_of words ≡ command_named name (plain_words a b c d) w
    → (r : Option Given) → IsSomeAnd r (Is name a b c d w) → Gives words r
gives words name a b c d w e None h = absurd h
gives words name a b c d w e (Some g) h = e ∙ rw (sym h.0, sym h.1, sym h.2, sym h.3, sym h.4, sym h.5) refl

memory : (k : ErrorKind) → k ≡ kind.OutOfMemory → wants_memory k ≡ true
memory k e = ap wants_memory e

module _ (words : List Text) (app : App) (is : app ≡ the_app) (t : AreTexts words) where
  found : Exact words → (m : ArgMatches) → fault_of the_app words ≡ [] → subcommand_rows_of m ≡ subcommand_of the_app words → (r : Option Given)
      → ((name a : Text) (b c d w : Option Text) (rs : List Row) → subcommand_rows_of m ≡ Some (name, rs) → Tells rs a b c d w → IsSomeAnd r (Is name a b c d w)) → Gives words r
  found (refused f n) m e s r h = absurd (f e)
  found (accepted name a b c d w rs f s' t n) m e s r h = gives words name a b c d w n r (h name a b c d w rs (s ∙ s') t)

  -- clap's matches
  pub ok_gives : (m : ArgMatches) → (is_simple_and_free app ≡ true → fault_of app words ≡ []) → HasMatchesOf app words m → (r : Option Given)
      → ((name a : Text) (b c d w : Option Text) (rs : List Row) → subcommand_rows_of m ≡ Some (name, rs) → Tells rs a b c d w → IsSomeAnd r (Is name a b c d w)) → Gives words r
  ok_gives m h g r p =
      found (exact words t) m (subst (λ (a : App). fault_of a words ≡ []) is (h (ap is_simple_and_free is ∙ simple)))
      ((g (ap is_simple is ∙ simple_too)).1 ∙ ap (λ (a : App). subcommand_of a words) is) r p

  none_by : Exact words → (e : Error) → HasKind (fault_of the_app words) e → wants_memory (kind_of e) ≡ false → command_of words ≡ None
  none_by (refused f n) e h w = n
  none_by (accepted name a b c d v rs f s t n) e (inl m) w = let bad : true ≡ false = sym (memory (kind_of e) m) ∙ w in cc
  none_by (accepted name a b c d v rs f s t n) e (inr among) w = absurd (subst (λ (ks : Kinds). IsAmong (kind_of e) ks) f among)

  -- an error that is not of memory
  pub err_none : (e : Error) → (is_simple_and_free app ≡ true → HasKind (fault_of app words) e) → wants_memory (kind_of e) ≡ false → command_of words ≡ None
  err_none e h w = none_by (exact words t) e (subst (λ (a : App). HasKind (fault_of a words) e) is (h (ap is_simple_and_free is ∙ simple))) w
