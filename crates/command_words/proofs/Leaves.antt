-- The words after a name, as clap reads them.
use Rattle.std.proofs.Common.{◌≡◌, List, [], ◌∷◌, Bool, true, false, Option, Some, None, refl, codes}
use Rattle.clap.specs.Walk.{Held, Row, nothing_held, arg_by_index, to_positional, reading_by}
use Rattle.clap.specs.Simple.{Shape, App, built_leaf, inherited, with_leaf_noted, marked_built}
use Rattle.command_words.proofs.PlainWords.{Text}
use Rattle.command_words.specs.App.{the_app, one_app, two_app, four_app, argument}
use Rattle.command_words.proofs.Leaf.{IsRefused, NoOptions, at}
use Rattle.clap.specs.Kinds.{Kinds}
use Rattle.clap.specs.Faults.{walk_fault, defaults_fault}
use Rattle.clap.specs.declared.error.kind.ErrorKind.TheVariants as kind
use Rattle.command_words.proofs.Stages.{faults_of, Fits, Reads, stage, last}
use Rattle.clap.specs.declared.parser.matches.ValueSource.TheVariants.{CommandLine}
use Rattle.syn_base.specs.Bytes.{Bytes}

-- What a parse finds of one argument, from the name of the argument and its word.
abbrev pub row : Bytes → Bytes → Row
row id v =
    record {
      id = id;
      values = v ∷ [];
      count = None;
      source = Some CommandLine;
      reading = reading_by (argument id true);
    }

-- What a parse finds of one word, or of two.
abbrev pub rows : Bytes → Option Bytes → List Row
rows a None = row (codes "first") a ∷ []
rows a (Some b) = row (codes "first") a ∷ row (codes "second") b ∷ []

-- What a parse finds of four words.
abbrev pub four_rows : Bytes → Bytes → Bytes → Bytes → List Row
four_rows a b c d = row (codes "first") a ∷ row (codes "second") b ∷ row (codes "third") c ∷ row (codes "fourth") d ∷ []

-- a subcommand as it is built
abbrev pub leaf : App → Shape
leaf a = built_leaf (inherited (with_leaf_noted (marked_built the_app.top)) a.top)

abbrev h1 : Text → Held
h1 a = record { rows = []; pending = Some (codes "first", a ∷ []); skip = 0 }

abbrev h2 : Text → Text → Held
h2 a b = record { rows = row (codes "first") a ∷ []; pending = Some (codes "second", b ∷ []); skip = 0 }

missing : (ks : Kinds) → ks ≡ kind.MissingRequiredArgument ∷ [] → IsRefused ks
missing ks e = λ b. cc

stray : (ks : Kinds) → ks ≡ kind.UnknownArgument ∷ [] → IsRefused ks
stray ks e = λ b. cc

module _ (name : Text) where
  abbrev pub single : Shape
  single = leaf (one_app name)

  abbrev pub wants_one : List Text → Option (List Row)
  wants_one (a ∷ []) = Some (rows a None)
  wants_one _ = None

  abbrev wants_end : Text → List Text → Option (List Row)
  wants_end a [] = Some (rows a None)
  wants_end a _ = None

  single_free : NoOptions single
  single_free = record { long = λ n. refl; short = λ c. refl }

  single_ends0 : (t : Bool) → Fits single (at nothing_held 1 t) [] None
  unfolding walk_fault defaults_fault
  single_ends0 t = missing (faults_of single (at nothing_held 1 t) []) refl

  single_ends1 : (a : Text) (t : Bool) → Fits single (at (h1 a) 2 t) [] (Some (rows a None))
  unfolding walk_fault defaults_fault
  single_ends1 a t = (refl, refl)

  single_goes0 : (x : Text) (t : Bool) → to_positional single.rules (arg_by_index single.rules 1) x (at nothing_held 1 t) nothing_held ≡ at (h1 x) 2 t
  single_goes0 x true = refl
  single_goes0 x false = refl

  single_split : (x : Text) (us : List Text) → wants_one (x ∷ us) ≡ wants_end x us
  single_split x [] = refl
  single_split x (y ∷ us) = refl

  single_last : (a : Text) → Reads single (h1 a) 2 (wants_end a)
  single_last a = last single (h1 a) 2 (wants_end a) single_free refl (single_ends1 a) (stray _ refl) (λ x us. refl)

  pub single_reads : Reads single nothing_held 1 wants_one
  single_reads = stage single nothing_held 1 wants_one single_free refl single_ends0 h1 wants_end (record { passes = λ x. refl; goes = single_goes0 }) single_split single_last

module _ (name : Text) (needed : Bool) where
  abbrev pub pair : Shape
  pair = leaf (two_app needed name)

  abbrev alone : Bool → Text → Option (List Row)
  alone true a = None
  alone false a = Some (rows a None)

  abbrev pub wants_two : List Text → Option (List Row)
  wants_two [] = None
  wants_two (a ∷ []) = alone needed a
  wants_two (a ∷ b ∷ []) = Some (rows a (Some b))
  wants_two (a ∷ b ∷ c ∷ us) = None

  abbrev wants_second : Text → List Text → Option (List Row)
  wants_second a [] = alone needed a
  wants_second a (b ∷ []) = Some (rows a (Some b))
  wants_second a (b ∷ c ∷ us) = None

  abbrev wants_none : Text → Text → List Text → Option (List Row)
  wants_none a b [] = Some (rows a (Some b))
  wants_none a b _ = None

  pair_free : NoOptions pair
  pair_free = record { long = λ n. refl; short = λ c. refl }

  pair_ends0 : (t : Bool) → Fits pair (at nothing_held 1 t) [] None
  unfolding walk_fault defaults_fault
  pair_ends0 t = missing (faults_of pair (at nothing_held 1 t) []) refl

  pair_ends2 : (a b : Text) (t : Bool) → Fits pair (at (h2 a b) 3 t) [] (Some (rows a (Some b)))
  unfolding walk_fault defaults_fault
  pair_ends2 a b t = by needed
    where
      by : (n : Bool) → Fits (leaf (two_app n name)) (at (h2 a b) 3 t) [] (Some (rows a (Some b)))
      by true = (refl, refl)
      by false = (refl, refl)

  pair_goes0 : (x : Text) (t : Bool) → to_positional pair.rules (arg_by_index pair.rules 1) x (at nothing_held 1 t) nothing_held ≡ at (h1 x) 2 t
  pair_goes0 x true = refl
  pair_goes0 x false = refl

  pair_goes1 : (a x : Text) (t : Bool) → to_positional pair.rules (arg_by_index pair.rules 2) x (at (h1 a) 2 t) (h1 a) ≡ at (h2 a x) 3 t
  pair_goes1 a x true = refl
  pair_goes1 a x false = refl

  pair_split0 : (x : Text) (us : List Text) → wants_two (x ∷ us) ≡ wants_second x us
  pair_split0 x [] = refl
  pair_split0 x (y ∷ []) = refl
  pair_split0 x (y ∷ z ∷ us) = refl

  pair_split1 : (a x : Text) (us : List Text) → wants_second a (x ∷ us) ≡ wants_none a x us
  pair_split1 a x [] = refl
  pair_split1 a x (y ∷ us) = refl

  pair_last : (a b : Text) → Reads pair (h2 a b) 3 (wants_none a b)
  pair_last a b = last pair (h2 a b) 3 (wants_none a b) pair_free refl (pair_ends2 a b) (stray _ refl) (λ x us. refl)

  module _ (ends1 : (a : Text) (t : Bool) → Fits pair (at (h1 a) 2 t) [] (alone needed a)) where
    pair_second : (a : Text) → Reads pair (h1 a) 2 (wants_second a)
    pair_second a = stage pair (h1 a) 2 (wants_second a) pair_free refl (ends1 a) (h2 a) (wants_none a) (record { passes = λ x. refl; goes = pair_goes1 a }) (pair_split1 a) (pair_last a)

    pub pair_reads : Reads pair nothing_held 1 wants_two
    pair_reads = stage pair nothing_held 1 wants_two pair_free refl pair_ends0 h1 wants_second (record { passes = λ x. refl; goes = pair_goes0 }) pair_split0 pair_second

needs_both : (name a : Text) (t : Bool) → Fits (pair name true) (at (h1 a) 2 t) [] None
unfolding walk_fault defaults_fault
needs_both name a t = missing (faults_of (pair name true) (at (h1 a) 2 t) []) refl

needs_one : (name a : Text) (t : Bool) → Fits (pair name false) (at (h1 a) 2 t) [] (Some (rows a None))
unfolding walk_fault defaults_fault
needs_one name a t = (refl, refl)

pub both_read : (name : Text) → Reads (pair name true) nothing_held 1 (wants_two name true)
both_read name = pair_reads name true (needs_both name)

pub one_or_two_read : (name : Text) → Reads (pair name false) nothing_held 1 (wants_two name false)
one_or_two_read name = pair_reads name false (needs_one name)

abbrev h3 : Text → Text → Text → Held
h3 a b c = record { rows = row (codes "first") a ∷ row (codes "second") b ∷ []; pending = Some (codes "third", c ∷ []); skip = 0 }

abbrev h4 : Text → Text → Text → Text → Held
h4 a b c d = record { rows = row (codes "first") a ∷ row (codes "second") b ∷ row (codes "third") c ∷ []; pending = Some (codes "fourth", d ∷ []); skip = 0 }

module _ (name : Text) where
  abbrev pub quad : Shape
  quad = leaf (four_app true name)

  abbrev pub wants_four : List Text → Option (List Row)
  wants_four (a ∷ b ∷ c ∷ d ∷ []) = Some (four_rows a b c d)
  wants_four _ = None

  quad_free : NoOptions quad
  quad_free = record { long = λ n. refl; short = λ c. refl }

  quad_ends0 : (t : Bool) → Fits quad (at nothing_held 1 t) [] None
  unfolding walk_fault defaults_fault
  quad_ends0 t = missing (faults_of quad (at nothing_held 1 t) []) refl

  quad_ends1 : (a : Text) (t : Bool) → Fits quad (at (h1 a) 2 t) [] None
  unfolding walk_fault defaults_fault
  quad_ends1 a t = missing (faults_of quad (at (h1 a) 2 t) []) refl

  quad_ends2 : (a b : Text) (t : Bool) → Fits quad (at (h2 a b) 3 t) [] None
  unfolding walk_fault defaults_fault
  quad_ends2 a b t = missing (faults_of quad (at (h2 a b) 3 t) []) refl

  quad_ends3 : (a b c : Text) (t : Bool) → Fits quad (at (h3 a b c) 4 t) [] None
  unfolding walk_fault defaults_fault
  quad_ends3 a b c t = missing (faults_of quad (at (h3 a b c) 4 t) []) refl

  quad_ends4 : (a b c d : Text) (t : Bool) → Fits quad (at (h4 a b c d) 5 t) [] (Some (four_rows a b c d))
  unfolding walk_fault defaults_fault
  quad_ends4 a b c d t = (refl, refl)

  quad_goes0 : (x : Text) (t : Bool) → to_positional quad.rules (arg_by_index quad.rules 1) x (at nothing_held 1 t) nothing_held ≡ at (h1 x) 2 t
  quad_goes0 x true = refl
  quad_goes0 x false = refl

  quad_goes1 : (a x : Text) (t : Bool) → to_positional quad.rules (arg_by_index quad.rules 2) x (at (h1 a) 2 t) (h1 a) ≡ at (h2 a x) 3 t
  quad_goes1 a x true = refl
  quad_goes1 a x false = refl

  quad_goes2 : (a b x : Text) (t : Bool) → to_positional quad.rules (arg_by_index quad.rules 3) x (at (h2 a b) 3 t) (h2 a b) ≡ at (h3 a b x) 4 t
  quad_goes2 a b x true = refl
  quad_goes2 a b x false = refl

  quad_goes3 : (a b c x : Text) (t : Bool) → to_positional quad.rules (arg_by_index quad.rules 4) x (at (h3 a b c) 4 t) (h3 a b c) ≡ at (h4 a b c x) 5 t
  quad_goes3 a b c x true = refl
  quad_goes3 a b c x false = refl

  quad_fifth : (a b c d : Text) → Reads quad (h4 a b c d) 5 (λ us. wants_four (a ∷ b ∷ c ∷ d ∷ us))
  quad_fifth a b c d = last quad (h4 a b c d) 5 (λ us. wants_four (a ∷ b ∷ c ∷ d ∷ us)) quad_free refl (quad_ends4 a b c d) (stray _ refl) (λ x us. refl)

  quad_fourth : (a b c : Text) → Reads quad (h3 a b c) 4 (λ us. wants_four (a ∷ b ∷ c ∷ us))
  quad_fourth a b c = stage quad (h3 a b c) 4 (λ us. wants_four (a ∷ b ∷ c ∷ us)) quad_free refl (quad_ends3 a b c) (h4 a b c) (λ d us. wants_four (a ∷ b ∷ c ∷ d ∷ us))
      (record { passes = λ x. refl; goes = quad_goes3 a b c }) (λ x us. refl) (quad_fifth a b c)

  quad_third : (a b : Text) → Reads quad (h2 a b) 3 (λ us. wants_four (a ∷ b ∷ us))
  quad_third a b = stage quad (h2 a b) 3 (λ us. wants_four (a ∷ b ∷ us)) quad_free refl (quad_ends2 a b) (h3 a b) (λ c us. wants_four (a ∷ b ∷ c ∷ us))
      (record { passes = λ x. refl; goes = quad_goes2 a b }) (λ x us. refl) (quad_fourth a b)

  quad_second : (a : Text) → Reads quad (h1 a) 2 (λ us. wants_four (a ∷ us))
  quad_second a = stage quad (h1 a) 2 (λ us. wants_four (a ∷ us)) quad_free refl (quad_ends1 a) (h2 a) (λ b us. wants_four (a ∷ b ∷ us))
      (record { passes = λ x. refl; goes = quad_goes1 a }) (λ x us. refl) (quad_third a)

  pub four_read : Reads quad nothing_held 1 wants_four
  four_read = stage quad nothing_held 1 wants_four quad_free refl quad_ends0 h1 (λ a us. wants_four (a ∷ us)) (record { passes = λ x. refl; goes = quad_goes0 }) (λ x us. refl) quad_second
