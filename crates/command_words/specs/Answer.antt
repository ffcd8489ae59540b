-- What `clap` answers.
use Rattle.std.specs.Prelude.{◌≡◌, Bool, true, false, List, Option, Some, None, option_map, codes}
use Rattle.clap.specs.Walk.{Row, first_of}
use Rattle.clap.specs.declared.error.kind.ErrorKind.{ErrorKind}
use Rattle.clap.specs.declared.error.kind.ErrorKind.TheVariants as kind
use Rattle.syn_base.specs.Bytes.{Bytes}
use Rattle.command_words.specs.Command.{Command, command_of}
use Rattle.command_words.specs.Plain.{plain_words, command_named}
use Rattle.command_words.specs.declared.given.Given.{Given}

abbrev pub wants_memory : ErrorKind → Bool
wants_memory kind.OutOfMemory = true
wants_memory _ = false

-- the rows have these plain arguments and this text as workers
pub record Tells (rs : List Row) (a : Bytes) (b c d w : Option Bytes) : Type 0 where
  pub first : first_of (codes "first") rs ≡ Some a
  pub second : first_of (codes "second") rs ≡ b
  pub third : first_of (codes "third") rs ≡ c
  pub fourth : first_of (codes "fourth") rs ≡ d
  pub workers : first_of (codes "workers") rs ≡ w

-- the command of what was found: the one of its name, with its arguments
abbrev pub command_given : Given → Option Command
command_given g =
    command_named g.name.now (plain_words g.first.now (option_map (λ w. w.now) g.second)
    (option_map (λ w. w.now) g.third) (option_map (λ w. w.now) g.fourth)) (option_map (λ w. w.now) g.workers)

-- the words' command is that of what was found, and where nothing was there is no command
abbrev pub Gives : List Bytes → Option Given → Type 0
Gives words None = command_of words ≡ None
Gives words (Some g) = command_of words ≡ command_given g

-- what was found is this name with these arguments
abbrev pub Is : Bytes → Bytes → Option Bytes → Option Bytes → Option Bytes → Option Bytes → Given → Type 0
Is name a b c d w g =
    (g.name.now ≡ name) × (g.first.now ≡ a) × (option_map (λ t. t.now) g.second ≡ b) ×
    (option_map (λ t. t.now) g.third ≡ c)
    × (option_map (λ t. t.now) g.fourth ≡ d) × (option_map (λ t. t.now) g.workers ≡ w)
