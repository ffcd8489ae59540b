-- What clap's walk does at one word.
use Rattle.std.proofs.Common.{◌≡◌, ◌≢◌, ℕ, List, [], ◌∷◌, Bool, true, false, Option, Some, None, refl, subst}
use Rattle.std.specs.Str.{chars, IsUtf8}
use Rattle.clap.specs.Lexer.{long_of, short_of}
use Rattle.clap.specs.Walk.{Held, Rule, Walk, Waiting, idle, value, trailing, word_met, subcommand_met, arg_by_long, arg_by_short}
use Rattle.clap.specs.Simple.{Shape}
use Rattle.clap.specs.Kinds.{Kinds, or_else}
use Rattle.clap.specs.Faults.{word_fault, flags_fault}
use Rattle.clap.specs.declared.error.kind.ErrorKind.TheVariants as kind
use Rattle.command_words.proofs.PlainWords.{Text, is_escape, is_dashed}
use Rattle.command_words.proofs.Looks.{plain_long, plain_short, long, short, dashed_looks, first_char}

abbrev pub IsRefused : Kinds → Type 0
IsRefused ks = ks ≢ []

pub refused_first : (k : Kinds) (next : Kinds) → IsRefused k → IsRefused (or_else k next)
refused_first [] next h = absurd (h refl)
refused_first (x ∷ xs) next h = λ e. cc

-- no option at all
pub record NoOptions (s : Shape) : Type 0 where
  pub long : (name : Text) → arg_by_long s.rules name ≡ None
  pub short : (c : ℕ) → arg_by_short s.rules c ≡ None

-- no option by the name that this word has
pub record IsUnknown (s : Shape) (w : Text) : Type 0 where
  pub long : (p : Text × Option Text) → long_of w ≡ Some p → arg_by_long s.rules p.0 ≡ None
  pub short : (c : ℕ) → arg_by_short s.rules c ≡ None

-- a walk between two words
abbrev pub at : Held → ℕ → Bool → Walk
at h position t = record { held = h; waiting = idle; position = position; is_trailing = t; stopped = None }

pub met_trailing : (c : List Rule) (p : ℕ) (w : Text) (h : Held) → word_met c [] true idle p w h ≡ (h, value)
met_trailing c p w h = refl

pub met_plain : (c : List Rule) (p : ℕ) (w : Text) (h : Held) → is_escape w ≡ false → is_dashed w ≡ false → word_met c [] false idle p w h ≡ (h, value)
met_plain c p w h e d = rw (e, plain_long w d, plain_short w d) refl

pub met_escape : (c : List Rule) (p : ℕ) (w : Text) (h : Held) → is_escape w ≡ true → word_met c [] false idle p w h ≡ (h, trailing p)
met_escape c p w h e = rw e refl

pub word_plain : (s : Shape) (w : Text) (h : Held) → is_escape w ≡ false → is_dashed w ≡ false → word_fault s [] false idle w h ≡ []
word_plain s w h e d = rw (e, plain_long w d, plain_short w d) refl

pub word_escape : (s : Shape) (w : Text) (h : Held) → is_escape w ≡ true → word_fault s [] false idle w h ≡ []
word_escape s w h e = rw e refl

module _ (s : Shape) (w : Text) (h : Held) (on : Waiting) (no_name : subcommand_met [] on w ≡ None) (z : h.skip ≡ 0) (e : is_escape w ≡ false) where
  short_refused : (x : ℕ) (rest : Text) → ((c : ℕ) → arg_by_short s.rules c ≡ None) → long_of w ≡ None → short_of w ≡ Some (x ∷ rest) → (c : ℕ) (cs : List ℕ) → chars (x ∷ rest) ≡ c ∷ cs
      → word_fault s [] false on w h ≡ kind.UnknownArgument ∷ []
  unfolding flags_fault
  short_refused x rest free l r c cs k = rw (no_name, e, l, r, z, k, free c) refl

  pub word_unknown : IsUnknown s w → IsUtf8 w → is_dashed w ≡ true → word_fault s [] false on w h ≡ kind.UnknownArgument ∷ []
  word_unknown free u d =
      elim (dashed_looks w e d) [
        | long p l ↦ rw (no_name, e, l, free.long p l) refl
        | short x rest q l r ↦
            let f = first_char x rest (subst IsUtf8 q u) in
            short_refused x rest free.short l r f.0 f.1 f.2
      ]

pub word_dashed : (s : Shape) (w : Text) (h : Held) → NoOptions s → h.skip ≡ 0 → IsUtf8 w → is_escape w ≡ false → is_dashed w ≡ true → word_fault s [] false idle w h ≡ kind.UnknownArgument ∷ []
word_dashed s w h free z u e d = word_unknown s w h idle refl z e (record { long = λ p l. free.long p.0; short = free.short }) u d
