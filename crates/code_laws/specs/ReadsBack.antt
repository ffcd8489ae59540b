-- What was printed reads back as the same program.
use Rattle.std.specs.Prelude.{◌≡◌, ℕ, IsTrue, length, Option, None, Ok}
use Rattle.std.specs.List.{list_all}
use Rattle.syn_base.specs.Name.{is_name}
use Rattle.sequence_build_laws.specs.Graph.{Graph}
use Rattle.sequence_build_laws.specs.FlatValid.{is_flat}
use Rattle.sequence_build_laws.specs.Archi.{Architecture, is_archi, is_depth, names_of}
use Rattle.sequence_build_laws.specs.Sequences.{sequences}
use Rattle.sequence_build_laws.specs.declared.Schedule.{Schedule}
use Rattle.sequence_build_laws.specs.ScheduleValid.{is_valid}
use Rattle.sequence_build_laws.specs.declared.Program.{Program}
use Rattle.sequence_build_laws.specs.WellFormed.{IsWellFormed}
use Rattle.sequence_build_laws.specs.Text.{Described, description_of}
use Rattle.sequence_build_laws.specs.Built.{program_of}
use Rattle.sequence_build.specs.Limit.{program_limit}
use Rattle.syn_base.specs.Bytes.{Bytes}
use Rattle.macro_code.specs.Text.{macro_code}
use Rattle.macro_code.specs.ReadText.{program_in}

-- the text of the program says this program
abbrev pub ReadsBack : Program → Graph → Architecture → Type 0
ReadsBack p g a = program_in (macro_code p g a) g a ≡ Ok p

-- A valid architecture whose operators and media have names, as texts write them.
pub record IsNamedArchi (a : Architecture) : Type 0 where
  pub valid : IsTrue (is_archi a.operators a.media)
  pub named : IsTrue (list_all is_name (names_of a.operators a.media))

-- The flat graph is valid, so that each operation has a name of its own; the limits hold, as they do for a text.
abbrev pub WellFormedReadBack : Type 0
WellFormedReadBack = (p : Program) (g : Graph) (a : Architecture)
    → IsTrue (is_flat g) → IsNamedArchi a → IsWellFormed p g (sequences a) (length a.media) →
    program_limit p (length a.media) ≡ None
    → ReadsBack p g a

-- the program of a schedule that is valid for some durations
abbrev pub BuiltReadBack : Type 0
BuiltReadBack = (g : Graph) (a : Architecture) (ticks : ℕ → ℕ → Option ℕ) (s : Schedule)
    → IsTrue (is_flat g) → IsNamedArchi a → IsTrue (is_depth a.depth) → IsTrue (is_valid g a ticks s) →
    program_limit (program_of g a s) (length a.media) ≡ None
    → ReadsBack (program_of g a s) g a

-- on an architecture that a text describes
abbrev pub DescribedReadBack : Type 0
DescribedReadBack = (text : Bytes) (d : Described) (g : Graph) (ticks : ℕ → ℕ → Option ℕ) (s : Schedule)
    → description_of text ≡ Ok d → IsTrue (is_flat g) → IsTrue (is_valid g d.archi ticks s) →
    program_limit (program_of g d.archi s) (length d.archi.media) ≡ None
    → ReadsBack (program_of g d.archi s) g d.archi
