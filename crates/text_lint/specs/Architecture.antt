-- What is accepted in the text of an architecture and probably not meant, beside an algorithm.
use Rattle.std.specs.Prelude.{
  ℕ,
  suc,
  Bool,
  true,
  false,
  not,
  ◌&&◌,
  ◌==◌,
  List,
  [],
  ◌∷◌,
  ◌++◌,
  Option,
  Some,
  None,
  is_some,
  slice_get,
  slice_index_or,
  if◌then◌else◌,
  codes,
}
use Rattle.std.specs.List.{list_any}
use Rattle.syn_base.specs.Bytes.{Bytes}
use Rattle.algo_rules.specs.Among.{is_among}
use Rattle.algo_rules.specs.declared.Def.{Def}
use Rattle.algo_rules.specs.declared.Body.{Body}
use Rattle.algo_rules.specs.declared.Body.TheVariants.{Sensor, Actuator, Function}
use Rattle.algo_rules.specs.Links.{definition}
use Rattle.archi_defs.specs.Text.{Described}
use Rattle.archi_defs.specs.declared.text.DurationLine.{DurationLine}
use Rattle.text_lint.specs.Named.{named_in}
use Rattle.text_lint.specs.Numbered.{numbers_of}
use Rattle.text_lint.specs.declared.finding.Finding.{Finding}
use Rattle.text_lint.specs.declared.finding.Finding.TheVariants.{IdleDuration, IdleOperator}
use Rattle.text_lint.specs.declared.finding.Why.{Why}
use Rattle.text_lint.specs.declared.finding.Why.TheVariants.{Unknown, Timeless, Unused}

-- Sensors, actuators and functions take time; all else takes none, or is taken apart.
abbrev pub is_timed : Body → Bool
is_timed (Sensor n) = true
is_timed (Actuator n) = true
is_timed (Function ins outs) = true
is_timed _ = false

-- Why a duration of this name changes nothing, where it does not.
abbrev pub why_of : List Def → Bytes → Option Def → Option Why
why_of ds name None = Some Unknown
why_of ds name (Some d) =
    if not (is_timed d.body) then Some Timeless else
    if is_among name (named_in ds) then None else
    Some Unused

-- Why a duration of the definition of this name changes nothing; none if it changes something.
abbrev pub why_idle : List Def → Bytes → Option Why
why_idle ds name = why_of ds name (definition ds name)

-- 5. A duration that changes nothing, at the line of this number.
abbrev pub idle_duration : ℕ → Bytes → Option Why → Option Bytes → List Finding
idle_duration n def None operator = []
idle_duration n def (Some why) None = []
idle_duration n def (Some why) (Some operator) = IdleDuration n def operator why ∷ []

-- The finding that this duration, whose line has the number n, changes nothing, if that is so.
abbrev pub duration_by : List Def → List Bytes → ℕ → DurationLine → List Finding
duration_by ds operators n line =
    idle_duration n line.def (why_idle ds line.def) (slice_get operators line.operator)

-- The findings of these durations, of which the first has number i, by the numbers of their lines.
abbrev pub durations_from : List Def → List Bytes → List ℕ → ℕ → List DurationLine → List Finding
durations_from ds operators numbers i [] = []
durations_from ds operators numbers i (line ∷ lines) =
    duration_by ds operators (slice_index_or numbers i 0) line ++
    durations_from ds operators numbers (suc i) lines

-- 6. Operators on which no duration that changes something lets anything stand.

-- The line gives a duration on operator o, and that changes something.
abbrev pub lets_stand : List Def → ℕ → DurationLine → Bool
lets_stand ds o line = (line.operator == o) && not (is_some (why_idle ds line.def))

-- The finding that operator o is idle, if no duration on it changes something. The lines of all
-- operators have these numbers.
abbrev pub operator_by : List Def → List DurationLine → List ℕ → ℕ → Bytes → List Finding
operator_by ds lines numbers o name =
    if list_any (lets_stand ds o) lines then [] else
    IdleOperator (slice_index_or numbers o 0) name ∷ []

-- The findings of these operators, of which the first has number o.
abbrev pub operators_from : List Def → List DurationLine → List ℕ → ℕ → List Bytes → List Finding
operators_from ds lines numbers o [] = []
operators_from ds lines numbers o (name ∷ names) =
    operator_by ds lines numbers o name ++ operators_from ds lines numbers (suc o) names

-- All of them, where `text` is the text of the architecture: kind by kind, and each kind in the
-- order of the text.
abbrev pub architecture_findings : List Def → Bytes → Described → List Finding
architecture_findings ds text d =
    durations_from ds d.archi.operators (numbers_of (codes "duration") text) 0 d.durations ++
    operators_from ds d.durations (numbers_of (codes "operator") text) 0 d.archi.operators
