-- That the lines which are found say the instructions of the program.
use Rattle.std.specs.Prelude.{
  ◌≡◌,
  ℕ,
  ◌+◌,
  cond,
  List,
  [],
  ◌∷◌,
  ◌++◌,
  length,
  Option,
  Some,
  None,
  Result,
  Ok,
  slice_get,
}
use Rattle.syn_base.specs.Bytes.{Bytes}
use Rattle.text_lines.specs.Text.{lines_of}
use Rattle.executive_program.specs.Graph.{Graph}
use Rattle.executive_program.specs.Archi.{Architecture}
use Rattle.executive_program.specs.declared.program.Instr.{Instr}
use Rattle.executive_program.specs.declared.program.Program.{Program}
use Rattle.macro_code.specs.Refusals.{CodeRefusal}
use Rattle.macro_code.specs.ReadText.{
  Reading,
  is_turn,
  next_line,
  operation_names,
  program_in,
  start,
  with_instr,
}
use Rattle.text_lines.specs.Refusals.{and_then}
use Rattle.check_places.specs.declared.place.Part.{Part}
use Rattle.check_places.specs.declared.place.Part.TheVariants.{Loop, Prologue}
use Rattle.check_places.specs.declared.place.Spot.{Spot}
use Rattle.check_places.specs.Wrong.{instructions}
use Rattle.why_text.specs.Lines.{line_at, lines_in}

-- The spot of instruction i of this part of sequence s.
abbrev pub spot : Part → ℕ → ℕ → Spot
spot part s i = record { part = part; sequence = s; at = i }

-- The number of the sequence that began last: of a processor the main part comes first, and then its threads.
abbrev pub number_by : Option ℕ → ℕ → ℕ → ℕ
number_by None seqs threads = seqs
number_by (Some m) seqs threads = seqs + 1 + threads

-- The number, in the program, of the sequence that is being read.
abbrev pub number_here : Reading → ℕ
number_here r = number_by r.medium (length r.seqs) (length r.threads)

-- the place of the next instruction
abbrev pub next_spot : Reading → Spot
next_spot r =
    cond (is_turn r.stage) (spot Loop (number_here r) (length r.turn))
    (spot Prologue (number_here r) (length r.prologue))

module _ (text : Bytes) (g : Graph) (a : Architecture) where
  -- what is read of these lines, the first of which is line n
  abbrev pub read_of : Reading → ℕ → List Bytes → Result Reading CodeRefusal
  read_of r n [] = Ok r
  read_of r n (line ∷ lines) =
      and_then (next_line (operation_names g) a r n line) (λ after. read_of after (n + 1) lines)

  -- Line n of the text: after all that is above it, it adds this instruction at this place.
  pub record Says (n : ℕ) (y : Spot) (x : Instr) : Type 0 where
    pub above : List Bytes
    pub line : Bytes
    pub below : List Bytes
    pub whole : above ++ (line ∷ below) ≡ lines_of text
    pub number : n ≡ length above + 1
    pub before : Reading
    pub read : read_of start 1 above ≡ Ok before
    pub adds : next_line (operation_names g) a before n line ≡ Ok (with_instr before x)
    pub place : next_spot before ≡ y

-- the line of each instruction of the program of a text says it
abbrev pub LinesSay : Type 0
LinesSay =
    (text : Bytes) (g : Graph) (a : Architecture) (p : Program) → program_in text g a ≡ Ok p →
    (y : Spot) (x : Instr) → slice_get (instructions p y.part y.sequence) y.at ≡ Some x →
    (n : ℕ) × (line_at (lines_in text) y ≡ Some n) × Says text g a n y x
