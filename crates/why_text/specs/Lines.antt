-- In which lines of a text of macro-code the instructions of its program stand.
use Rattle.std.specs.Prelude.{
  ℕ,
  ◌+◌,
  Bool,
  true,
  false,
  ◌||◌,
  cond,
  List,
  [],
  ◌∷◌,
  ◌++◌,
  codes,
  Option,
  Some,
  None,
  slice_get,
}
use Rattle.std.specs.Str.{bytes_eq}
use Rattle.syn_base.specs.Bytes.{Bytes}
use Rattle.text_lines.specs.Text.{code_of, lines_of, words_of}
use Rattle.macro_code.specs.Forms.{before, is_open}
use Rattle.check_places.specs.declared.place.Part.{Part}
use Rattle.check_places.specs.declared.place.Part.TheVariants as part
use Rattle.check_places.specs.declared.place.Spot.{Spot}
use Rattle.why_text.specs.declared.lines.Head.{Head}
use Rattle.why_text.specs.declared.lines.Head.TheVariants.{Begin, Loop, Instruction, EndThread, EndMain, Other}
use Rattle.why_text.specs.declared.lines.SequenceLines.{SequenceLines}
use Rattle.executive_program.specs.Instructions.{number_or}

-- The name is that of a macro that is an instruction of a sequence: a call, a change of a semaphore
-- or a communication.
abbrev pub is_instruction : Bytes → Bool
is_instruction w =
    bytes_eq w (codes "op") || bytes_eq w (codes "Suc0_") || bytes_eq w (codes "Suc1_") ||
    bytes_eq w (codes "Pre0_") || bytes_eq w (codes "Pre1_") || bytes_eq w (codes "send_") ||
    bytes_eq w (codes "recv_") || bytes_eq w (codes "sync_")

-- what a line is that begins with this name
abbrev pub head_of : Bytes → Head
head_of w =
    cond (bytes_eq w (codes "thread_") || bytes_eq w (codes "main_")) Begin
    (cond (bytes_eq w (codes "loop_")) Loop
    (cond (is_instruction w) Instruction
    (cond (bytes_eq w (codes "endthread_")) EndThread
    (cond (bytes_eq w (codes "endmain_")) EndMain Other))))

-- by the first of its words, up to a parenthesis
abbrev pub head_in : List Bytes → Head
head_in [] = Other
head_in (w ∷ ws) = head_of (before is_open w)

-- What a line of the text is, by its first word up to a parenthesis. A comment does not count.
abbrev pub head_at : Bytes → Head
head_at line = head_in (words_of (code_of line))

-- What was seen so far: whether a loop has begun, the sequence that began last, the threads that ended of the
-- processor that has not, and the sequences of those that have.
pub record Seen : Type 0 where
  pub in_loop : Bool
  pub here : SequenceLines
  pub threads : List SequenceLines
  pub done : List SequenceLines

-- The lines of a sequence that begins at line n and has no instruction so far.
abbrev pub begun_at : ℕ → SequenceLines
begun_at n = record { begin = n; prologue = []; turn = [] }

-- What was seen before the first line: no sequence has begun, and no loop.
abbrev pub nothing : Seen
nothing = record { in_loop = false; here = begun_at 0; threads = []; done = [] }

-- an instruction more at line n, inside the loop or before it
abbrev pub with_line : Seen → ℕ → Seen
with_line w n =
    cond w.in_loop (record w { here = record w.here { turn = w.here.turn ++ n ∷ [] } })
    (record w { here = record w.here { prologue = w.here.prologue ++ n ∷ [] } })

-- Line n. Of a processor the main part comes first, and then its threads.
abbrev pub seen : Seen → ℕ → Head → Seen
seen w n Begin = record w { in_loop = false; here = begun_at n }
seen w n Loop = record w { in_loop = true }
seen w n Instruction = with_line w n
seen w n EndThread = record w { here = begun_at 0; threads = w.threads ++ w.here ∷ [] }
seen w n EndMain = record w { here = begun_at 0; threads = []; done = w.done ++ (w.here ∷ w.threads) }
seen w n Other = w

-- What has been seen after these lines, the first of which is line n.
abbrev pub seen_from : Seen → ℕ → List Bytes → Seen
seen_from w n [] = w
seen_from w n (line ∷ lines) = seen_from (seen w n (head_at line)) (n + 1) lines

-- the lines of each sequence of a text, in the order of its program
abbrev pub lines_in : Bytes → List SequenceLines
lines_in text = (seen_from nothing 1 (lines_of text)).done

-- The numbers of the lines with the instructions of this part of a sequence, in their order.
abbrev pub lines_of_part : Part → SequenceLines → List ℕ
lines_of_part part.Prologue x = x.prologue
lines_of_part part.Loop x = x.turn

-- the line of an instruction; that at which its sequence begins where it is past the last one
abbrev pub line_by : Spot → Option SequenceLines → Option ℕ
line_by y None = None
line_by y (Some x) = Some (number_or x.begin (slice_get (lines_of_part y.part x) y.at))

-- The number of the line, counted from 1, that has the instruction at this spot. It is the first
-- line of the sequence if the spot is past its last instruction, and None if there is no such
-- sequence.
abbrev pub line_at : List SequenceLines → Spot → Option ℕ
line_at all y = line_by y (slice_get all y.sequence)
