-- The line on the error sink for each status.
use Rattle.std.specs.Prelude.{ℕ, List, [], ◌∷◌, ◌++◌, codes}
use Rattle.std.specs.Fmt.{decimal}
use Rattle.syn_base.specs.Bytes.{Bytes}
use Rattle.syn_base.specs.declared.limits.LimitFault.{LimitFault}
use Rattle.syn_base.specs.Limits.{word_of}
use Rattle.algo_text.specs.Refusals.{AlgoFault}
use Rattle.algo_text.specs.declared.fault.AlgoCause.{AlgoCause}
use Rattle.algo_text.specs.declared.fault.AlgoCause.TheVariants as a
use Rattle.archi_defs.specs.declared.fault.ArchiCause.{ArchiCause}
use Rattle.archi_defs.specs.declared.fault.ArchiCause.TheVariants as h
use Rattle.archi_defs.specs.Refusals.{ArchiFault}
use Rattle.sensor_table.specs.declared.fault.SensorCause.{SensorCause}
use Rattle.sensor_table.specs.declared.fault.SensorCause.TheVariants as s
use Rattle.sensor_table.specs.declared.fault.SensorFault.{SensorFault}
use Rattle.macro_code.specs.declared.fault.CodeCause.{CodeCause}
use Rattle.macro_code.specs.declared.fault.CodeCause.TheVariants as c
use Rattle.macro_code.specs.Refusals.{CodeFault}
use Rattle.check_cause.specs.declared.cause.CheckCause.{CheckCause}
use Rattle.check_cause.specs.declared.cause.CheckCause.TheVariants as k
use Rattle.check_cause.specs.declared.cause.Stop.{Stop}
use Rattle.actual_defs.specs.declared.fault.ActualFault.{ActualFault}
use Rattle.actual_defs.specs.declared.fault.ActualFault.TheVariants as e
use Rattle.command_plan.specs.Bytes.{joined}
use Rattle.command_plan.specs.Faults.{Rose}
use Rattle.command_plan.specs.Sink.{Sunk, Appends, AppendsPrefix}
use Rattle.command_plan.specs.declared.File.{File}
use Rattle.command_plan.specs.declared.File.TheVariants as file
use Rattle.command_status.specs.declared.status.Status.{Status}
use Rattle.command_status.specs.declared.status.Status.TheVariants.{
  Done,
  Usage,
  ReadFault,
  WriteFault,
  AlgoRefused,
  ArchiRefused,
  SensorsRefused,
  CodeRefused,
  CheckRefused,
  ActualRefused,
  Limit,
  OutOfMemory,
}

-- The word by which a line names a file.
abbrev pub file_word : File → Bytes
file_word file.Algorithm = codes "algorithm"
file_word file.Architecture = codes "architecture"
file_word file.Sensors = codes "sensors"
file_word file.Code = codes "code"
file_word file.Durations = codes "durations"

-- The line of a limit that is not kept: which quantity it is, how large it is, and its bound.
abbrev pub limit_line : LimitFault → Bytes
limit_line fault =
    joined (codes "limit " ∷ word_of fault.which ∷ codes ": " ∷ decimal fault.count ∷ codes " above " ∷
    decimal fault.bound ∷ codes "\n" ∷ [])

-- where a text is refused, and for which cause
abbrev pub head : Bytes → ℕ → Bytes → Bytes
head text n word = joined (text ∷ decimal n ∷ codes ": " ∷ word ∷ [])

-- A number after a cause, to the end of the line.
abbrev pub number_line : ℕ → Bytes
number_line n = joined (codes " " ∷ decimal n ∷ codes "\n" ∷ [])

-- Two numbers after a cause, to the end of the line.
abbrev pub counts_line : ℕ → ℕ → Bytes
counts_line n m = joined (codes " " ∷ decimal n ∷ codes " " ∷ decimal m ∷ codes "\n" ∷ [])

-- A word after a cause, to the end of the line.
abbrev pub word_line : Bytes → Bytes
word_line w = joined (codes " " ∷ w ∷ codes "\n" ∷ [])

-- Two names after a cause, to the end of the line.
abbrev pub two_names_line : Bytes → Bytes → Bytes
two_names_line w v = joined (codes " " ∷ w ∷ codes " " ∷ v ∷ codes "\n" ∷ [])

-- Any number of names after a cause, to the end of the line.
abbrev pub names_line : List Bytes → Bytes
names_line [] = codes "\n"
names_line (w ∷ ws) = joined (codes " " ∷ w ∷ []) ++ names_line ws

-- The code and the name of a cause by which an algorithm is refused.
abbrev pub algorithm_word : AlgoCause → Bytes
algorithm_word (a.NotText place) = codes "A1 NotText"
algorithm_word a.BadLine = codes "A2 BadLine"
algorithm_word (a.BadName w) = codes "A3 BadName"
algorithm_word (a.BadNumber w) = codes "A4 BadNumber"
algorithm_word (a.BadExpression place) = codes "A5 BadExpression"
algorithm_word (a.DuplicateName w) = codes "A6 DuplicateName"
algorithm_word (a.UnknownName w) = codes "A7 UnknownName"
algorithm_word (a.WrongLength w) = codes "A8 WrongLength"
algorithm_word (a.Unconnected w) = codes "A9 Unconnected"
algorithm_word (a.TwiceConnected w) = codes "A10 TwiceConnected"
algorithm_word (a.Recursive w) = codes "A11 Recursive"
algorithm_word (a.Cycle ws) = codes "A12 Cycle"
algorithm_word a.NoMain = codes "A13 NoMain"
algorithm_word a.BadCase = codes "A14 BadCase"
algorithm_word (a.Misplaced w) = codes "A15 Misplaced"
algorithm_word a.BadRepeat = codes "A16 BadRepeat"
algorithm_word a.BadDelay = codes "A17 BadDelay"
algorithm_word (a.BadEvery w) = codes "A18 BadEvery"

-- What comes after the name of such a cause, to the end of the line: a place, or the words that are
-- meant, if there are any.
abbrev pub algorithm_detail : AlgoCause → Bytes
algorithm_detail (a.NotText place) = number_line place
algorithm_detail a.BadLine = codes "\n"
algorithm_detail (a.BadName w) = word_line w
algorithm_detail (a.BadNumber w) = word_line w
algorithm_detail (a.BadExpression place) = number_line place
algorithm_detail (a.DuplicateName w) = word_line w
algorithm_detail (a.UnknownName w) = word_line w
algorithm_detail (a.WrongLength w) = word_line w
algorithm_detail (a.Unconnected w) = word_line w
algorithm_detail (a.TwiceConnected w) = word_line w
algorithm_detail (a.Recursive w) = word_line w
algorithm_detail (a.Cycle ws) = names_line ws
algorithm_detail a.NoMain = codes "\n"
algorithm_detail a.BadCase = codes "\n"
algorithm_detail (a.Misplaced w) = word_line w
algorithm_detail a.BadRepeat = codes "\n"
algorithm_detail a.BadDelay = codes "\n"
algorithm_detail (a.BadEvery w) = word_line w

-- The line of the refusal of an algorithm, with the number of the line of its text.
abbrev pub algorithm_line : AlgoFault → Bytes
algorithm_line fault =
    head (codes "algorithm line ") fault.line (algorithm_word fault.cause) ++ algorithm_detail fault.cause

-- The code and the name of a cause by which an architecture is refused.
abbrev pub architecture_word : ArchiCause → Bytes
architecture_word (h.NotText place) = codes "H1 NotText"
architecture_word h.BadLine = codes "H2 BadLine"
architecture_word (h.BadName w) = codes "H3 BadName"
architecture_word (h.BadNumber w) = codes "H4 BadNumber"
architecture_word (h.DuplicateName w) = codes "H5 DuplicateName"
architecture_word (h.UnknownName w) = codes "H6 UnknownName"
architecture_word (h.BadMedium w) = codes "H7 BadMedium"
architecture_word h.NoOperator = codes "H8 NoOperator"
architecture_word (h.Disconnected w v) = codes "H9 Disconnected"
architecture_word (h.NoDuration w) = codes "H11 NoDuration"

-- What comes after the name of such a cause, to the end of the line: a place, or the words that are
-- meant, if there are any.
abbrev pub architecture_detail : ArchiCause → Bytes
architecture_detail (h.NotText place) = number_line place
architecture_detail h.BadLine = codes "\n"
architecture_detail (h.BadName w) = word_line w
architecture_detail (h.BadNumber w) = word_line w
architecture_detail (h.DuplicateName w) = word_line w
architecture_detail (h.UnknownName w) = word_line w
architecture_detail (h.BadMedium w) = word_line w
architecture_detail h.NoOperator = codes "\n"
architecture_detail (h.Disconnected w v) = two_names_line w v
architecture_detail (h.NoDuration w) = word_line w

-- of an architecture, or of the durations that really occur
abbrev pub described_line : Bytes → ArchiFault → Bytes
described_line text fault = head text fault.line (architecture_word fault.cause) ++ architecture_detail fault.cause

-- The code and the name of a cause by which a sensor table is refused.
abbrev pub sensors_word : SensorCause → Bytes
sensors_word s.BadHeader = codes "S1 BadHeader"
sensors_word (s.BadCount found wanted) = codes "S2 BadCount"
sensors_word s.BadIndex = codes "S3 BadIndex"
sensors_word (s.BadNumber column) = codes "S4 BadNumber"

-- What comes after the name of such a cause, to the end of the line: the numbers of fields that
-- were found and wanted, or the column, if there are any.
abbrev pub sensors_detail : SensorCause → Bytes
sensors_detail s.BadHeader = codes "\n"
sensors_detail (s.BadCount found wanted) = counts_line found wanted
sensors_detail s.BadIndex = codes "\n"
sensors_detail (s.BadNumber column) = number_line column

-- The line of the refusal of a sensor table, with the number of its row.
abbrev pub sensors_line : SensorFault → Bytes
sensors_line fault = head (codes "sensors row ") fault.row (sensors_word fault.cause) ++ sensors_detail fault.cause

-- The code and the name of a cause by which a text of macro-code is refused.
abbrev pub code_word : CodeCause → Bytes
code_word c.BadLine = codes "C1 BadLine"
code_word (c.UnknownMacro w) = codes "C2 UnknownMacro"
code_word c.BadArgument = codes "C3 BadArgument"
code_word (c.UnknownName w) = codes "C4 UnknownName"

-- What comes after the name of such a cause, to the end of the line: the word that is not known, if
-- there is one.
abbrev pub code_detail : CodeCause → Bytes
code_detail c.BadLine = codes "\n"
code_detail (c.UnknownMacro w) = word_line w
code_detail c.BadArgument = codes "\n"
code_detail (c.UnknownName w) = word_line w

-- The line of the refusal of a text of macro-code, with the number of the line of the text.
abbrev pub code_line : CodeFault → Bytes
code_line fault = head (codes "code line ") fault.line (code_word fault.cause) ++ code_detail fault.cause

-- a sequence that is not at its end, and the place of its next instruction
abbrev pub stop_text : Stop → Bytes
stop_text y = joined (codes " " ∷ decimal y.sequence ∷ codes "." ∷ decimal y.at ∷ [])

-- The sequences that are not at their ends, each with the place of its next instruction, to the end
-- of the line.
abbrev pub stops_line : List Stop → Bytes
stops_line [] = codes "\n"
stops_line (y ∷ ys) = stop_text y ++ stops_line ys

-- The code and the name of a cause by which the check of a program fails.
abbrev pub check_word : CheckCause → Bytes
check_word k.Sequences = codes "K1 Sequences"
check_word k.Calls = codes "K2 Calls"
check_word k.Transfers = codes "K3 Transfers"
check_word k.Buffers = codes "K4 Buffers"
check_word k.Pairs = codes "K5 Pairs"
check_word k.Prologue = codes "K6 Prologue"
check_word (k.Stuck ys) = codes "K7 Stuck"

-- What comes after the name of such a cause, to the end of the line: the sequences that are not at
-- their ends, if the loops wait for each other.
abbrev pub check_detail : CheckCause → Bytes
check_detail k.Sequences = codes "\n"
check_detail k.Calls = codes "\n"
check_detail k.Transfers = codes "\n"
check_detail k.Buffers = codes "\n"
check_detail k.Pairs = codes "\n"
check_detail k.Prologue = codes "\n"
check_detail (k.Stuck ys) = stops_line ys

-- The line of a failed check, up to the end of the name of its cause.
abbrev pub check_head : Bytes → Bytes
check_head word = joined (codes "code check: " ∷ word ∷ [])

-- The line of a program that fails its check for this cause.
abbrev pub check_line : CheckCause → Bytes
check_line cause = check_head (check_word cause) ++ check_detail cause

-- A line that is this text and then a name.
abbrev pub named_line : Bytes → Bytes → Bytes
named_line text w = joined (text ∷ w ∷ codes "\n" ∷ [])

-- The line of the refusal of a text of actual durations, with the number of the line only if the
-- text itself is wrong.
abbrev pub durations_line : ActualFault → Bytes
durations_line (e.Text fault) = described_line (codes "durations line ") fault
durations_line e.Differs = codes "durations: E1 Differs\n"
durations_line (e.Longer w) = named_line (codes "durations: E2 Longer ") w
durations_line (e.Missing w) = named_line (codes "durations: E3 Missing ") w

-- the line of a status: none where it is Done
abbrev pub line_of : Status → Bytes
line_of Done = []
line_of Usage = codes "usage\n"
line_of (ReadFault f) = joined (codes "cannot read " ∷ file_word f ∷ codes "\n" ∷ [])
line_of WriteFault = codes "cannot write\n"
line_of (AlgoRefused fault) = algorithm_line fault
line_of (ArchiRefused fault) = described_line (codes "architecture line ") fault
line_of (SensorsRefused fault) = sensors_line fault
line_of (CodeRefused fault) = code_line fault
line_of (CheckRefused cause) = check_line cause
line_of (ActualRefused fault) = durations_line fault
line_of (Limit fault) = limit_line fault
line_of OutOfMemory = codes "out of memory\n"

-- what is appended to the error sink: a prefix of the line, and all of it where no call on the sink failed
pub record Said (line : Bytes) (old new : Sunk) : Type 0 where
  pub prefix : AppendsPrefix old new line
  pub whole : ¬ Rose old.faults new.faults → Appends old new line
