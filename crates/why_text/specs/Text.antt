-- The text of why a program is refused.
use Rattle.std.specs.Prelude.{
  ℕ,
  List,
  [],
  ◌++◌,
  map,
  codes,
  Option,
  Some,
  None,
  slice_get,
}
use Rattle.std.specs.Fmt.{decimal}
use Rattle.std.specs.List.{flat_map}
use Rattle.syn_base.specs.Bytes.{Bytes}
use Rattle.executive_program.specs.Graph.{Graph}
use Rattle.executive_program.specs.Archi.{Architecture}
use Rattle.executive_program.specs.Sequences.{sequences}
use Rattle.executive_program.specs.declared.Seq.{Seq}
use Rattle.executive_program.specs.declared.program.Program.{Program}
use Rattle.macro_code.specs.Text.{Names, medium_name, operation_name, operator_name}
use Rattle.check_laws.specs.Tests.{
  Cause,
  sequences_differ,
  calls_wrong,
  transfers_wrong,
  buffers_wrong,
  pairs_wrong,
  prologue_wrong,
  stuck_at,
}
use Rattle.check_places.specs.declared.place.Part.TheVariants.{Loop}
use Rattle.check_places.specs.declared.place.Place.{Place}
use Rattle.check_places.specs.declared.place.Rule.{Rule}
use Rattle.check_places.specs.declared.place.Rule.TheVariants as rule
use Rattle.check_places.specs.declared.place.Spot.{Spot}
use Rattle.check_places.specs.declared.place.Subject.{Subject}
use Rattle.check_places.specs.declared.place.Subject.TheVariants as subject
use Rattle.check_places.specs.declared.place.Waiting.{Waiting}
use Rattle.check_places.specs.declared.place.Why.{Why}
use Rattle.check_places.specs.declared.place.Why.TheVariants.{Breaks, Stuck}
use Rattle.check_places.specs.Shown.{cause_of}
use Rattle.why_text.specs.declared.lines.SequenceLines.{SequenceLines}
use Rattle.why_text.specs.Lines.{line_at, lines_in}

-- The code and the name of a cause, as `syndex exec` reports it.
abbrev pub cause_words : Cause → Bytes
cause_words sequences_differ = codes "K1 Sequences"
cause_words calls_wrong = codes "K2 Calls"
cause_words transfers_wrong = codes "K3 Transfers"
cause_words buffers_wrong = codes "K4 Buffers"
cause_words pairs_wrong = codes "K5 Pairs"
cause_words prologue_wrong = codes "K6 Prologue"
cause_words (stuck_at places) = codes "K7 Stuck"

-- the rule, as the manual has it
abbrev pub rule_words : Rule → Bytes
rule_words rule.OtherSequence = codes "the main parts and threads are those of the architecture, in its order"
rule_words rule.MissingName = codes "what a line names is there"
rule_words rule.NotCalled = codes "each operation is called once, and this one is not"
rule_words rule.CalledAgain = codes "each operation is called once, and this one again"
rule_words rule.CalledInThread = codes "each operation is called in a loop of a main part"
rule_words rule.GetNotBeforeSet = codes "both halves of a delay are called in one main part, get before set"
rule_words rule.OutsideThread = codes "transfers stand in loops of threads alone"
rule_words rule.UnknownMedium = codes "each thread is at a medium"
rule_words rule.UnequalTransfers = codes "the threads of a medium have equally many transfers"
rule_words rule.NotSent = codes "each transfer is sent by one thread, and this one by none"
rule_words rule.NotReceived = codes "each transfer is received by one thread, and this one by none"
rule_words rule.SentElsewhere = codes "each transfer is sent to the processor that receives it"
rule_words rule.ReceivedElsewhere = codes "each transfer is received from the processor that sends it"
rule_words rule.NotAwaited = codes "all other threads wait for each transfer, with its two processors"
rule_words rule.NotWritten = codes "each buffer is written once, and this one is not"
rule_words rule.WrittenAgain = codes "each buffer is written once, and this one again"
rule_words rule.TouchedElsewhere = codes "each buffer is touched on its own processor alone"
rule_words rule.ReadTooEarly = codes "in its writer's loop each buffer is read after it is written"
rule_words rule.WrongPlaces = codes "each buffer has one place where no other loop of its processor reads it"
rule_words rule.NotMade = codes "each buffer comes from a call in the end"
rule_words rule.UnequalInputs = codes "each call reads one buffer for each value that its operation takes"
rule_words rule.OtherInput =
    codes "each buffer that a call reads has the length and the value that its operation takes"
rule_words rule.UnequalOutputs = codes "each call writes one buffer for each value that its operation gives"
rule_words rule.OtherOutput =
    codes "each buffer that a call writes has the length and the value that its operation gives"
rule_words rule.UnequalLengths = codes "each buffer that is received has the length of the one that is sent"
rule_words rule.OtherValue = codes "each buffer that is received has the value of the one that is sent"
rule_words rule.MissingPair = codes "there is one pair for each buffer and each other loop that reads it"
rule_words rule.PairElsewhere = codes "each pair is on its buffer's processor, by buffer and then by loop"
rule_words rule.EmptyNotTaken = codes "the writer takes Suc0_ once, before it writes"
rule_words rule.FullNotSignalled = codes "the writer gives Pre1_ once, after it writes"
rule_words rule.FullNotTaken = codes "the reader takes Suc1_ once, before its reads"
rule_words rule.EmptyNotSignalled = codes "the reader gives Pre0_ once, after its reads"
rule_words rule.FurtherPair = codes "there is no more than one pair for each buffer and each other loop that reads it"
rule_words rule.MissingSignal =
    codes "before a loop stands Pre0_ of each pair that it reads by, once for each place, by number"
rule_words rule.FurtherLine = codes "before a loop stands nothing but Pre0_ of the pairs that it reads by"

module _ (n : Names) where
  -- The word `main` for a main part, and the name of the medium for a thread.
  abbrev pub part_name : Option ℕ → Bytes
  part_name None = codes "main"
  part_name (Some m) = medium_name n m

  -- a processor, and its main part or the medium of a thread
  abbrev pub sequence_text : Option Seq → Bytes
  sequence_text None = codes "nothing"
  sequence_text (Some x) = operator_name n x.operator ++ (codes " " ++ part_name x.medium)

-- what names stand for, the sequences of the program and those of the architecture, and the lines of the text
pub record Setting : Type 0 where
  pub names : Names
  pub found : List Seq
  pub expected : List Seq
  pub lines : List SequenceLines

-- The words `line N: ` for line N of the text of macro-code, and nothing if there is no line.
abbrev pub number_text : Option ℕ → Bytes
number_text None = []
number_text (Some line) = codes "line " ++ (decimal line ++ codes ": ")

module _ (x : Setting) where
  -- The processor and the part of sequence s of the program, and `nothing` if the program has no
  -- sequence s.
  abbrev pub found_text : ℕ → Bytes
  found_text s = sequence_text x.names (slice_get x.found s)

  -- The processor and the part of sequence s of the architecture, and `nothing` if the architecture
  -- has no sequence s.
  abbrev pub expected_text : ℕ → Bytes
  expected_text s = sequence_text x.names (slice_get x.expected s)

  -- what a rule asks something of
  abbrev pub subject_text : Subject → Bytes
  subject_text (subject.Expected s) =
      codes "sequence " ++
      (decimal s ++ (codes ": found " ++ (found_text s ++ (codes ", expected " ++ expected_text s))))
  subject_text (subject.Sequence s) = codes "sequence " ++ (decimal s ++ (codes ": " ++ found_text s))
  subject_text (subject.Operation v) = codes "operation " ++ operation_name x.names v
  subject_text (subject.Input v k) = codes "input " ++ (decimal k ++ (codes " of " ++ operation_name x.names v))
  subject_text (subject.Output v k) = codes "output " ++ (decimal k ++ (codes " of " ++ operation_name x.names v))
  subject_text (subject.Buffer b) = codes "buffer b" ++ decimal b
  subject_text (subject.Pair q) = codes "pair " ++ decimal q
  subject_text (subject.Transfer m t) = codes "transfer " ++ (decimal t ++ (codes " of " ++ medium_name x.names m))

  -- the line of an instruction, with its sequence
  abbrev pub spot_text : Spot → Bytes
  spot_text y = number_text (line_at x.lines y) ++ found_text y.sequence

  -- The line with the place of an instruction, and nothing if there is no instruction.
  abbrev pub spot_line : Option Spot → Bytes
  spot_line None = []
  spot_line (Some y) = spot_text y ++ codes "\n"

  -- The words for the instruction that is waited for, and nothing if there is none.
  abbrev pub awaited_text : Option Spot → Bytes
  awaited_text None = []
  awaited_text (Some y) = codes " waits for " ++ spot_text y

  -- The line for a loop that is not at its end: its next instruction, and the one for which it
  -- waits.
  abbrev pub waiting_line : Waiting → Bytes
  waiting_line w =
      spot_text (record { part = Loop; sequence = w.sequence; at = w.at }) ++ (awaited_text w.awaits ++ codes "\n")

  -- the cause, the rule, of what it is asked, and where
  abbrev pub place_text : Place → Bytes
  place_text y =
      cause_words (cause_of y.rule) ++
      (codes "\n" ++
      (rule_words y.rule ++ (codes "\n" ++ (subject_text y.subject ++ (codes "\n" ++ spot_line y.spot)))))

  -- where there is no serial order, what each sequence waits for that is not at its end
  abbrev pub why_text : Why → Bytes
  why_text (Breaks y) = place_text y
  why_text (Stuck ws) = cause_words (stuck_at []) ++ (codes "\n" ++ flat_map waiting_line ws)

  -- a program of which there is none is well formed
  abbrev pub answer_text : Option Why → Bytes
  answer_text None = codes "well formed\n"
  answer_text (Some w) = why_text w

-- for the program of a text of macro-code
abbrev pub setting : Bytes → Graph → Architecture → Program → Setting
setting code g a p = record {
  names = record { vertices = g.vertices; operators = a.operators; media = a.media };
  found = map (λ q. q.seq) p.seqs;
  expected = sequences a;
  lines = lines_in code;
}
