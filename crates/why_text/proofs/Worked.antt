-- The lines of a text and the texts of reasons, worked by hand: two operators, of which the first stands at two media.
use Rattle.std.proofs.Common.{◌≡◌, ℕ, List, [], ◌∷◌, ◌++◌, Option, Some, None, refl}
use Rattle.std.specs.Prelude.{codes}
use Rattle.std.specs.Fmt.{digits}
use Rattle.syn_base.specs.Bytes.{Bytes}
use Rattle.executive_program.specs.declared.Seq.{Seq}
use Rattle.macro_code.proofs.Rows.{medium, operation}
use Rattle.check_places.specs.declared.place.Part.TheVariants.{Loop, Prologue}
use Rattle.check_places.specs.declared.place.Rule.{Rule}
use Rattle.check_places.specs.declared.place.Rule.TheVariants as rule
use Rattle.check_places.specs.declared.place.Spot.{Spot}
use Rattle.check_places.specs.declared.place.Subject.{Subject}
use Rattle.check_places.specs.declared.place.Subject.TheVariants as subject
use Rattle.check_places.specs.declared.place.Waiting.{Waiting}
use Rattle.check_places.specs.declared.place.Why.TheVariants.{Breaks, Stuck}
use Rattle.why_text.specs.declared.lines.SequenceLines.{SequenceLines}
use Rattle.why_text.specs.Lines.{line_at, lines_in}
use Rattle.why_text.specs.Said.{spot}
use Rattle.why_text.specs.Text.{Setting, answer_text}

-- The first operator: lines 1 to 29, of which the second sequence is the first thread. Blanks, comments and empty lines
-- say nothing, but are counted.
abbrev first : Bytes
first =
    codes "# two\nprocessor_(P)\n\nsemaphores_(0)\nalloc_(b0,1)\nthread_(bus)\nPre0_(0)\nloop_\n\tSuc1_(0)\r\n send_(b0,Q)# far\n" ++
    (codes "Pre0_(0)\nendloop_\nendthread_\nthread_(can)\nloop_\nendloop_\nendthread_\nmain_\nspawn_thread_(bus)\n" ++
    (codes "spawn_thread_(can)\nloop_\nSuc0_(0)\n#op s(;b0)\nop s(;b0)\nPre1_(0)\nendloop_\nwait_endthread_(bus)\n" ++
    codes "wait_endthread_(can)\nendmain_\n"))

-- The second one: lines 30 to 36. The last line may lack its line feed.
abbrev second : Bytes
second = codes "processor_(Q)\nsemaphores_()\nmain_\nSuc1_(0)\nloop_\nendloop_\nendmain_"

abbrev lines : ℕ → List ℕ → List ℕ → SequenceLines
lines begin prologue turn = record { begin = begin; prologue = prologue; turn = turn }

abbrev worked : List SequenceLines
worked =
    lines 18 [] (22 ∷ 24 ∷ 25 ∷ []) ∷ lines 6 (7 ∷ []) (9 ∷ 10 ∷ 11 ∷ []) ∷ lines 14 [] [] ∷
    lines 32 (33 ∷ []) [] ∷ []

two_operators : lines_in (first ++ second) ≡ worked
two_operators = refl

no_lines : lines_in [] ≡ []
no_lines = refl

in_loop : line_at worked (spot Loop 1 1) ≡ Some 10
in_loop = refl

before_loop : line_at worked (spot Prologue 1 0) ≡ Some 7
before_loop = refl

past_the_end : line_at worked (spot Prologue 1 1) ≡ Some 6
past_the_end = refl

no_sequence : line_at worked (spot Loop 4 0) ≡ None
no_sequence = refl

abbrev sequence : ℕ → Option ℕ → Seq
sequence o m = record { operator = o; medium = m }

abbrev setting : Setting
setting = record {
  names = record {
    vertices = operation (codes "s") ∷ operation (codes "f.g") ∷ [];
    operators = codes "P" ∷ codes "Q" ∷ [];
    media = medium (codes "bus") (0 ∷ 1 ∷ []) ∷ medium (codes "can") (0 ∷ []) ∷ [];
  };
  found = sequence 0 None ∷ sequence 0 (Some 0) ∷ sequence 0 (Some 1) ∷ sequence 1 None ∷ [];
  expected = sequence 0 None ∷ sequence 0 (Some 0) ∷ sequence 0 (Some 1) ∷ sequence 1 None ∷ sequence 1 (Some 0) ∷ [];
  lines = worked;
}

abbrev reason : Rule → Subject → Option Spot → Bytes
reason r x y = answer_text setting (Some (Breaks (record { rule = r; subject = x; spot = y })))

well_formed : answer_text setting None ≡ codes "well formed\n"
well_formed = refl

a_thread_lacks : reason rule.OtherSequence (subject.Expected 4) None ≡
    codes "K1 Sequences\nthe main parts and threads are those of the architecture, in its order\nsequence 4: found nothing, expected Q bus\n"
unfolding digits
a_thread_lacks = refl

a_name_lacks : reason rule.MissingName (subject.Sequence 3) (Some (spot Prologue 3 0)) ≡
    codes "K1 Sequences\nwhat a line names is there\nsequence 3: Q main\nline 33: Q main\n"
unfolding digits
a_name_lacks = refl

not_called : reason rule.NotCalled (subject.Operation 1) None ≡
    codes "K2 Calls\neach operation is called once, and this one is not\noperation f.g\n"
not_called = refl

sent_elsewhere : reason rule.SentElsewhere (subject.Transfer 1 0) (Some (spot Loop 1 1)) ≡
    codes "K3 Transfers\neach transfer is sent to the processor that receives it\ntransfer 0 of can\nline 10: P bus\n"
unfolding digits
sent_elsewhere = refl

other_input : reason rule.OtherInput (subject.Input 1 0) (Some (spot Loop 0 1)) ≡
    codes "K4 Buffers\neach buffer that a call reads has the length and the value that its operation takes\ninput 0 of f.g\nline 24: P main\n"
unfolding digits
other_input = refl

other_output : reason rule.OtherOutput (subject.Output 0 1) (Some (spot Loop 0 1)) ≡
    codes "K4 Buffers\neach buffer that a call writes has the length and the value that its operation gives\noutput 1 of s\nline 24: P main\n"
unfolding digits
other_output = refl

written_again : reason rule.WrittenAgain (subject.Buffer 10) (Some (spot Loop 2 0)) ≡
    codes "K4 Buffers\neach buffer is written once, and this one again\nbuffer b10\nline 14: P can\n"
unfolding digits
written_again = refl

not_taken : reason rule.EmptyNotTaken (subject.Pair 2) (Some (spot Loop 0 2)) ≡
    codes "K5 Pairs\nthe writer takes Suc0_ once, before it writes\npair 2\nline 25: P main\n"
unfolding digits
not_taken = refl

signal_lacks : reason rule.MissingSignal (subject.Pair 0) (Some (spot Prologue 1 1)) ≡
    codes "K6 Prologue\nbefore a loop stands Pre0_ of each pair that it reads by, once for each place, by number\npair 0\nline 6: P bus\n"
unfolding digits
signal_lacks = refl

abbrev waiting : ℕ → ℕ → Option Spot → Waiting
waiting s a awaits = record { sequence = s; at = a; awaits = awaits }

what_waits : answer_text setting (Some (Stuck (waiting 0 0 (Some (spot Loop 1 2)) ∷ waiting 1 1 (Some (spot Loop 3 0)) ∷ waiting 2 0 None ∷ []))) ≡
    codes "K7 Stuck\nline 22: P main waits for line 11: P bus\nline 10: P bus waits for line 32: Q main\nline 14: P can\n"
unfolding digits
what_waits = refl
