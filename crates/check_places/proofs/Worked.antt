-- The first places of worked programs: a sensor and an actuator on one operator; two operators that a bus joins.
use Rattle.std.proofs.Common.{◌≡◌, ℕ, zero, suc, ◌<◌, ◌⊎◌, List, [], ◌∷◌, ◌++◌, map, Option, Some, None, refl, sym, ap, subst, inl, inr, arith, ◌∙◌}
use Rattle.std.specs.Prelude.{slice_get}
use Rattle.std.proofs.lemmas.Bool.{false≢true}
use Rattle.std.proofs.lemmas.Option.{same_Some, slice_get_within}
use Rattle.sequence_build_laws.specs.Graph.{Graph}
use Rattle.sequence_build_laws.specs.declared.Source.{Source}
use Rattle.sequence_build_laws.specs.declared.Kind.{Kind}
use Rattle.sequence_build_laws.specs.declared.Kind.TheVariants.{Sensor, Actuator}
use Rattle.sequence_build_laws.specs.declared.Vertex.{Vertex}
use Rattle.sequence_build_laws.specs.declared.Seq.{Seq}
use Rattle.sequence_build_laws.specs.declared.Instr.{Instr}
use Rattle.sequence_build_laws.specs.declared.Instr.TheVariants.{Suc0, Suc1, Pre0, Pre1, Call, Send, Recv}
use Rattle.sequence_build_laws.specs.declared.Buffer as declared_buffer
use Rattle.sequence_build_laws.specs.declared.SeqCode.{SeqCode}
use Rattle.sequence_build_laws.specs.declared.Program.{Program}
use Rattle.sequence_build_laws.specs.Instructions.{Reader, turn}
use Rattle.sequence_build_laws.specs.Places.{calls, ins_in, signals_empty, takes_empty}
use Rattle.sequence_build_laws.specs.WellFormed.{Stands, WritesAt}
use Rattle.program_walks.specs.Acts.{passes}
use Rattle.check_places.specs.declared.place.Part.TheVariants.{Loop, Prologue}
use Rattle.check_places.specs.declared.place.Rule.{Rule}
use Rattle.check_places.specs.declared.place.Rule.TheVariants as rule
use Rattle.check_places.specs.declared.place.Spot.{Spot}
use Rattle.check_places.specs.declared.place.Subject.{Subject}
use Rattle.check_places.specs.declared.place.Subject.TheVariants as subject
use Rattle.check_places.specs.declared.place.Why.{Why}
use Rattle.check_places.specs.declared.place.Why.TheVariants.{Breaks}
use Rattle.check_places.specs.Shown.{IsFirstBy, ShowsBy}
use Rattle.check_places.specs.Why.{why}
use Rattle.check_places.specs.Wrong.{Calls, Carries, IsEarlier}

abbrev vertex : ℕ → Kind → List Source → List ℕ → Vertex
vertex c k ins outs = record { name = c ∷ []; def = 68 ∷ []; kind = k; guards = []; ins = ins; outs = outs; twin = None }

abbrev source : ℕ → Source
source v = record { vertex = v; port = 0 }

abbrev main : ℕ → List Instr → List Instr → SeqCode
main o prologue turn = record { seq = record { operator = o; medium = None }; prologue = prologue; turn = turn }

abbrev thread : ℕ → List Instr → List Instr → SeqCode
thread o prologue turn = record { seq = record { operator = o; medium = Some 0 }; prologue = prologue; turn = turn }

abbrev buffer : ℕ → ℕ → declared_buffer.Buffer
buffer o len = record { operator = o; len = len; depth = 1 }

abbrev place : Rule → Subject → Option Spot → Option Why
place r s y = Some (Breaks (record { rule = r; subject = s; spot = y }))

abbrev loop : ℕ → ℕ → Option Spot
loop s a = Some (record { part = Loop; sequence = s; at = a })

-- One operator. The sensor is operation 0 and writes buffer 0, the actuator is operation 1 and reads it.
abbrev plain_vertices : List Vertex
plain_vertices = vertex 115 (Sensor 0) [] (1 ∷ []) ∷ vertex 97 (Actuator 0) (source 0 ∷ []) [] ∷ []

abbrev sense : Instr
sense = Call 0 [] (0 ∷ [])

abbrev act : Instr
act = Call 1 (0 ∷ []) []

abbrev plain : ℕ → List Instr → List Instr → Option Why
plain len prologue turn =
    why (record { buffers = buffer 0 len ∷ []; pairs = []; seqs = main 0 prologue turn ∷ [] })
    plain_vertices (record { operator = 0; medium = None } ∷ []) 1 0

well_formed : plain 1 [] (sense ∷ act ∷ []) ≡ None
well_formed = refl

not_called : plain 1 [] (sense ∷ []) ≡ place rule.NotCalled (subject.Operation 1) None
not_called = refl

called_again : plain 1 [] (sense ∷ act ∷ act ∷ []) ≡ place rule.CalledAgain (subject.Operation 1) (loop 0 2)
called_again = refl

read_too_early : plain 1 [] (act ∷ sense ∷ []) ≡ place rule.ReadTooEarly (subject.Buffer 0) (loop 0 0)
read_too_early = refl

other_length : plain 2 [] (sense ∷ act ∷ []) ≡ place rule.OtherOutput (subject.Output 0 0) (loop 0 0)
other_length = refl

-- there is no pair 4
missing_name : plain 1 (Pre0 4 ∷ []) (sense ∷ act ∷ [])
    ≡ place rule.MissingName (subject.Sequence 0) (Some (record { part = Prologue; sequence = 0; at = 0 }))
missing_name = refl

further_line : plain 1 (sense ∷ []) (sense ∷ act ∷ [])
    ≡ place rule.FurtherLine (subject.Sequence 0) (Some (record { part = Prologue; sequence = 0; at = 0 }))
further_line = refl

-- Two operators that a bus joins. The sensor writes buffer 0, which is sent to buffer 1 for the actuator. Sequences:
-- main part 0, thread 0, main part 1, thread 1. Pair 0 guards buffer 0 for thread 0, pair 1 buffer 1 for main part 1.
abbrev seqs : List Seq
seqs = record { operator = 0; medium = None } ∷ record { operator = 0; medium = Some 0 } ∷
    record { operator = 1; medium = None } ∷ record { operator = 1; medium = Some 0 } ∷ []

abbrev bus : List Instr → List Instr → SeqCode → List Instr → Option Why
bus sensing sending acting receiving =
    why (record {
      buffers = buffer 0 1 ∷ buffer 1 1 ∷ [];
      pairs = 0 ∷ 1 ∷ [];
      seqs = main 0 [] sensing ∷ thread 0 (Pre0 0 ∷ []) sending ∷ acting ∷ thread 1 [] receiving ∷ [];
    })
    plain_vertices seqs 2 1

abbrev sensing : List Instr
sensing = Suc0 0 ∷ sense ∷ Pre1 0 ∷ []

abbrev sending : List Instr
sending = Suc1 0 ∷ Send 0 1 ∷ Pre0 0 ∷ []

abbrev acting : List Instr
acting = Suc1 1 ∷ Call 1 (1 ∷ []) [] ∷ Pre0 1 ∷ []

abbrev receiving : List Instr
receiving = Suc0 1 ∷ Recv 1 0 ∷ Pre1 1 ∷ []

bus_well_formed : bus sensing sending (main 1 (Pre0 1 ∷ []) acting) receiving ≡ None
bus_well_formed = refl

-- the third sequence is a thread
other_sequence : bus sensing sending (thread 1 [] []) receiving ≡ place rule.OtherSequence (subject.Expected 2) None
other_sequence = refl

not_received : bus sensing sending (main 1 (Pre0 1 ∷ []) acting) (Suc0 1 ∷ Send 1 0 ∷ Pre1 1 ∷ [])
    ≡ place rule.NotReceived (subject.Transfer 0 0) None
not_received = refl

sent_elsewhere : bus sensing (Suc1 0 ∷ Send 0 0 ∷ Pre0 0 ∷ []) (main 1 (Pre0 1 ∷ []) acting) receiving
    ≡ place rule.SentElsewhere (subject.Transfer 0 0) (loop 1 1)
sent_elsewhere = refl

-- the sensor signals before it writes; the actuator gives its buffer back before it reads
full_not_signalled : bus (Suc0 0 ∷ Pre1 0 ∷ sense ∷ []) sending (main 1 (Pre0 1 ∷ []) acting) receiving
    ≡ place rule.FullNotSignalled (subject.Pair 0) (loop 0 2)
full_not_signalled = refl

empty_not_signalled : bus sensing sending (main 1 (Pre0 1 ∷ []) (Suc1 1 ∷ Pre0 1 ∷ Call 1 (1 ∷ []) [] ∷ [])) receiving
    ≡ place rule.EmptyNotSignalled (subject.Pair 1) (loop 2 2)
empty_not_signalled = refl

missing_signal : bus sensing sending (main 1 [] acting) receiving
    ≡ place rule.MissingSignal (subject.Pair 1) (Some (record { part = Prologue; sequence = 2; at = 0 }))
missing_signal = refl

-- What is shown, by rule: a rule holds of one subject and one instruction, and of another one it does not.
abbrev graph : List Vertex → Graph
graph vertices = record { vertices = vertices; bodies = [] }

abbrev one_sequence : List Seq
one_sequence = record { operator = 0; medium = None } ∷ []

abbrev plain_program : List Instr → Program
plain_program turn = record { buffers = buffer 0 1 ∷ []; pairs = []; seqs = main 0 [] turn ∷ [] }

abbrev plain_shows : List Instr → Rule → Subject → Option Spot → Type 0
plain_shows turn r x y = ShowsBy (plain_program turn) (graph plain_vertices) one_sequence 1 0 r x y

abbrev actuator : Vertex
actuator = vertex 97 (Actuator 0) (source 0 ∷ []) []

-- the second call of the actuator is one too many, and the first is not
second_call : plain_shows (sense ∷ act ∷ act ∷ []) rule.CalledAgain (subject.Operation 1) (loop 0 2)
second_call = (actuator, refl, (refl, ((0 ∷ [], [], refl), (0, 1, (0 ∷ [], [], refl), inr (refl, omega arith)))))

first_call : plain_shows (sense ∷ act ∷ act ∷ []) rule.CalledAgain (subject.Operation 1) (loop 0 1) → ⊥
first_call (x, e, (f, (c, (t, b, d, l)))) = by t b d l
  where
    by : (t b : ℕ) → Calls (plain_program (sense ∷ act ∷ act ∷ [])) 1 t b → IsEarlier t b 0 1 → ⊥
    by t b d (inl l) = omega arith
    by t zero d (inr (e, l)) =
        let here : slice_get (sense ∷ act ∷ act ∷ []) 0 ≡ Some (Call 1 d.0 d.1) =
        ap (λ (s : ℕ). slice_get (turn (plain_program (sense ∷ act ∷ act ∷ [])) s) 0) (sym e) ∙ d.2 in
        false≢true (ap (passes (calls 1)) here)
    by t (suc b) d (inr (e, l)) = omega arith

-- both operations are called nowhere, and the second is not the first of them
no_act : plain_shows [] rule.NotCalled (subject.Operation 1) None
no_act = (actuator, refl, λ s a c. by s a (Call 1 c.0 c.1) c.2)
  where
    by : (s a : ℕ) (x : Instr) → Stands (plain_program []) s a x → ⊥
    by zero a x e = absurd cc
    by (suc s) a x e = absurd cc

not_first : IsFirstBy (plain_program []) (graph plain_vertices) one_sequence 1 0 rule.NotCalled (subject.Operation 1) None → ⊥
not_first h = let once = h 0 (vertex 115 (Sensor 0) [] (1 ∷ [])) (omega arith) refl in let none = once.stands in absurd cc

-- a rule of buffers shows nothing of a pair
other_subject : plain_shows (sense ∷ act ∷ []) rule.WrittenAgain (subject.Pair 0) (loop 0 0) → ⊥
other_subject h = h

-- The buffer is on another operator: the sensor touches it there, but it does not write it again.
abbrev far_program : Program
far_program = record { buffers = buffer 1 1 ∷ []; pairs = []; seqs = main 0 [] (sense ∷ act ∷ []) ∷ [] }

abbrev far_shows : Rule → Subject → Option Spot → Type 0
far_shows r x y = ShowsBy far_program (graph plain_vertices) one_sequence 2 0 r x y

far_touch : far_shows rule.TouchedElsewhere (subject.Buffer 0) (loop 0 0)
far_touch = (omega arith, (refl, (inl (0, (sense, refl, refl)), λ same. omega (arith, same))))

abbrev sensed : List ℕ
sensed = 0 ∷ []

no_second_write : far_shows rule.WrittenAgain (subject.Buffer 0) (loop 0 0) → ⊥
no_second_write (l, (f, (k, t, c, j, here, there, order))) = by order
  where
    output : slice_get sensed k ≡ Some 0
    output = subst (λ (x : Instr). WritesAt x k 0) (sym (same_Some sense here.0 here.1)) here.2

    by : (IsEarlier t c 0 0) ⊎ ((t ≡ 0) × (c ≡ 0) × (j < k)) → ⊥
    by (inl (inl m)) = omega arith
    by (inl (inr (e, m))) = omega arith
    by (inr (e, d, m)) = let low = slice_get_within sensed k 0 output in omega (arith, low, m)

-- Two sensors, and an actuator that takes both but reads the first one twice: its input 1 is wrong, and its input 0
-- is not.
abbrev both_vertices : List Vertex
both_vertices =
    vertex 115 (Sensor 0) [] (1 ∷ []) ∷ vertex 116 (Sensor 1) [] (1 ∷ []) ∷ vertex 97 (Actuator 0) (source 0 ∷ source 1 ∷ []) [] ∷ []

abbrev both_program : Program
both_program = record {
  buffers = buffer 0 1 ∷ buffer 0 1 ∷ [];
  pairs = [];
  seqs = main 0 [] (Call 0 [] (0 ∷ []) ∷ Call 1 [] (1 ∷ []) ∷ Call 2 (0 ∷ 0 ∷ []) [] ∷ []) ∷ [];
}

abbrev both_shows : Rule → Subject → Option Spot → Type 0
both_shows r x y = ShowsBy both_program (graph both_vertices) one_sequence 1 0 r x y

other_input : why both_program both_vertices one_sequence 1 0 ≡ place rule.OtherInput (subject.Input 2 1) (loop 0 2)
other_input = refl

abbrev reads_both : Vertex
reads_both = vertex 97 (Actuator 0) (source 0 ∷ source 1 ∷ []) []

input_1 : both_shows rule.OtherInput (subject.Input 2 1) (loop 0 2)
input_1 = (reads_both, refl, (refl, (0 ∷ 0 ∷ [], [], 0, source 1, refl, refl, refl, λ c. let e = ap (λ (z : Source). z.vertex) c.1 in omega (arith, e))))

input_0 : both_shows rule.OtherInput (subject.Input 2 0) (loop 0 2) → ⊥
input_0 (x, e, (f, (ins, outs, b, z, there, i, j, wrong))) =
    let read : 0 ∷ 0 ∷ [] ≡ ins = ap (λ (o : Option Instr). ins_in o) there in
    let b_is : 0 ≡ b = same_Some 0 b (ap (λ (ns : List ℕ). slice_get ns 0) read ∙ i) in
    let x_is : reads_both ≡ x = same_Some reads_both x e in
    let z_is : source 0 ≡ z = same_Some (source 0) z (ap (λ (y : Vertex). slice_get (map (λ d. d.source) y.guards ++ y.ins) 0) x_is ∙ j) in
    wrong (subst (λ (y : Source). Carries both_program (graph both_vertices) y b) z_is (subst (λ (n : ℕ). Carries both_program (graph both_vertices) (source 0) n) b_is (omega arith, refl, refl)))

-- The sensor signals before it writes: none that signals the full semaphore comes after, but one that takes the empty
-- semaphore comes before.
abbrev early_signal : Program
early_signal = record {
  buffers = buffer 0 1 ∷ buffer 1 1 ∷ [];
  pairs = 0 ∷ 1 ∷ [];
  seqs = main 0 [] (Suc0 0 ∷ Pre1 0 ∷ sense ∷ []) ∷ thread 0 (Pre0 0 ∷ []) sending ∷ main 1 (Pre0 1 ∷ []) acting ∷ thread 1 [] receiving ∷ [];
}

abbrev early_shows : Rule → Subject → Option Spot → Type 0
early_shows r x y = ShowsBy early_signal (graph plain_vertices) seqs 2 1 r x y

abbrev thread_reads : Reader
thread_reads = record { buffer = 0; sequence = 1 }

full_is_late : early_shows rule.FullNotSignalled (subject.Pair 0) (loop 0 2)
full_is_late = (
  thread_reads,
  refl,
  (
    refl,
    (
      (0, (sense, refl, refl)),
      λ c l only.
          let low = slice_get_within (Suc0 0 ∷ Pre1 0 ∷ sense ∷ []) c (Pre1 0) only.stands in omega (arith, low, l),
    ),
  ),
)

empty_is_taken : early_shows rule.EmptyNotTaken (subject.Pair 0) (loop 0 2) → ⊥
empty_is_taken (r, e, (f, (w, none))) = none 0 (omega arith) (record { stands = refl; only = λ t b h. alone t b h })
  where
    alone : (t b : ℕ) → Stands early_signal t b (Suc0 0) → (t ≡ 0) × (b ≡ 0)
    alone zero zero h = (refl, refl)
    alone zero (suc zero) h = absurd cc
    alone zero (suc (suc zero)) h = absurd cc
    alone zero (suc (suc (suc b))) h = absurd cc
    alone (suc zero) zero h = absurd cc
    alone (suc zero) (suc zero) h = absurd cc
    alone (suc zero) (suc (suc zero)) h = absurd cc
    alone (suc zero) (suc (suc (suc b))) h = absurd cc
    alone (suc (suc zero)) zero h = absurd cc
    alone (suc (suc zero)) (suc zero) h = absurd cc
    alone (suc (suc zero)) (suc (suc zero)) h = absurd cc
    alone (suc (suc zero)) (suc (suc (suc b))) h = absurd cc
    alone (suc (suc (suc zero))) zero h = absurd (false≢true (ap (passes (takes_empty 0)) h))
    alone (suc (suc (suc zero))) (suc zero) h = absurd cc
    alone (suc (suc (suc zero))) (suc (suc zero)) h = absurd cc
    alone (suc (suc (suc zero))) (suc (suc (suc b))) h = absurd cc
    alone (suc (suc (suc (suc t)))) b h = absurd cc

-- The prologue of main part 1 is empty: the signal of pair 1 is missing there, and no line goes on.
abbrev no_signal : Program
no_signal = record {
  buffers = buffer 0 1 ∷ buffer 1 1 ∷ [];
  pairs = 0 ∷ 1 ∷ [];
  seqs = main 0 [] sensing ∷ thread 0 (Pre0 0 ∷ []) sending ∷ main 1 [] acting ∷ thread 1 [] receiving ∷ [];
}

abbrev no_signal_shows : Rule → Subject → Type 0
no_signal_shows r x = ShowsBy no_signal (graph plain_vertices) seqs 2 1 r x (Some (record { part = Prologue; sequence = 2; at = 0 }))

signal_missing : no_signal_shows rule.MissingSignal (subject.Pair 1)
signal_missing = (refl, (omega arith, (refl, refl, λ e. absurd cc)))

other_signal : no_signal_shows rule.MissingSignal (subject.Pair 0) → ⊥
other_signal (f, (l, (before, there, lacks))) = false≢true (ap (passes (signals_empty 0)) there)

no_further_line : no_signal_shows rule.FurtherLine (subject.Sequence 2) → ⊥
no_further_line (f, (same, (lines, l))) = omega arith
