-- Where buffers are wrong.
use Rattle.std.specs.Prelude.{
  ℕ,
  ◌+◌,
  Bool,
  nat_eq,
  nat_lt,
  List,
  [],
  ◌∷◌,
  drop,
  length,
  Option,
  None,
  slice_get,
}
use Rattle.sequence_build_laws.specs.declared.Guard.{Guard}
use Rattle.sequence_build_laws.specs.declared.Source.{Source}
use Rattle.sequence_build_laws.specs.declared.Vertex.{Vertex}
use Rattle.sequence_build_laws.specs.declared.Program.{Program}
use Rattle.sequence_build_laws.specs.Instructions.{operator, turn}
use Rattle.sequence_build_laws.specs.MicroSteps.{first_of}
use Rattle.sequence_build_laws.specs.Places.{caller_of, ins_in, outs_in, written_at, writer_of}
use Rattle.program_tables.specs.declared.mark_table.Mark.{Mark}
use Rattle.program_tables.specs.declared.crossings.Crossing.{Crossing}
use Rattle.program_tables.specs.declared.roles.Role.TheVariants.{Read, Written}
use Rattle.program_tables.specs.Crossings.{crossing}
use Rattle.program_tables.specs.Marks.{marks_of}
use Rattle.program_walks.specs.Walks.{implies}
use Rattle.program_walks.specs.Buffers.{has_places, is_operator}
use Rattle.order_check.specs.Calls.{called_at, carries, gives_at}
use Rattle.order_check.specs.Carries.{is_kept}
use Rattle.check_laws.specs.Items.{is_made}
use Rattle.check_laws.specs.Tests.{has_same_len}
use Rattle.check_places.specs.declared.place.Place.{Place}
use Rattle.check_places.specs.declared.place.Rule.TheVariants.{
  NotWritten,
  WrittenAgain,
  TouchedElsewhere,
  ReadTooEarly,
  WrongPlaces,
  NotMade,
  UnequalInputs,
  OtherInput,
  UnequalOutputs,
  OtherOutput,
  UnequalLengths,
  OtherValue,
}
use Rattle.check_places.specs.declared.place.Subject.TheVariants.{Buffer, Operation, Input, Output, Transfer}
use Rattle.check_places.specs.First.{broken, broken_at, first_below, first_failing, first_from, in_loop, unless}
use Rattle.check_places.specs.Transfers.{first_over}

-- the place is not in the loop of m, or stands after it
abbrev pub is_not_before : Mark → Mark → Bool
is_not_before m u = implies (nat_eq u.sequence m.sequence) (nat_lt m.at u.at)

module _ (p : Program) where
  -- the place is on the operator of buffer b
  abbrev pub is_near_at : ℕ → Mark → Bool
  is_near_at b m = is_operator (slice_get p.buffers b) (operator p m.sequence)

  -- Buffer b is written at the first of these places and read at those: written once, touched on its own operator,
  -- read by its writer after the write, as deep as it may be.
  abbrev pub buffer_place_by : ℕ → List Mark → List Mark → Option Place
  buffer_place_by b [] reads = broken NotWritten (Buffer b) None
  buffer_place_by b (m ∷ []) reads =
      first_of (broken_at TouchedElsewhere (Buffer b) (first_failing (is_near_at b) (m ∷ reads)))
      (first_of (broken_at ReadTooEarly (Buffer b) (first_failing (is_not_before m) reads))
      (unless (has_places p b) (broken WrongPlaces (Buffer b) (in_loop m.sequence m.at))))
  buffer_place_by b (m ∷ u ∷ ms) reads = broken WrittenAgain (Buffer b) (in_loop u.sequence u.at)

  -- The first place at which buffer b by itself is wrong, and None if it is right: it has to be
  -- written once, touched on its own operator only, read by its writer after the write only, and as
  -- deep as it may be.
  abbrev pub buffer_place : ℕ → Option Place
  buffer_place b = buffer_place_by b (marks_of p Written b) (marks_of p Read b)

  -- what buffer b holds comes from a call
  abbrev pub made_place : ℕ → Option Place
  made_place b =
      unless (is_made p (length p.buffers) b) (broken NotMade (Buffer b) (in_loop (writer_of p b) (written_at p b)))

  -- the buffer that is received is as long as the one that is sent, and carries the same
  abbrev pub kept_place_by : ℕ → ℕ → Crossing → Option Place
  kept_place_by m t c =
      first_of
      (unless (has_same_len p m t) (broken UnequalLengths (Transfer m t) (in_loop c.receiver c.receive_at)))
      (unless (is_kept p m t) (broken OtherValue (Transfer m t) (in_loop c.receiver c.receive_at)))

  -- The receive of transfer t of medium m if the buffer that is received has another length or
  -- carries another value than the one that is sent, and None otherwise.
  abbrev pub kept_place : ℕ → ℕ → Option Place
  kept_place m t = kept_place_by m t (crossing p m t)

module _ (p : Program) (vertices : List Vertex) where
  -- The call of operation v is instruction a of s. Its buffer k carries the source of a guard, or what input k takes
  -- after `guards` of them.
  abbrev pub guard_place : ℕ → ℕ → ℕ → List ℕ → ℕ → Guard → Option Place
  guard_place v s a ins k d =
      unless (carries p vertices d.source (slice_get ins k)) (broken OtherInput (Input v k) (in_loop s a))

  -- The call of operation v, as instruction a of sequence s, if its buffer k of these, which come
  -- after those of its guards, does not carry source x in its length, and None if it does.
  abbrev pub input_place : ℕ → ℕ → ℕ → ℕ → List ℕ → ℕ → Source → Option Place
  input_place v s a guards ins k x =
      unless (carries p vertices x (slice_get ins k)) (broken OtherInput (Input v (guards + k)) (in_loop s a))

  -- The first place at which a call of operation v does not read as many buffers as it has guards
  -- and inputs, each with its source.
  abbrev pub taken_place : ℕ → Vertex → ℕ → ℕ → List ℕ → Option Place
  taken_place v x s a ins =
      first_of
      (unless (nat_eq (length ins) (length x.guards + length x.ins))
      (broken UnequalInputs (Operation v) (in_loop s a)))
      (first_of (first_from (guard_place v s a ins) 0 x.guards)
      (first_from (input_place v s a (length x.guards) (drop (length x.guards) ins)) 0 x.ins))

  -- The call of operation v, as instruction a of sequence s, if its buffer k of these does not
  -- carry output k, which has length `len`, and None if it does.
  abbrev pub output_place : ℕ → ℕ → ℕ → List ℕ → ℕ → ℕ → Option Place
  output_place v s a outs k len =
      unless (gives_at p v k len (slice_get outs k)) (broken OtherOutput (Output v k) (in_loop s a))

  -- The first place at which a call of operation v does not write as many buffers as it has
  -- outputs, each with its output.
  abbrev pub given_place : ℕ → Vertex → ℕ → ℕ → List ℕ → Option Place
  given_place v x s a outs =
      first_of
      (unless (nat_eq (length outs) (length x.outs)) (broken UnequalOutputs (Operation v) (in_loop s a)))
      (first_from (output_place v s a outs) 0 x.outs)

  -- The first thing that is wrong with what the call of operation v, as instruction a of sequence
  -- s, reads and writes, and None if it reads and writes what the operation takes and gives.
  abbrev pub fit_place_at : ℕ → Vertex → ℕ → ℕ → Option Place
  fit_place_at v x s a =
      first_of (taken_place v x s a (ins_in (slice_get (turn p s) a)))
      (given_place v x s a (outs_in (slice_get (turn p s) a)))

  -- The first place at which the first call of operation v in the program does not fit it.
  abbrev pub fit_place : ℕ → Vertex → Option Place
  fit_place v x = fit_place_at v x (caller_of p v) (called_at p v)

  -- what buffers come from, what operations take and give, and what transfers keep
  abbrev pub values_place : ℕ → Option Place
  values_place media =
      first_of (first_below (made_place p) (length p.buffers))
      (first_of (first_from fit_place 0 vertices) (first_over p (kept_place p) media))

  -- buffers by themselves, and then what they carry
  abbrev pub buffers_place : ℕ → Option Place
  buffers_place media = first_of (first_below (buffer_place p) (length p.buffers)) (values_place media)
