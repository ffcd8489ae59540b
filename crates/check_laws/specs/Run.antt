-- The run of one reaction that always takes the lowest sequence whose next instruction awaits nothing more.
use Rattle.std.specs.Prelude.{
  ◌≡◌,
  ◌<◌,
  ℕ,
  zero,
  suc,
  Bool,
  true,
  false,
  cond,
  nat_eq,
  nat_lt,
  List,
  [],
  ◌∷◌,
  ◌++◌,
  length,
  take,
  Option,
  Some,
  None,
  slice_get,
}
use Rattle.std.specs.List.{count_by}
use Rattle.sequence_build_laws.specs.Owners.{sum_below}
use Rattle.sequence_build_laws.specs.declared.Instr.{Instr}
use Rattle.sequence_build_laws.specs.declared.Instr.TheVariants.{Suc1, Send, Recv, Sync}
use Rattle.sequence_build_laws.specs.declared.Program.{Program}
use Rattle.sequence_build_laws.specs.Instructions.{turn, medium, communications}
use Rattle.sequence_build_laws.specs.Places.{writing, pair, transfer}
use Rattle.sequence_build_laws.specs.WellFormed.{Stands, place_in}

-- A place of a loop: a sequence, and the number of an instruction of its loop.
pub record Place : Type 0 where
  pub sequence : ℕ
  pub at : ℕ

-- how many instructions of sequence s these entries make
abbrev pub made : List ℕ → ℕ → ℕ
made order s = count_by (λ t. nat_eq t s) order

-- the lowest of this many numbers from s on that passes
abbrev pub lowest : (ℕ → Bool) → ℕ → ℕ → Option ℕ
lowest test s zero = None
lowest test s (suc n) = cond (test s) (Some s) (lowest test (suc s) n)

-- This is what f gives for the given medium, and none if no medium is given.
abbrev pub on_medium : Option ℕ → (ℕ → Option Place) → Option Place
on_medium None f = None
on_medium (Some m) f = f m

-- If a sequence is given, it is added to the order and the run goes on by f; if none
-- is given, the run ends with this order.
abbrev pub step_with : Option ℕ → List ℕ → (List ℕ → List ℕ) → List ℕ
step_with None order f = order
step_with (Some s) order f = f (order ++ s ∷ [])

module _ (p : Program) where
  -- Transfer t of medium m is sent at this place.
  abbrev pub send_of : ℕ → ℕ → Option Place
  send_of m t = Some (record { sequence = (transfer p m t).sender; at = (transfer p m t).send_at })

  -- Transfer t of medium m is received at this place.
  abbrev pub receive_of : ℕ → ℕ → Option Place
  receive_of m t = Some (record { sequence = (transfer p m t).receiver; at = (transfer p m t).receive_at })

  -- The transfer before transfer t of medium m is received at this place; it is none
  -- for transfer 0.
  abbrev pub receive_before : ℕ → ℕ → Option Place
  receive_before m zero = None
  receive_before m (suc t) = receive_of m t

  -- The full semaphore of pair q is signalled at this place.
  abbrev pub signal_of : ℕ → Option Place
  signal_of q = Some (record { sequence = (writing p (pair p q).buffer).writer; at = (pair p q).signal_full })

  -- What instruction a of s, which is x, awaits of another sequence: a take of a full semaphore its signal; a receive
  -- the send; a wait the receive; a send the receive of the transfer before.
  abbrev pub awaited : ℕ → ℕ → Instr → Option Place
  awaited s a (Suc1 q) = signal_of q
  awaited s a (Recv b o) = on_medium (medium p s) (λ m. send_of m (communications p s a))
  awaited s a (Sync o q) = on_medium (medium p s) (λ m. receive_of m (communications p s a))
  awaited s a (Send b o) = on_medium (medium p s) (λ m. receive_before m (communications p s a))
  awaited s a _ = None

  -- The instruction at the given place is among those that these entries make; it is
  -- true if no place is given.
  abbrev pub is_past : List ℕ → Option Place → Bool
  is_past order None = true
  is_past order (Some x) = nat_lt x.at (made order x.sequence)

  -- There is an instruction, number a of s, and these entries make what it awaits.
  abbrev pub may_go : List ℕ → ℕ → ℕ → Option Instr → Bool
  may_go order s a None = false
  may_go order s a (Some x) = is_past order (awaited s a x)

  -- after these entries sequence s has a next instruction, and what it awaits was made
  abbrev pub is_ready : List ℕ → ℕ → Bool
  is_ready order s = may_go order s (made order s) (slice_get (turn p s) (made order s))

  -- This is the lowest sequence that is ready after these entries; it is none if no sequence is.
  abbrev pub next : List ℕ → Option ℕ
  next order = lowest (is_ready order) 0 (length p.seqs)

  -- After these entries the run takes at most this many more, each the lowest ready
  -- sequence, and stops earlier if none is ready.
  abbrev pub run_from : ℕ → List ℕ → List ℕ
  run_from zero order = order
  run_from (suc n) order = step_with (next order) order (λ o. run_from n o)

  -- the sequences in the order in which the run takes them
  abbrev pub run : List ℕ
  run = run_from (sum_below (λ s. length (turn p s)) (length p.seqs)) []

  -- of this many sequences from s on those that are not at their end after these entries, each with the place of its
  -- next instruction
  abbrev pub left_from : List ℕ → ℕ → ℕ → List Place
  left_from order s zero = []
  left_from order s (suc n) =
      cond (nat_lt (made order s) (length (turn p s)))
      (record { sequence = s; at = made order s } ∷ left_from order (suc s) n)
      (left_from order (suc s) n)

  -- where the run stops
  abbrev pub stuck : List Place
  stuck = left_from run 0 (length p.seqs)

  -- A run by any choice: each entry was ready after those before it.
  pub record IsRun (order : List ℕ) : Type 0 where
    pub names : (i s : ℕ) → slice_get order i ≡ Some s → s < length p.seqs
    pub ready : (i s : ℕ) → slice_get order i ≡ Some s → is_ready (take i order) s ≡ true
