-- The run as the code makes it: what is awaited, and who is looked at again after a step.
use Rattle.std.specs.Prelude.{
  ◌≡◌,
  ℕ,
  ◌<◌,
  ◌⊎◌,
  zero,
  suc,
  Bool,
  true,
  false,
  cond,
  nat_lt,
  List,
  [],
  ◌∷◌,
  ◌++◌,
  ◌+◌,
  ◌-◌,
  ◌*◌,
  map,
  length,
  Option,
  Some,
  None,
  slice_get,
  slice_index,
  slice_set,
}
use Rattle.sequence_build_laws.specs.Owners.{sum_below}
use Rattle.sequence_build_laws.specs.declared.Instr.{Instr}
use Rattle.sequence_build_laws.specs.declared.Instr.TheVariants.{Suc1, Pre1, Send, Recv}
use Rattle.sequence_build_laws.specs.declared.Program.{Program}
use Rattle.sequence_build_laws.specs.Instructions.{medium, turn}
use Rattle.sequence_build_laws.specs.WellFormed.{Stands}
use Rattle.program_tables.specs.declared.mark_table.Mark.{Mark}
use Rattle.program_walks.specs.declared.acts.Stand.{Stand}
use Rattle.program_tables.specs.declared.crossings.Crossing.{Crossing}
use Rattle.program_tables.specs.declared.roles.Role.TheVariants.{FullTaken}
use Rattle.program_tables.specs.Communications.{communicators_of}
use Rattle.program_tables.specs.Marks.{marks_of}
use Rattle.check_cause.specs.declared.cause.Stop.{Stop}
use Rattle.check_laws.specs.Items.{AreGuarded, AreTransferred}
use Rattle.check_laws.specs.Run.{Place, IsRun, awaited, is_ready, left_from, made, next}

-- A place of the definitions is this place of the code, with the same numbers.
abbrev pub stand_of : Place → Stand
stand_of y = record { sequence = y.sequence; at = y.at }

-- A given place is this place of the code; it is none if no place is given.
abbrev pub stand_or : Option Place → Option Stand
stand_or None = None
stand_or (Some y) = Some (stand_of y)

abbrev pub sequences_in : List Mark → List ℕ
sequences_in ms = map (λ m. m.sequence) ms

abbrev pub first_in : List Mark → List ℕ
first_in [] = []
first_in (m ∷ ms) = m.sequence ∷ []

abbrev pub on_it : Program → Option ℕ → List ℕ
on_it p None = []
on_it p (Some m) = sequences_in (communicators_of p m)

-- the sequences whose next instruction may await this one, which stands in sequence s
abbrev pub woken : Program → ℕ → Instr → List ℕ
woken p s (Pre1 q) = first_in (marks_of p FullTaken q)
woken p s (Send b o) = on_it p (medium p s)
woken p s (Recv b o) = on_it p (medium p s)
woken p s _ = []

-- The run so far, how many instructions of each sequence it made, and the sequences to look at: all that are ready are
-- among them.
pub record IsGoing (p : Program) (order done looks : List ℕ) : Type 0 where
  pub run : IsRun p order
  pub many : length done ≡ length p.seqs
  pub counts : (s : ℕ) → slice_index done s ≡ made order s
  pub ready : (s : ℕ) → s < length p.seqs → is_ready p order s ≡ true → (i : ℕ) × (slice_get looks i ≡ Some s)

-- What the run stands on: pairs and transfers are right, and pairs that are waited for are there.
pub record MayRun (p : Program) (media : ℕ) : Type 0 where
  pub named : (s a q : ℕ) → Stands p s a (Suc1 q) ⊎ Stands p s a (Pre1 q) → q < length p.pairs
  pub transferred : AreTransferred p media
  pub guarded : AreGuarded p

-- where a transfer is sent and received, if it is there
abbrev pub sent_at : Option Crossing → Option Stand
sent_at None = None
sent_at (Some c) = Some (record { sequence = c.sender; at = c.send_at })

abbrev pub received_at : Option Crossing → Option Stand
received_at None = None
received_at (Some c) = Some (record { sequence = c.receiver; at = c.receive_at })

-- this many instructions of these sequences were made that this one was
abbrev pub is_past_in : List ℕ → Option Stand → Bool
is_past_in done None = true
is_past_in done (Some y) = nat_lt y.at (slice_index done y.sequence)

abbrev pub goes_in : Program → List ℕ → ℕ → ℕ → Option Instr → Bool
goes_in p done s a None = false
goes_in p done s a (Some x) = is_past_in done (stand_or (awaited p s a x))

-- where this many instructions of each sequence were made, sequence s has a next one, and what it awaits was made
abbrev pub is_ready_in : Program → List ℕ → ℕ → Bool
is_ready_in p done s = goes_in p done s (slice_index done s) (slice_get (turn p s) (slice_index done s))

-- of this many sequences from s on those that are not at their end
abbrev pub left_in : Program → List ℕ → ℕ → ℕ → List Place
left_in p done s zero = []
left_in p done s (suc n) =
    cond (nat_lt (slice_index done s) (length (turn p s)))
    (record { sequence = s; at = slice_index done s } ∷ left_in p done (suc s) n)
    (left_in p done (suc s) n)

-- the place of the next instruction of sequence s, if it is not at its end
abbrev pub stop_at : Program → List ℕ → ℕ → List Place
stop_at p done s =
    cond (nat_lt (slice_index done s) (length (turn p s))) (record { sequence = s; at = slice_index done s } ∷ []) []

-- A stop of a refusal is this place of the definitions, with the same numbers.
abbrev pub place_of : Stop → Place
place_of x = record { sequence = x.sequence; at = x.at }

-- a run that has come to its end, with its counts
pub record IsEnded (p : Program) (order done : List ℕ) : Type 0 where
  pub run : IsRun p order
  pub stopped : next p order ≡ None
  pub counts : (s : ℕ) → slice_index done s ≡ made order s

abbrev pub woken_at : Program → ℕ → Option Instr → List ℕ
woken_at p s None = []
woken_at p s (Some x) = woken p s x

-- one more instruction of sequence s
pub record IsStep (p : Program) (s : ℕ) (order done looks order_after done_after looks_after : List ℕ) : Type 0 where
  pub order_is : order_after ≡ order ++ s ∷ []
  pub done_is : done_after ≡ slice_set done s (slice_index done s + 1)
  pub looks_are : looks_after ≡ looks ++ s ∷ [] ++ woken_at p s (slice_get (turn p s) (slice_index done s))

-- a run that made all
pub record IsWhole (p : Program) (order : List ℕ) : Type 0 where
  pub run : IsRun p order
  pub ends : left_from p order 0 (length p.seqs) ≡ []

-- how much is left to do
abbrev pub to_do : Program → List ℕ → List ℕ → ℕ
to_do p order looks =
    (sum_below (λ s. length (turn p s)) (length p.seqs) - length order) * (length p.seqs + 3) + length looks
