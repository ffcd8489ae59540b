-- The steps of a schedule's acts, one act after another: of each the entry, the line, and the entries of the acts that
-- make what it reads.
use Rattle.std.specs.Prelude.{
  ◌≡◌,
  ℕ,
  ◌+◌,
  ◌*◌,
  ◌<◌,
  ◌≤◌,
  List,
  [],
  ◌∷◌,
  ◌++◌,
  length,
  map,
  replicate,
  Some,
  All,
  slice_get,
  slice_index_or,
  slice_set,
}
use Rattle.sequence_build_laws.specs.declared.Vertex.{Vertex}
use Rattle.sequence_build_laws.specs.declared.Guard.{Guard}
use Rattle.sequence_build_laws.specs.declared.Source.{Source}
use Rattle.sequence_build_laws.specs.declared.Transfer.{Transfer}
use Rattle.sequence_build_laws.specs.declared.Decision.{Decision}
use Rattle.sequence_build_laws.specs.Acts.{Act, carry, run, acts_of, Copy, copy, outputs_from, read_by, made_by}
use Rattle.self_timed.specs.declared.layout.Step.{Step}
use Rattle.self_timed.specs.declared.line.Line.{Line}
use Rattle.self_timed.specs.Lines.{line_of}

-- The acts so far: the entry of the next transfer, the entry of the act that made each copy, and the steps.
pub record Laid : Type 0 where
  pub vertices : List Vertex
  pub next : ℕ
  pub makers : List (List ℕ)
  pub steps : List Step

-- where a copy stands in the row of its operation
abbrev pub place : Copy → ℕ
place c = c.source.port * 16 + c.operator

abbrev pub row_at : List (List ℕ) → ℕ → List ℕ
row_at makers v = slice_index_or makers v []

abbrev pub maker_in : List (List ℕ) → Copy → ℕ
maker_in makers c = slice_index_or (row_at makers c.source.vertex) (place c) 0

abbrev pub with_maker : List (List ℕ) → Copy → ℕ → List (List ℕ)
with_maker makers c entry = slice_set makers c.source.vertex (slice_set (row_at makers c.source.vertex) (place c) entry)

abbrev pub with_makers : List (List ℕ) → List Copy → ℕ → List (List ℕ)
with_makers makers [] entry = makers
with_makers makers (c ∷ cs) entry = with_makers (with_maker makers c entry) cs entry

abbrev pub empty_row : Vertex → List ℕ
empty_row x = replicate (length x.outs * 16) 0

abbrev pub empty_makers : List Vertex → List (List ℕ)
empty_makers vertices = map empty_row vertices

abbrev pub started : List Vertex → Laid
started vertices = record { vertices = vertices; next = length vertices; makers = empty_makers vertices; steps = [] }

-- the entry of the act that comes next, and that of the transfer after it
abbrev pub entry_after : ℕ → Act → ℕ
entry_after next (run d) = d.op
entry_after next (carry t) = next

abbrev pub next_after : ℕ → Act → ℕ
next_after next (run d) = next
next_after next (carry t) = next + 1

abbrev pub step_of : Laid → Act → Step
step_of l x = record {
  entry = entry_after l.next x;
  line = line_of x;
  sources = map (maker_in l.makers) (read_by l.vertices x);
}

-- one more act, and more acts
abbrev pub after : Laid → Act → Laid
after l x = record {
  vertices = l.vertices;
  next = next_after l.next x;
  makers = with_makers l.makers (made_by l.vertices x) (entry_after l.next x);
  steps = l.steps ++ step_of l x ∷ [];
}

abbrev pub after_all : Laid → List Act → Laid
after_all l [] = l
after_all l (x ∷ xs) = after_all (after l x) xs

-- the acts of these decisions
abbrev pub laid_out : List Vertex → List Decision → Laid
laid_out vertices decisions = after_all (started vertices) (acts_of decisions)

-- transfers, or a decision, and then the rest
abbrev pub with_transfers : List Transfer → List Act → List Act
with_transfers transfers rest = map carry transfers ++ rest

abbrev pub with_decision : Decision → List Act → List Act
with_decision d rest = map carry d.transfers ++ (run d ∷ rest)

-- after these acts it is the second one, whatever comes after them
abbrev pub Follows : Laid → (List Act → List Act) → Laid → Type 0
Follows l these m = (rest : List Act) → after_all l (these rest) ≡ after_all m rest

-- with one more step, and with makers that are noted
abbrev pub with_step : Laid → ℕ → Line → List ℕ → Laid
with_step l entry line sources = record l {
  steps = l.steps ++ record { entry = entry; line = line; sources = sources } ∷ [];
}

abbrev pub with_note : Laid → Copy → ℕ → Laid
with_note l c entry = record l { makers = with_maker l.makers c entry }

abbrev pub with_outputs : Laid → ℕ → ℕ → List ℕ → Laid
with_outputs l op operator outs = record l {
  makers = with_makers l.makers (map (copy operator) (outputs_from op 0 outs)) op;
}

-- the makers of what guards and inputs read on an operator
abbrev pub guard_makers : List (List ℕ) → ℕ → List Guard → List ℕ
guard_makers makers operator guards = map (λ (g : Guard). maker_in makers (copy operator g.source)) guards

abbrev pub input_makers : List (List ℕ) → ℕ → List Source → List ℕ
input_makers makers operator inputs = map (λ (x : Source). maker_in makers (copy operator x)) inputs

abbrev pub makers_of : List (List ℕ) → ℕ → Vertex → List ℕ
makers_of makers operator x = guard_makers makers operator x.guards ++ input_makers makers operator x.ins

-- the copy has a place
pub record HasPlace (makers : List (List ℕ)) (c : Copy) : Type 0 where
  pub row : c.source.vertex < length makers
  pub place : place c < length (row_at makers c.source.vertex)

-- what these guards, or these inputs, read on an operator has places
abbrev pub HaveGuardPlaces : List (List ℕ) → ℕ → List Guard → Type 0
HaveGuardPlaces makers operator guards = All (λ (g : Guard). HasPlace makers (copy operator g.source)) guards

abbrev pub HavePlaces : List (List ℕ) → ℕ → List Source → Type 0
HavePlaces makers operator inputs = All (λ (x : Source). HasPlace makers (copy operator x)) inputs

-- the operation has a row for this number of outputs
pub record HasRow (makers : List (List ℕ)) (v outs : ℕ) : Type 0 where
  pub row : v < length makers
  pub long : length (row_at makers v) ≡ outs * 16

pub record HasShape (vertices : List Vertex) (makers : List (List ℕ)) : Type 0 where
  pub rows : (v : ℕ) (x : Vertex) → slice_get vertices v ≡ Some x → HasRow makers v (length x.outs)

-- the copy is that of an output that is there, on one of at most 16 operators
pub record IsHeld (vertices : List Vertex) (c : Copy) : Type 0 where
  pub it : Vertex
  pub there : slice_get vertices c.source.vertex ≡ Some it
  pub port : c.source.port < length it.outs
  pub operator : c.operator < 16

pub record IsCarried (vertices : List Vertex) (transfer : Transfer) : Type 0 where
  pub from : IsHeld vertices (copy transfer.from transfer.source)
  pub to : IsHeld vertices (copy transfer.to transfer.source)

pub record IsPlaced (vertices : List Vertex) (decision : Decision) : Type 0 where
  pub it : Vertex
  pub there : slice_get vertices decision.op ≡ Some it
  pub outs : length it.outs ≤ 64
  pub operator : decision.operator < 16
  pub guards : All (λ (g : Guard). IsHeld vertices (copy decision.operator g.source)) it.guards
  pub inputs : All (λ x. IsHeld vertices (copy decision.operator x)) it.ins

pub record IsDecided (vertices : List Vertex) (decision : Decision) : Type 0 where
  pub carried : All (IsCarried vertices) decision.transfers
  pub placed : IsPlaced vertices decision
