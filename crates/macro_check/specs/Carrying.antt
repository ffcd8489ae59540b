-- Where following receives back from a buffer leads.
use Rattle.std.specs.Prelude.{
  ◌≡◌,
  ℕ,
  zero,
  suc,
  ◌<◌,
  Bool,
  true,
  false,
  ◌&&◌,
  nat_eq,
  List,
  map,
  length,
  Option,
  Some,
  None,
  slice_get,
}
use Rattle.std.specs.List.{list_all, range_with_len}
use Rattle.sequence_build_laws.specs.declared.Source.{Source}
use Rattle.sequence_build_laws.specs.declared.Program.{Program}
use Rattle.sequence_build_laws.specs.declared.Vertex.{Vertex}
use Rattle.sequence_build_laws.specs.Instructions.{len_of}
use Rattle.sequence_build_laws.specs.MicroSteps.{transfers}
use Rattle.sequence_build_laws.specs.Graph.{same_source}
use Rattle.program_walks.specs.Walks.{all_at}
use Rattle.program_tables.specs.Crossings.{crossing}
use Rattle.check_laws.specs.Tests.{fits}
use Rattle.program_tables.specs.declared.crossings.Crossing.{Crossing}
use Rattle.order_check.specs.declared.carrying.Origin.{Origin}
use Rattle.order_check.specs.declared.carrying.Origin.TheVariants.{Made, Received, Nowhere}
use Rattle.order_check.specs.Carries.{origin}

-- from a buffer that is received, this way further
abbrev pub further : Origin → (ℕ → Origin) → Origin
further (Made v port) f = Made v port
further (Received b) f = f b
further Nowhere f = Nowhere

-- The value comes from an output of a call, and not from another buffer or nowhere.
abbrev pub is_call : Origin → Bool
is_call (Made v port) = true
is_call (Received b) = false
is_call Nowhere = false

module _ (p : Program) where
  -- what is met within this many steps from buffer b: a call, nothing, or the buffer at which they end
  abbrev pub follow : ℕ → ℕ → Origin
  follow zero b = Received b
  follow (suc hops) b = further (origin p b) (follow hops)

  -- of each buffer
  abbrev pub follow_all : ℕ → List Origin
  follow_all hops = map (follow hops) (range_with_len 0 (length p.buffers))

-- the source that is met there
abbrev pub source_met : Origin → Source
source_met (Made v port) = record { vertex = v; port = port }
source_met (Received b) = record { vertex = 0; port = 0 }
source_met Nowhere = record { vertex = 0; port = 0 }

abbrev pub from_transfer : Option Crossing → Origin
from_transfer None = Nowhere
from_transfer (Some c) = Received c.sent

-- This is the given origin, and nowhere if none is given.
abbrev pub origin_or : Option Origin → Origin
origin_or None = Nowhere
origin_or (Some o) = o

-- this way further, in a list of where each buffer leads
abbrev pub further_in : List Origin → Origin → Origin
further_in others o = further o (λ c. origin_or (slice_get others c))

-- the source that is met from a buffer, in such a list
abbrev pub met_in : List Origin → ℕ → Source
met_in sources b = source_met (origin_or (slice_get sources b))

-- a transfer receives into a buffer as long as the one that is sent
abbrev pub is_as_long : Program → Crossing → Bool
is_as_long p c = nat_eq (len_of p c.received) (len_of p c.sent)

-- the same is met from both its buffers
abbrev pub carries_alike : List Origin → Crossing → Bool
carries_alike sources c = same_source (met_in sources c.received) (met_in sources c.sent)

-- each buffer comes from a call, calls fit, and transfers receive what is sent
abbrev pub carry_all : Program → List Vertex → List Origin → List (List Crossing) → Bool
carry_all p vertices sources rows =
    list_all is_call sources && all_at (λ v x. fits p vertices v x) 0 vertices &&
    list_all (λ row. list_all (is_as_long p) row) rows && list_all (λ row. list_all (carries_alike sources) row) rows

-- the buffers that are received and sent are there
pub record AreLow (p : Program) (media : ℕ) : Type 0 where
  pub origins : (b c : ℕ) → origin p b ≡ Received c → c < length p.buffers
  pub sent : (m t : ℕ) → m < media → t < transfers p m → (crossing p m t).sent < length p.buffers
  pub received : (m t : ℕ) → m < media → t < transfers p m → (crossing p m t).received < length p.buffers
