-- Marks of the ends into which edges lead: a row of 65 for each reference, and one for the graph itself.
use Rattle.std.specs.Prelude.{
  ℕ,
  ◌≡◌,
  ◌≤◌,
  ◌+◌,
  ◌*◌,
  Bool,
  true,
  false,
  nat_lt,
  List,
  length,
  Option,
  Some,
  None,
  if◌then◌else◌,
  slice_index_or,
  slice_set,
  not,
  ◌==◌,
}
use Rattle.std.specs.List.{All}
use Rattle.syn_base.specs.Bytes.{Bytes}
use Rattle.algo_rules.specs.declared.Port.{Port}
use Rattle.algo_rules.specs.declared.Edge.{Edge}
use Rattle.algo_rules.specs.declared.AlgoCause.TheVariants.{UnknownName, WrongLength, TwiceConnected}
use Rattle.algo_rules.specs.Words.{end_word}
use Rattle.algo_rules.specs.Links.{fault}
use Rattle.algo_rules.specs.Ports.{no_ports, number_of}
use Rattle.algo_rules.specs.Graphs.{place, is_connected}
use Rattle.body_check.specs.Parts.{named}
use Rattle.body_check.specs.declared.parts.GraphParts.{GraphParts}
use Rattle.algo_rules.specs.Refusals.{AlgoRefusal}

-- The place of a port in a row.
abbrev pub spot_in : ℕ → List Port → Bytes → Option ℕ
spot_in row ps w = if nat_lt (number_of ps w) (length ps) then Some (row * 65 + number_of ps w) else None

-- The place of the mark of an end, if the end is there.
abbrev pub spot : GraphParts → Option Bytes → Bytes → Option ℕ
spot g None w = spot_in (length g.references.now) g.outs.now w
spot g (Some r) w = spot_in (place g.references.now r) (named g r).ins w

-- There is such a place, and it has a mark.
abbrev pub marked : List Bool → Option ℕ → Bool
marked marks None = false
marked marks (Some at) = slice_index_or marks at false

-- The marks with one more.
abbrev pub mark_at : List Bool → Option ℕ → List Bool
mark_at marks None = marks
mark_at marks (Some at) = slice_set marks at true

-- Exactly the ends are marked into which these edges lead.
abbrev pub AreMarked : GraphParts → List Bool → List Edge → Type 0
AreMarked g marks edges =
    (owner : Option Bytes) (port : Bytes) →
    marked marks (spot g owner port) ≡ is_connected edges (record { owner = owner; port = port })

-- Every row is long enough.
pub record HasRows (g : GraphParts) : Type 0 where
  pub outs : length g.outs.now ≤ 65
  pub ins : All (λ p. length (slice_index_or g.table.now p no_ports).ins ≤ 65) g.places.now

-- An edge between ports of these lengths, if they are there, into an end that is marked or not.
abbrev pub edge_by : Bool → Edge → Option ℕ → Option ℕ → Option AlgoRefusal
edge_by is_twice e None to = fault e.line (UnknownName (end_word e.from))
edge_by is_twice e (Some n) None = fault e.line (UnknownName (end_word e.to))
edge_by is_twice e (Some n) (Some m) =
    if not (n == m) then fault e.line (WrongLength (end_word e.to)) else
    if is_twice then fault e.line (TwiceConnected (end_word e.to)) else
    None
