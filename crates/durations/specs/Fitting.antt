-- How durations stand to the flat graph and the architecture that they are of.
use Rattle.std.specs.Prelude.{◌≡◌, length, map, Ok}
use Rattle.flat_graph.specs.Graph.{Graph}
use Rattle.archi_defs.specs.Archi.{Architecture}
use Rattle.archi_defs.specs.Text.{Described}
use Rattle.durations.specs.Table.{Table, StandBeside, durations_of, get_half_of}

-- The table has the graph's operations, with their get halves, and the architecture's operators.
pub record IsOf (graph : Graph) (archi : Architecture) (table : Table) : Type 0 where
  pub operations : length table.rows ≡ length graph.vertices
  pub operators : table.operators ≡ length archi.operators
  pub halves : table.halves ≡ map get_half_of graph.vertices

-- the durations of a text are those of the flat graph and the text's architecture, and a set half may stand
-- wherever its get half may
abbrev pub DurationsFit : Type 0
DurationsFit = (g : Graph) (d : Described) (t : Table) → durations_of g d ≡ Ok t → IsOf g d.archi t × StandBeside t
