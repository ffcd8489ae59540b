-- What accepted texts make.
use Rattle.std.specs.Prelude.{◌≡◌, ℕ, List, Ok}
use Rattle.syn_base.specs.Bytes.{Bytes}
use Rattle.syn_base.specs.Rows.{Reactions, AreCut}
use Rattle.sensor_table.specs.SensorTable.{rows_of}
use Rattle.algo_laws.specs.declared.Defs.{Defs}
use Rattle.algo_laws.specs.Text.{definitions_of}
use Rattle.algo_laws.specs.Tree.{Vertex}
use Rattle.algo_laws.specs.Ends.{sensor_lengths}
use Rattle.elaboration.specs.Elaborated.{elaboration_of}
use Rattle.accepted_laws.specs.Flat.{HasFlat}

-- definitions that are accepted have a flat graph
abbrev pub AcceptedHaveFlat : Type 0
AcceptedHaveFlat =
    (text : Bytes) (defs : Defs) (main : Vertex) → definitions_of text ≡ Ok defs → elaboration_of defs ≡ Ok main →
    HasFlat main

-- the rows of a table have the vectors of the algorithm's sensors
abbrev pub TablesFit : Type 0
TablesFit =
    (main : Vertex) (records : List (List (List ℕ))) (rows : Reactions) → rows_of main records ≡ Ok rows →
    (rows.lens ≡ sensor_lengths main) × AreCut rows
