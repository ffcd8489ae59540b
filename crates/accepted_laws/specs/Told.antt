-- What the text of an algorithm says, and what the tree that is made of it does.
use Rattle.std.specs.Prelude.{◌≡◌, ℕ, List, [], map, length, Ok}
use Rattle.syn_base.specs.Bytes.{Bytes}
use Rattle.multi_period.specs.declared.mark.Mark.{Mark}
use Rattle.multi_period.specs.Meaning.{act_row_at}
use Rattle.algo_laws.specs.declared.Defs.{Defs}
use Rattle.algo_laws.specs.Text.{definitions_of}
use Rattle.algo_laws.specs.Resolved.{resolution_of}
use Rattle.algo_laws.specs.Tree.{Vertex}
use Rattle.algo_laws.specs.Meaning.{act_row}
use Rattle.elaboration.specs.Marking.{marking_of}
use Rattle.elaboration.specs.Elaborated.{elaboration_of}
use Rattle.elaboration.specs.Pruned.{pruned}
use Rattle.act_text.specs.Names.{actuator_names}
use Rattle.act_text.specs.Text.{output_text}
use Rattle.sensor_table.specs.SensorTable.{rows_of}
use Rattle.syn_base.specs.Vectors.{Values}
use Rattle.syn_base.specs.Numbers.{numbers_below}

-- The algorithm of a text: the tree to which its definitions resolve, and the marks on its references.
pub record Algorithm (text : Bytes) : Type 0 where
  pub defs : Defs
  pub main : Vertex
  pub marks : List Mark
  pub says : definitions_of text ≡ Ok defs
  pub resolves : resolution_of defs.defs ≡ Ok main
  pub marked : marking_of defs.defs ≡ Ok marks

-- What its actuators take in each reaction over these rows: by the meaning with marks, which looks back over the
-- reactions. Without marks this is the synchronous meaning.
abbrev pub taken : List Mark → Vertex → List Values → List Values
taken marks main rows = map (act_row_at marks main rows) (numbers_below (length rows))

-- the lines of the output
abbrev pub lines_taken : List Mark → Vertex → List Values → Bytes
lines_taken marks main rows = output_text (actuator_names main) (taken marks main rows)

-- The made tree has the sensors and actuators of the text's tree, and its actuators take in each reaction, over all
-- rows, what those of the text take. If nothing is marked it is the pruned tree of the text, and the text has the
-- synchronous meaning.
pub record DoesAsTold (marks : List Mark) (main made : Vertex) : Type 0 where
  pub tables : (records : List (List (List ℕ))) → rows_of made records ≡ rows_of main records
  pub names : actuator_names made ≡ actuator_names main
  pub takes : (rows : List Values) (k : ℕ) → act_row made rows k ≡ act_row_at marks main rows k
  pub unmarked : marks ≡ [] → made ≡ pruned main
  pub plain : marks ≡ [] → (rows : List Values) (k : ℕ) → act_row_at marks main rows k ≡ act_row main rows k

-- The tree that the definitions of an accepted text mean does what the text says.
abbrev pub AcceptedDoAsTold : Type 0
AcceptedDoAsTold = (text : Bytes) (defs : Defs) (made : Vertex) → definitions_of text ≡ Ok defs
    → elaboration_of defs ≡ Ok made → (a : Algorithm text) × DoesAsTold a.marks a.main made
