-- What is left of a fabric that was closed.
use Rattle.std.specs.Prelude.{◌≡◌, ℕ, List}
use Rattle.syn_base.specs.Rows.{Reactions}
use Rattle.word_rule.specs.Job.{JobData}
use Rattle.word_rule.specs.Core.{AreReached}
use Rattle.word_rule.specs.Told.{told}
use Rattle.word_rule.specs.Ended.{last_cells, all_acts}
use Rattle.word_rule.specs.Driven.{Driven, driven_by}
use Rattle.word_table.specs.Driver.{FabricData, DriverData, AreFinished}
use Rattle.syn_base.specs.Vectors.{Values}
use Rattle.executive_program.specs.FlatLaws.{actuator_lens}

-- the rows of the actuators, and the cells of the delays
pub record ClosedData : Type 0 where
  pub rows : Reactions
  pub cells : Values

-- the table of the job was closed at these counts: what is left is what they tell
pub record IsClosedAt (j : JobData) (counts : List ℕ) (c : ClosedData) : Type 0 where
  pub reached : AreReached j counts
  pub lens : c.rows.lens ≡ actuator_lens j.graph j.graph.vertices
  pub rows : c.rows.reactions ≡ (told j counts).rows
  pub cells : c.cells ≡ (told j counts).cells

-- the job was run to its end: the cells are those after all reactions, and the rows what the actuators take in each
pub record IsAtEnd (j : JobData) (c : ClosedData) : Type 0 where
  pub lens : c.rows.lens ≡ actuator_lens j.graph j.graph.vertices
  pub rows : c.rows.reactions ≡ all_acts j
  pub cells : c.cells ≡ last_cells j

-- Where each driver is finished, what is left is what is left at the end.
abbrev pub EndsWhole : FabricData → List DriverData → Driven → Driven → ClosedData → Type 0
EndsWhole f drivers old new c = AreFinished drivers → (new ≡ driven_by f.job old) × IsAtEnd f.job c
