-- What `sim`, `run` and `exec` write, said of bytes alone: of the words, of the texts that the files hold, and of what
-- the output holds before and after.
use Rattle.std.specs.Prelude.{◌≡◌, ◌++◌, false, List, [], ◌∷◌, Option, Some, Ok, codes}
use Rattle.std.specs.List.{list_any}
use Rattle.csv.specs.Reading.{default_config, records, strip_bom}
use Rattle.syn_base.specs.Bytes.{Bytes}
use Rattle.syn_base.specs.Rows.{Reactions}
use Rattle.command_status.specs.SensorTable.{rows_of}
use Rattle.accepted_laws.specs.Told.{Algorithm, lines_taken}
use Rattle.command_words.specs.Command.{is_option}

-- The words are the program's name, the name of a command, and its files, none of which looks like an option.
pub record Asks (words : List Bytes) (name : Bytes) (files : List Bytes) : Type 0 where
  pub program : Bytes
  pub words_are : words ≡ program ∷ name ∷ files
  pub plain : list_any is_option files ≡ false

-- What the text of an algorithm says, and the rows that a sensor table has for its sensors.
pub record Reading (text table : Bytes) : Type 0 where
  pub algorithm : Algorithm text
  pub rows : Reactions
  pub reads : rows_of algorithm.main (records default_config (strip_bom table)) ≡ Ok rows

-- The lines of what the actuators of the algorithm take in all reactions, by its synchronous meaning.
abbrev pub lines_of : (text table : Bytes) → Reading text table → Bytes
lines_of text table reading = lines_taken reading.algorithm.marks reading.algorithm.main reading.rows.reactions

-- Two texts have one reading: whatever reads them, the lines are the same.
abbrev pub ReadingsAgree : Type 0
ReadingsAgree =
    (text table : Bytes) (one other : Reading text table) → lines_of text table one ≡ lines_of text table other

-- The file of this name holds a text that is told.
abbrev pub IsKnown : (Bytes → Option Bytes) → Bytes → Type 0
IsKnown told name = (text : Bytes) × (told name ≡ Some text)

module _ (told : Bytes → Option Bytes) (before after : Option Bytes) where
  -- The texts of the algorithm in file a and of the table in file s have a reading, and what was appended to the output
  -- is this front and then exactly the lines of the reading.
  pub record WritesLines (a s front : Bytes) : Type 0 where
    pub text : Bytes
    pub table : Bytes
    pub text_told : told a ≡ Some text
    pub table_told : told s ≡ Some table
    pub reading : Reading text table
    pub appended : (earlier : Bytes) → before ≡ Some earlier →
        after ≡ Some (earlier ++ (front ++ lines_of text table reading))

  -- What these words write, if their files are told: `sim` and `exec` write only the lines, and `run` writes them after
  -- its macro-code.
  pub record WritesValues (words : List Bytes) : Type 0 where
    pub sim : (a s : Bytes) → Asks words (codes "sim") (a ∷ s ∷ []) → IsKnown told a → IsKnown told s →
        WritesLines a s []
    pub run : (a h s : Bytes) → Asks words (codes "run") (a ∷ h ∷ s ∷ []) → IsKnown told a → IsKnown told h →
        IsKnown told s → (front : Bytes) × WritesLines a s front
    pub exec : (a h c s : Bytes) → Asks words (codes "exec") (a ∷ h ∷ c ∷ s ∷ []) → IsKnown told a → IsKnown told h →
        IsKnown told c → IsKnown told s → WritesLines a s []
