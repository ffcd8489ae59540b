-- What the text of an algorithm says: its version and its definitions, or its first refusal, line by line. Lines are
-- numbered from 1.
use Rattle.std.specs.Prelude.{
  ℕ,
  ◌+◌,
  ◌/◌,
  ◌%◌,
  Bool,
  not,
  ◌==◌,
  ◌||◌,
  nat_lt,
  true,
  List,
  [],
  ◌∷◌,
  ◌++◌,
  length,
  drop,
  Option,
  Some,
  None,
  Result,
  Ok,
  Err,
  if◌then◌else◌,
  codes,
  ℤ,
}
use Rattle.std.specs.Str.{bytes_eq}
use Rattle.text_lines.specs.Text.{lines_of, words_of, code_of, foreign_place, word, begins}
use Rattle.syn_base.specs.declared.limits.LimitKind.TheVariants.{PortLength, Copies}
use Rattle.syn_base.specs.declared.limits.LimitKind.TheVariants as limits
use Rattle.algo_text.specs.declared.definition.Def.{Def}
use Rattle.algo_text.specs.declared.definition.Defs.{Defs}
use Rattle.algo_text.specs.declared.definition.Body.{Body}
use Rattle.algo_text.specs.declared.definition.Body.TheVariants.{
  Sensor,
  Actuator,
  Constant,
  Delay,
  Function,
  Graph,
  Switch,
  Repeat,
}
use Rattle.algo_text.specs.declared.fault.AlgoCause.TheVariants.{NotText, BadLine, BadNumber, DuplicateName, BadDelay}
use Rattle.syn_base.specs.Bytes.{Bytes}
use Rattle.algo_text.specs.Among.{is_among}
use Rattle.algo_text.specs.Words.{number_of, count_of}
use Rattle.algo_text.specs.declared.part.Part.{Part}
use Rattle.algo_text.specs.declared.part.Part.TheVariants.{Conditioning, Inputs}
use Rattle.algo_text.specs.Parts.{is_whole}
use Rattle.algo_text.specs.Blocks.{
  Block,
  new_block,
  all_names,
  in_line,
  out_line,
  result_line,
  reference_line,
  edge_line,
  on_line,
  case_line,
  otherwise_line,
  fork_line,
  diffuse_line,
  iterate_line,
  join_line,
}
use Rattle.text_lines.specs.Refusals.{is_above, with_some, and_then, refused, above}
use Rattle.algo_text.specs.Refusals.{AlgoRefusal}

-- Where a line stands.
pub data Stage : Type 0 where
  before_version between in_function in_graph in_switch in_repeat : Stage

-- What was read so far: the version, the definitions, their names with the open block's, and the open block.
pub record Reading : Type 0 where
  pub stage : Stage
  pub version : ℕ
  pub names : List Bytes
  pub defs : List Def
  pub block : Block

-- What has been read before the first line: nothing. The first line with words has to
-- give the version.
abbrev pub start : Reading
start = record { stage = before_version; version = 0; names = []; defs = []; block = new_block Inputs [] 0 }

-- The version that a word is.
abbrev pub version_of : Bytes → Option ℕ
version_of w =
    if bytes_eq w (codes "1") then Some 1 else
    if bytes_eq w (codes "2") then Some 2 else
    if bytes_eq w (codes "3") then Some 3 else
    None

-- The first line, `algorithm VERSION`.
abbrev pub version_line : Reading → ℕ → List Bytes → Result Reading AlgoRefusal
version_line reading number words =
    if not (length words == 2) || not (begins words (codes "algorithm")) then refused number BadLine else
    with_some (version_of (word words 1)) (refused number BadLine) (λ version.
    Ok (record reading { stage = between; version = version }))

-- What was read with one definition more, if its name is new.
abbrev pub defined : Reading → ℕ → Bytes → Body → Result Reading AlgoRefusal
defined reading number name body =
    if is_among name reading.names then refused number (DuplicateName name) else
    Ok (record reading {
      names = reading.names ++ name ∷ [];
      defs = reading.defs ++ record { name = name; line = number; body = body } ∷ [];
    })

-- A line `sensor NAME LEN` or `actuator NAME LEN`.
abbrev pub end_line : (ℕ → Body) → Reading → ℕ → List Bytes → Result Reading AlgoRefusal
end_line body reading number words =
    if not (length words == 3) then refused number BadLine else
    all_names number (word words 1 ∷ [])
    (with_some (count_of (word words 2)) (refused number (BadNumber (word words 2))) (λ len.
    if is_above PortLength len then above PortLength len else
    defined reading number (word words 1) (body len)))

-- The numbers that words are, or the first word that is none.
abbrev pub numbers_of : ℕ → List Bytes → Result (List ℤ) AlgoRefusal
numbers_of number [] = Ok []
numbers_of number (w ∷ words) = with_some (number_of w) (refused number (BadNumber w)) (λ value.
    and_then (numbers_of number words) (λ values. Ok (value ∷ values)))

-- A line `constant NAME = V0 V1 ..`, and likewise `delay` in version 1.
abbrev pub values_line : (List ℤ → Body) → Reading → ℕ → List Bytes → Result Reading AlgoRefusal
values_line body reading number words =
    if nat_lt (length words) 4 || not (bytes_eq (word words 2) (codes "=")) then refused number BadLine else
    all_names number (word words 1 ∷ [])
    (and_then (numbers_of number (drop 3 words)) (λ values.
    if is_above PortLength (length values) then above PortLength (length values) else
    defined reading number (word words 1) (body values)))

-- A delay of this depth: its values are as many groups of equal length.
abbrev pub deep_delay : ℕ → ℕ → List ℤ → Result Body AlgoRefusal
deep_delay number depth values =
    if is_above limits.Delay depth then above limits.Delay depth else
    if not (length values % depth == 0) then refused number BadDelay else
    if is_above PortLength (length values / depth) then above PortLength (length values / depth) else
    Ok (Delay depth values)

-- A line `delay NAME DEPTH = V0 V1 ..`, from version 2 on.
abbrev pub deep_line : Reading → ℕ → List Bytes → Result Reading AlgoRefusal
deep_line reading number words =
    if nat_lt (length words) 5 || not (bytes_eq (word words 3) (codes "=")) then refused number BadLine else
    all_names number (word words 1 ∷ [])
    (with_some (count_of (word words 2)) (refused number (BadNumber (word words 2))) (λ depth.
    and_then (numbers_of number (drop 4 words)) (λ values.
    and_then (deep_delay number depth values) (defined reading number (word words 1)))))

-- A line `delay`, of depth 1 in version 1.
abbrev pub delay_line : Reading → ℕ → List Bytes → Result Reading AlgoRefusal
delay_line reading number words =
    if reading.version == 1 then values_line (Delay 1) reading number words else deep_line reading number words

-- What was read once this block is open, if its name is new.
abbrev pub opened : Stage → Reading → ℕ → Block → Result Reading AlgoRefusal
opened stage reading number block =
    if is_among block.name reading.names then refused number (DuplicateName block.name) else
    Ok (record reading { stage = stage; names = reading.names ++ block.name ∷ []; block = block })

-- The part with which a block begins.
abbrev pub first_part : Stage → Part
first_part in_switch = Conditioning
first_part _ = Inputs

-- A line `function NAME`, `graph NAME` or `switch NAME`.
abbrev pub opening_line : Stage → Reading → ℕ → List Bytes → Result Reading AlgoRefusal
opening_line stage reading number words =
    if not (length words == 2) then refused number BadLine else
    all_names number (word words 1 ∷ [])
    (opened stage reading number (new_block (first_part stage) (word words 1) number))

-- A line `repeat NAME COUNT DEF`.
abbrev pub repeat_line : Reading → ℕ → List Bytes → Result Reading AlgoRefusal
repeat_line reading number words =
    if not (length words == 4) then refused number BadLine else
    all_names number (word words 1 ∷ word words 3 ∷ [])
    (with_some (count_of (word words 2)) (refused number (BadNumber (word words 2))) (λ copies.
    if is_above Copies copies then above Copies copies else
    opened in_repeat reading number
    (record (new_block Inputs (word words 1) number) { copies = copies; def = word words 3 })))

-- A line between definitions.
abbrev pub between_line : Reading → ℕ → List Bytes → Result Reading AlgoRefusal
between_line reading number words =
    if begins words (codes "sensor") then end_line Sensor reading number words else
    if begins words (codes "actuator") then end_line Actuator reading number words else
    if begins words (codes "constant") then values_line Constant reading number words else
    if begins words (codes "delay") then delay_line reading number words else
    if begins words (codes "function") then opening_line in_function reading number words else
    if begins words (codes "graph") then opening_line in_graph reading number words else
    if begins words (codes "switch") then opening_line in_switch reading number words else
    if begins words (codes "repeat") then repeat_line reading number words else
    refused number BadLine

-- What was read, with the open block as a line leaves it.
abbrev pub in_block : Reading → Result Block AlgoRefusal → Result Reading AlgoRefusal
in_block reading (Ok block) = Ok (record reading { block = block })
in_block reading (Err e) = Err e

-- A line `end`, where the block is whole: it becomes a definition.
abbrev pub block_end : Bool → Body → Reading → ℕ → List Bytes → Result Reading AlgoRefusal
block_end whole body reading number words =
    if not (length words == 1) || not whole then refused number BadLine else
    Ok (record reading {
      stage = between;
      defs = reading.defs ++ record { name = reading.block.name; line = reading.block.line; body = body } ∷ [];
    })

-- A line of a function. Its block is whole once it has an output, and a switch's once it has its `otherwise`.
abbrev pub function_line : Reading → ℕ → List Bytes → Bytes → Result Reading AlgoRefusal
function_line reading number words code =
    if begins words (codes "in") then in_block reading (in_line reading.block number words) else
    if begins words (codes "out") then in_block reading (result_line reading.block number code) else
    if begins words (codes "end") then block_end (nat_lt 0 (length reading.block.results))
    (Function reading.block.ins reading.block.results) reading number words else
    refused number BadLine

-- A line of a graph: an input, an output, a reference, an edge, or `end`. Any other
-- line is refused.
abbrev pub graph_line : Reading → ℕ → List Bytes → Result Reading AlgoRefusal
graph_line reading number words =
    if begins words (codes "in") then in_block reading (in_line reading.block number words) else
    if begins words (codes "out") then in_block reading (out_line reading.block number words) else
    if begins words (codes "ref") then in_block reading (reference_line reading.version reading.block number words) else
    if begins words (codes "edge") then in_block reading (edge_line reading.block number words) else
    if begins words (codes "end") then block_end true
    (Graph reading.block.ins reading.block.outs reading.block.references reading.block.edges)
    reading number words else
    refused number BadLine

-- A line of a switch: its conditioning input, an input, an output, a case, `otherwise`, or `end`.
-- Any other line is refused.
abbrev pub switch_line : Reading → ℕ → List Bytes → Result Reading AlgoRefusal
switch_line reading number words =
    if begins words (codes "on") then in_block reading (on_line reading.block number words) else
    if begins words (codes "in") then in_block reading (in_line reading.block number words) else
    if begins words (codes "out") then in_block reading (out_line reading.block number words) else
    if begins words (codes "case") then in_block reading (case_line reading.block number words) else
    if begins words (codes "otherwise") then in_block reading (otherwise_line reading.block number words) else
    if begins words (codes "end") then block_end (is_whole reading.block.part)
    (Switch reading.block.on reading.block.ins reading.block.outs reading.block.cases
    reading.block.otherwise reading.block.otherwise_line)
    reading number words else
    refused number BadLine

-- A line of a repetition: a frontier line, or `end`. Any other line is refused.
abbrev pub frontier_line : Reading → ℕ → List Bytes → Result Reading AlgoRefusal
frontier_line reading number words =
    if begins words (codes "fork") then in_block reading (fork_line reading.block number words) else
    if begins words (codes "diffuse") then in_block reading (diffuse_line reading.block number words) else
    if begins words (codes "iterate") then in_block reading (iterate_line reading.block number words) else
    if begins words (codes "join") then in_block reading (join_line reading.block number words) else
    if begins words (codes "end") then block_end true
    (Repeat reading.block.copies reading.block.def reading.block.frontier) reading number words else
    refused number BadLine

-- A line with words, by where it stands.
abbrev pub by_stage : Stage → Reading → ℕ → List Bytes → Bytes → Result Reading AlgoRefusal
by_stage before_version reading number words code = version_line reading number words
by_stage between reading number words code = between_line reading number words
by_stage in_function reading number words code = function_line reading number words code
by_stage in_graph reading number words code = graph_line reading number words
by_stage in_switch reading number words code = switch_line reading number words
by_stage in_repeat reading number words code = frontier_line reading number words

-- What has been read after a line, given the place of its first foreign byte, if it has one. Such a
-- byte refuses the line before anything else, and a line without words changes nothing.
abbrev pub line_by : Reading → ℕ → Bytes → Option ℕ → Result Reading AlgoRefusal
line_by reading number line (Some place) = refused number (NotText place)
line_by reading number line None =
    if length (words_of (code_of line)) == 0 then Ok reading else
    by_stage reading.stage reading number (words_of (code_of line)) (code_of line)

-- The next line; one without words says nothing.
abbrev pub next_line : Reading → ℕ → Bytes → Result Reading AlgoRefusal
next_line reading number line = line_by reading number line (foreign_place line)

-- The version and the definitions that were read.
abbrev pub defs_in : Reading → Defs
defs_in reading = record { version = reading.version; defs = reading.defs }

-- The end of the text, whose lines are numbered below this.
abbrev pub at_end : Stage → Defs → ℕ → Result Defs AlgoRefusal
at_end between defs number = Ok defs
at_end before_version defs number = refused number BadLine
at_end in_function defs number = refused number BadLine
at_end in_graph defs number = refused number BadLine
at_end in_switch defs number = refused number BadLine
at_end in_repeat defs number = refused number BadLine

-- The lines from the one with this number on.
abbrev pub rest_of : Reading → ℕ → List Bytes → Result Defs AlgoRefusal
rest_of reading number [] = at_end reading.stage (defs_in reading) number
rest_of reading number (line ∷ lines) =
    and_then (next_line reading number line) (λ after. rest_of after (number + 1) lines)

-- What the bytes of a text say.
abbrev pub definitions_of : Bytes → Result Defs AlgoRefusal
definitions_of text = rest_of start 1 (lines_of text)
