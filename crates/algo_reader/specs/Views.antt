-- What contracts see of the open block and of the reader, as `algo_text` defines blocks and what was read.
use Rattle.std.specs.Prelude.{
  ℕ,
  ℤ,
  Bool,
  nat_lt,
  length,
  true,
  false,
  List,
  [],
  ◌∷◌,
  ◌++◌,
  Option,
  Some,
  None,
  Result,
  Ok,
  Err,
}
use Rattle.syn_base.specs.Bytes.{Bytes}
use Rattle.text_lines.specs.Refusals.{refused}
use Rattle.algo_text.specs.Refusals.{AlgoRefusal}
use Rattle.algo_text.specs.declared.definition.Def.{Def}
use Rattle.algo_text.specs.declared.definition.Frontier.{Frontier}
use Rattle.algo_text.specs.declared.definition.Body.{Body}
use Rattle.algo_text.specs.declared.definition.Body.TheVariants.{
  Sensor,
  Actuator,
  Constant,
  Delay,
  Function,
  Graph,
  Switch,
  Repeat,
}
use Rattle.algo_text.specs.declared.fault.AlgoCause.TheVariants.{BadLine}
use Rattle.algo_text.specs.declared.part.Part.{Part}
use Rattle.algo_text.specs.declared.part.Part.TheVariants as parts
use Rattle.algo_text.specs.Parts.{is_whole}
use Rattle.algo_text.specs.Blocks.{Block, new_block}
use Rattle.algo_text.specs.Text.{
  Stage,
  before_version,
  between,
  in_function,
  in_graph,
  in_switch,
  in_repeat,
  Reading,
  block_end,
}
use Rattle.algo_reader.specs.declared.function.FunctionBlock.{FunctionBlock}
use Rattle.algo_reader.specs.declared.graph.GraphBlock.{GraphBlock}
use Rattle.algo_reader.specs.declared.switch.SwitchBlock.{SwitchBlock}
use Rattle.algo_reader.specs.declared.switch.SwitchPart.{SwitchPart}
use Rattle.algo_reader.specs.declared.switch.SwitchPart.TheVariants.{Inputs, Outputs, Cases, Whole}
use Rattle.algo_reader.specs.declared.repetition.RepeatBlock.{RepeatBlock}
use Rattle.algo_reader.specs.declared.reader.Reader.{Reader}
use Rattle.algo_reader.specs.declared.reader.Kind.{Kind}
use Rattle.algo_reader.specs.declared.reader.Kind.TheVariants as kinds
use Rattle.algo_reader.specs.declared.reader.EndKind.{EndKind}
use Rattle.algo_reader.specs.declared.reader.EndKind.TheVariants as ends
use Rattle.algo_reader.specs.declared.reader.ValuesKind.{ValuesKind}
use Rattle.algo_reader.specs.declared.reader.ValuesKind.TheVariants as values
use Rattle.algo_reader.specs.declared.reader.Place.{Place}
use Rattle.algo_reader.specs.declared.reader.Place.TheVariants as places

-- The block that the lines of a function so far are.
abbrev pub function_view : FunctionBlock → Block
function_view block = record (new_block parts.Inputs block.name block.line) {
  part = block.part;
  ins = block.ins;
  results = block.results.items;
}

-- The block that the lines of a graph so far are.
abbrev pub graph_view : GraphBlock → Block
graph_view block = record (new_block parts.Inputs block.name block.line) {
  part = block.part;
  ins = block.ins;
  outs = block.outs;
  references = block.references.items;
  edges = block.edges.items;
}

-- The name of the conditioning input, which is empty before its line is read.
abbrev pub on_of : Option Bytes → Bytes
on_of None = []
on_of (Some on) = on

-- The part of a switch in which its last line stands.
abbrev pub part_of : Option Bytes → SwitchPart → Part
part_of None _ = parts.Conditioning
part_of (Some on) Inputs = parts.Inputs
part_of (Some on) Outputs = parts.Outputs
part_of (Some on) Cases = parts.Cases
part_of (Some on) (Whole def line) = parts.Whole

-- The definition of `otherwise`, which is empty before its line is read.
abbrev pub otherwise_of : Option Bytes → SwitchPart → Bytes
otherwise_of None _ = []
otherwise_of (Some on) Inputs = []
otherwise_of (Some on) Outputs = []
otherwise_of (Some on) Cases = []
otherwise_of (Some on) (Whole def line) = def

-- The line of `otherwise`, which is 0 before it is read.
abbrev pub otherwise_line_of : Option Bytes → SwitchPart → ℕ
otherwise_line_of None _ = 0
otherwise_line_of (Some on) Inputs = 0
otherwise_line_of (Some on) Outputs = 0
otherwise_line_of (Some on) Cases = 0
otherwise_line_of (Some on) (Whole def line) = line

-- The block that the lines of a switch so far are.
abbrev pub switch_view : SwitchBlock → Block
switch_view block = record (new_block parts.Conditioning block.name block.line) {
  part = part_of block.on block.part;
  on = on_of block.on;
  ins = block.ins;
  outs = block.outs;
  cases = block.cases.items;
  otherwise = otherwise_of block.on block.part;
  otherwise_line = otherwise_line_of block.on block.part;
}

-- The block that the lines of a repetition so far are.
abbrev pub repeat_view : RepeatBlock → Block
repeat_view block = record (new_block parts.Inputs block.name block.line) {
  copies = block.copies;
  def = block.def;
  frontier = block.frontier.items;
}

-- A repetition with one line more.
abbrev pub with_line : Block → ℕ → Frontier → Block
with_line block line frontier =
    record block { frontier = block.frontier ++ record { frontier = frontier; line = line } ∷ [] }

-- Where the next line stands.
abbrev pub stage_of : Place → Stage
stage_of places.BeforeVersion = before_version
stage_of places.Between = between
stage_of (places.InFunction block) = in_function
stage_of (places.InGraph block) = in_graph
stage_of (places.InSwitch block) = in_switch
stage_of (places.InRepeat block) = in_repeat

-- The open block, which is empty where none is open.
abbrev pub block_of : Place → Block
block_of places.BeforeVersion = new_block parts.Inputs [] 0
block_of places.Between = new_block parts.Inputs [] 0
block_of (places.InFunction block) = function_view block
block_of (places.InGraph block) = graph_view block
block_of (places.InSwitch block) = switch_view block
block_of (places.InRepeat block) = repeat_view block

-- What a reader has read.
abbrev pub reading : Reader → Reading
reading reader = record {
  stage = stage_of reader.place;
  version = reader.version;
  names = reader.names;
  defs = reader.defs.items;
  block = block_of reader.place;
}

-- The block that is open at a stage: between definitions it is empty.
abbrev pub open_at : Stage → Block → Block
open_at before_version block = block
open_at between block = new_block parts.Inputs [] 0
open_at in_function block = block
open_at in_graph block = block
open_at in_switch block = block
open_at in_repeat block = block

-- What was read, without the block that has ended.
abbrev pub settled : Reading → Reading
settled read = record read { block = open_at read.stage read.block }

-- The same where a line may be refused.
abbrev pub settle : Result Reading AlgoRefusal → Result Reading AlgoRefusal
settle (Ok read) = Ok (settled read)
settle (Err e) = Err e

-- The stage that a block of this kind opens.
abbrev pub stage_for : Kind → Stage
stage_for kinds.Function = in_function
stage_for kinds.Graph = in_graph
stage_for kinds.Switch = in_switch

-- The body of a sensor or an actuator of this length.
abbrev pub end_body : EndKind → ℕ → Body
end_body ends.Sensor = Sensor
end_body ends.Actuator = Actuator

-- The body of a constant, or of a delay of depth 1, with these values.
abbrev pub values_body : ValuesKind → List ℤ → Body
values_body values.Constant = Constant
values_body values.Delay = Delay 1

-- The definition that a block becomes.
abbrev pub as_def : Block → Body → Def
as_def block body = record { name = block.name; line = block.line; body = body }

abbrev pub function_def : Block → Def
function_def block = as_def block (Function block.ins block.results)

abbrev pub graph_def : Block → Def
graph_def block = as_def block (Graph block.ins block.outs block.references block.edges)

abbrev pub switch_def : Block → Def
switch_def block =
    as_def block (Switch block.on block.ins block.outs block.cases block.otherwise block.otherwise_line)

abbrev pub repeat_def : Block → Def
repeat_def block = as_def block (Repeat block.copies block.def block.frontier)

-- What was read once the open block has become this definition.
abbrev pub ended : Reading → Def → Reading
ended read def = record read { stage = between; defs = read.defs ++ def ∷ []; block = new_block parts.Inputs [] 0 }

-- Whether no block is open and the version was read.
abbrev pub is_between : Stage → Bool
is_between before_version = false
is_between between = true
is_between in_function = false
is_between in_graph = false
is_between in_switch = false
is_between in_repeat = false

-- What the line `end` makes of a function, which has an output.
abbrev pub function_end : Reading → ℕ → List Bytes → Result Reading AlgoRefusal
function_end read line words =
    block_end (nat_lt 0 (length read.block.results)) (Function read.block.ins read.block.results) read line words

abbrev pub graph_end : Reading → ℕ → List Bytes → Result Reading AlgoRefusal
graph_end read line words =
    block_end true (Graph read.block.ins read.block.outs read.block.references read.block.edges) read line words

-- What the line `end` makes of a switch, which has its `otherwise`.
abbrev pub switch_end : Reading → ℕ → List Bytes → Result Reading AlgoRefusal
switch_end read line words =
    block_end (is_whole read.block.part)
    (Switch read.block.on read.block.ins read.block.outs read.block.cases
    read.block.otherwise read.block.otherwise_line)
    read line words

abbrev pub repeat_end : Reading → ℕ → List Bytes → Result Reading AlgoRefusal
repeat_end read line words =
    block_end true (Repeat read.block.copies read.block.def read.block.frontier) read line words

-- What the line `end` makes of the block that is open at a stage.
abbrev pub any_end : Stage → Reading → ℕ → List Bytes → Result Reading AlgoRefusal
any_end before_version read line words = refused line BadLine
any_end between read line words = refused line BadLine
any_end in_function read line words = function_end read line words
any_end in_graph read line words = graph_end read line words
any_end in_switch read line words = switch_end read line words
any_end in_repeat read line words = repeat_end read line words
