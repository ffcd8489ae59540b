-- What contracts see of the values that the reader handles.
use Rattle.std.specs.Prelude.{ℕ, List, map, Result}
use Rattle.executive_program.specs.declared.program.SeqCode.{SeqCode}
use Rattle.syn_base.specs.Bytes.{Bytes}
use Rattle.macro_code.specs.Refusals.{CodeRefusal}
use Rattle.macro_code.specs.Forms.{arguments_of}
use Rattle.macro_code.specs.ReadText.{Reading, call_line}
use Rattle.code_lines.specs.declared.instruction.Operation.{Operation}
use Rattle.code_lines.specs.Views.{instr_of}
use Rattle.code_reader.specs.declared.written.WrittenCode.{WrittenCode}

-- the code of a sequence
abbrev pub code_of : WrittenCode → SeqCode
code_of c = record { seq = c.seq; prologue = map instr_of c.prologue; turn = map instr_of c.turn }

-- a line of an operation
abbrev pub operation_line : List Bytes → Reading → ℕ → Operation → Result Reading CodeRefusal
operation_line operations r line o =
    call_line operations r line o.name.now (arguments_of o.ins.now) (arguments_of o.outs.now)
