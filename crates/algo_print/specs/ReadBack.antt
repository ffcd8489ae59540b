-- Definitions up to the numbers of their lines, and what it is to read back.
use Rattle.std.specs.Prelude.{◌≡◌, map, Ok}
use Rattle.algo_text.specs.declared.definition.Def.{Def}
use Rattle.algo_text.specs.declared.definition.Defs.{Defs}
use Rattle.algo_text.specs.declared.definition.Body.{Body}
use Rattle.algo_text.specs.declared.definition.Body.TheVariants.{
  Sensor,
  Actuator,
  Constant,
  Delay,
  Function,
  Graph,
  Switch,
  Repeat,
}
use Rattle.algo_text.specs.declared.definition.Reference.{Reference}
use Rattle.algo_text.specs.declared.definition.Edge.{Edge}
use Rattle.algo_text.specs.declared.definition.Case.{Case}
use Rattle.algo_text.specs.declared.definition.FrontierLine.{FrontierLine}
use Rattle.syn_base.specs.Bytes.{Bytes}
use Rattle.algo_text.specs.Text.{definitions_of}

-- The same with its line's number forgotten.
abbrev pub bare_reference : Reference → Reference
bare_reference r = record { name = r.name; def = r.def; every = r.every; line = 0 }

-- The edge with 0 for the number of its line.
abbrev pub bare_edge : Edge → Edge
bare_edge e = record { from = e.from; to = e.to; line = 0 }

-- The case with 0 for the number of its line.
abbrev pub bare_case : Case → Case
bare_case c = record { value = c.value; def = c.def; line = 0 }

-- The frontier line with 0 for its number.
abbrev pub bare_frontier : FrontierLine → FrontierLine
bare_frontier l = record { frontier = l.frontier; line = 0 }

-- The body with 0 for the number of each line in it.
abbrev pub bare_body : Body → Body
bare_body (Sensor len) = Sensor len
bare_body (Actuator len) = Actuator len
bare_body (Constant values) = Constant values
bare_body (Delay depth values) = Delay depth values
bare_body (Function ins outs) = Function ins outs
bare_body (Graph ins outs references edges) = Graph ins outs (map bare_reference references) (map bare_edge edges)
bare_body (Switch on ins outs cases otherwise line) = Switch on ins outs (map bare_case cases) otherwise 0
bare_body (Repeat copies def lines) = Repeat copies def (map bare_frontier lines)

-- The definition with 0 for the number of each of its lines, so that what it says can be compared.
abbrev pub bare : Def → Def
bare d = record { name = d.name; line = 0; body = bare_body d.body }

-- The text says these definitions in their version, at whatever lines.
pub record Says (text : Bytes) (defs : Defs) : Type 0 where
  pub read : Defs
  pub says : definitions_of text ≡ Ok read
  pub version : read.version ≡ defs.version
  pub same : map bare read.defs ≡ map bare defs.defs
