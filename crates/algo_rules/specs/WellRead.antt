-- What the definitions of every accepted text keep: names are names and given once, and lengths and numbers of lines
-- are within their bounds.
use Rattle.std.specs.Prelude.{◌≡◌, ℕ, ◌≤◌, ◌*◌, ◌/◌, ℤ, List, ◌∷◌, ◌++◌, All, length, map, true}
use Rattle.syn_base.specs.Name.{is_name}
use Rattle.algo_tree.specs.Typed.{IsLength}
use Rattle.algo_tree.specs.Well.{AreDistinctNames}
use Rattle.algo_text.specs.Expr.{PortsBelow}
use Rattle.algo_text.specs.declared.Port.{Port}
use Rattle.algo_text.specs.declared.definition.Def.{Def}
use Rattle.algo_text.specs.declared.definition.Output.{Output}
use Rattle.algo_text.specs.declared.definition.Reference.{Reference}
use Rattle.algo_text.specs.declared.definition.Case.{Case}
use Rattle.algo_text.specs.declared.definition.FrontierLine.{FrontierLine}
use Rattle.algo_text.specs.declared.definition.Body.{Body}
use Rattle.algo_text.specs.declared.definition.Body.TheVariants.{
  Sensor,
  Actuator,
  Constant,
  Delay,
  Function,
  Graph,
  Switch,
  Repeat,
}
use Rattle.syn_base.specs.Bytes.{Bytes}
use Rattle.algo_text.specs.Outer.{all_outer}

-- The word is a name.
abbrev pub IsName : Bytes → Type 0
IsName w = is_name w ≡ true

-- The names of the ports, in order.
abbrev pub port_names : List Port → List Bytes
port_names ps = map (λ p. p.name) ps

-- At most 64 ports of 1 to 64 elements.
pub record ArePorts (ps : List Port) : Type 0 where
  pub few : length ps ≤ 64
  pub named : All (λ p. IsName p.name) ps
  pub sized : All (λ p. IsLength p.len) ps

-- The output ports of a function, in order.
abbrev pub ports_in : List Output → List Port
ports_in outs = map (λ o. o.port) outs

-- A function has ports within their bounds, at least one of them an output, no two of the same
-- name, and expressions that name only its inputs.
pub record IsFunction (ins : List Port) (outs : List Output) : Type 0 where
  pub inputs : ArePorts ins
  pub outputs : ArePorts (ports_in outs)
  pub some : 1 ≤ length outs
  pub distinct : AreDistinctNames (port_names ins ++ port_names (ports_in outs))
  pub formulas : All (λ o. PortsBelow (length ins) o.formula) outs

-- A graph has ports and references within their bounds. No two ports have the same name, and
-- no two references.
pub record IsGraph (ins outs : List Port) (references : List Reference) : Type 0 where
  pub inputs : ArePorts ins
  pub outputs : ArePorts outs
  pub distinct : AreDistinctNames (port_names ins ++ port_names outs)
  pub few : length references ≤ 64
  pub named : All (λ r. IsName r.name) references
  pub once : AreDistinctNames (map (λ r. r.name) references)

-- A switch has ports and cases within their bounds. No two ports, the conditioning one included,
-- have the same name.
pub record IsSwitch (on : Bytes) (ins outs : List Port) (cases : List Case) : Type 0 where
  pub named : IsName on
  pub inputs : ArePorts ins
  pub outputs : ArePorts outs
  pub distinct : AreDistinctNames (on ∷ (port_names ins ++ port_names outs))
  pub few : length cases ≤ 64

-- A repetition has 1 to 64 copies and at most 64 frontier lines. No two outer ports
-- have the same name.
pub record IsRepetition (copies : ℕ) (lines : List FrontierLine) : Type 0 where
  pub some : 1 ≤ copies
  pub most : copies ≤ 64
  pub few : length lines ≤ 64
  pub named : All IsName (all_outer lines)
  pub distinct : AreDistinctNames (all_outer lines)

-- As many groups as the depth, each of one length.
pub record IsDelay (depth : ℕ) (values : List ℤ) : Type 0 where
  pub some : 1 ≤ depth
  pub most : depth ≤ 16
  pub whole : length values ≡ depth * (length values / depth)
  pub sized : IsLength (length values / depth)

-- The body keeps what is checked line by line when a text is read: the bounds, and that names are
-- names and are given once.
abbrev pub IsWellRead : Body → Type 0
IsWellRead (Sensor n) = IsLength n
IsWellRead (Actuator n) = IsLength n
IsWellRead (Constant values) = IsLength (length values)
IsWellRead (Delay depth values) = IsDelay depth values
IsWellRead (Function ins outs) = IsFunction ins outs
IsWellRead (Graph ins outs references edges) = IsGraph ins outs references
IsWellRead (Switch on ins outs cases otherwise last) = IsSwitch on ins outs cases
IsWellRead (Repeat copies def lines) = IsRepetition copies lines

-- The definitions have names, no two the same, and each body keeps what is checked line by line.
pub record AreWellRead (ds : List Def) : Type 0 where
  pub named : All (λ d. IsName d.name) ds
  pub once : AreDistinctNames (map (λ d. d.name) ds)
  pub bodies : All (λ d. IsWellRead d.body) ds
