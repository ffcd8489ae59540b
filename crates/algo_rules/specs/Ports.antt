-- The ports of definitions, where no depth is above 8.
use Rattle.std.specs.Prelude.{
  ℕ,
  zero,
  suc,
  ◌*◌,
  ◌/◌,
  Bool,
  true,
  false,
  ◌&&◌,
  ◌==◌,
  List,
  [],
  ◌∷◌,
  length,
  map,
  Option,
  Some,
  None,
  if◌then◌else◌,
  codes,
}
use Rattle.std.specs.List.{flat_map, list_any, position_or_len}
use Rattle.std.specs.Str.{bytes_eq}
use Rattle.algo_text.specs.declared.Port.{Port}
use Rattle.algo_text.specs.declared.definition.Def.{Def}
use Rattle.algo_text.specs.declared.definition.Body.{Body}
use Rattle.algo_text.specs.declared.definition.Body.TheVariants.{
  Sensor,
  Actuator,
  Constant,
  Delay,
  Function,
  Graph,
  Switch,
  Repeat,
}
use Rattle.algo_text.specs.declared.definition.Frontier.{Frontier}
use Rattle.algo_text.specs.declared.definition.Frontier.TheVariants.{Fork, Diffuse, Iterate, Join}
use Rattle.algo_text.specs.declared.definition.FrontierLine.{FrontierLine}
use Rattle.syn_base.specs.Bytes.{Bytes}
use Rattle.algo_rules.specs.Links.{definition}
use Rattle.algo_rules.specs.declared.ports.Ports.{Ports}
use Rattle.syn_base.specs.Limits.{most_depth}

-- No inputs and no outputs.
abbrev pub no_ports : Ports
no_ports = record { ins = []; outs = [] }

-- The port with this name and length.
abbrev pub port : Bytes → ℕ → Port
port name len = record { name = name; len = len }

-- A list that holds the port with this name and length.
abbrev pub one_port : Bytes → ℕ → List Port
one_port name len = port name len ∷ []

-- One of the ports has this name.
abbrev pub has_port : List Port → Bytes → Bool
has_port ps w = list_any (λ p. bytes_eq w p.name) ps

-- The length of the port of a name, 0 where there is none.
abbrev pub len_of : List Port → Bytes → ℕ
len_of [] w = 0
len_of (p ∷ ps) w = if bytes_eq w p.name then p.len else len_of ps w

-- The number of the port of a name.
abbrev pub number_of : List Port → Bytes → ℕ
number_of ps w = position_or_len (λ p. bytes_eq w p.name) ps

-- The lengths of the ports, in order.
abbrev pub lens_of : List Port → List ℕ
lens_of ps = map (λ p. p.len) ps

-- The outer ports of a frontier line, in this many copies of a body with these ports.
abbrev pub outer_ins : ℕ → Ports → Frontier → List Port
outer_ins copies inner (Fork p x) = one_port p (copies * len_of inner.ins x)
outer_ins copies inner (Diffuse p x) = one_port p (len_of inner.ins x)
outer_ins copies inner (Iterate p x y q) = one_port p (len_of inner.ins x)
outer_ins copies inner (Join y q) = []

-- A list that holds the outer output of a frontier line, in this many copies of a body with these
-- ports; `fork` and `diffuse` have none.
abbrev pub outer_outs : ℕ → Ports → Frontier → List Port
outer_outs copies inner (Fork p x) = []
outer_outs copies inner (Diffuse p x) = []
outer_outs copies inner (Iterate p x y q) = one_port q (len_of inner.outs y)
outer_outs copies inner (Join y q) = one_port q (copies * len_of inner.outs y)

-- The ports of a repetition of this many copies of a body with these ports: the outer ports of its
-- lines, line by line.
abbrev pub outer_ports : ℕ → Ports → List FrontierLine → Ports
outer_ports copies inner lines = record {
  ins = flat_map (λ l. outer_ins copies inner l.frontier) lines;
  outs = flat_map (λ l. outer_outs copies inner l.frontier) lines;
}

-- The ports of a body, from those of the definitions that it names.
abbrev pub ports_by : (Bytes → Ports) → Body → Ports
ports_by of (Sensor n) = record { ins = []; outs = one_port (codes "o") n }
ports_by of (Actuator n) = record { ins = one_port (codes "i") n; outs = [] }
ports_by of (Constant values) = record { ins = []; outs = one_port (codes "o") (length values) }
ports_by of (Delay depth values) = record {
  ins = one_port (codes "i") (length values / depth);
  outs = one_port (codes "o") (length values / depth);
}
ports_by of (Function ins outs) = record { ins = ins; outs = map (λ o. o.port) outs }
ports_by of (Graph ins outs references edges) = record { ins = ins; outs = outs }
ports_by of (Switch on ins outs cases otherwise last) = record { ins = port on 1 ∷ ins; outs = outs }
ports_by of (Repeat copies def lines) = outer_ports copies (of def) lines

-- The ports of a definition, from those of the definitions that it names; none if there
-- is no definition.
abbrev pub ports_in : (Bytes → Ports) → Option Def → Ports
ports_in of None = no_ports
ports_in of (Some d) = ports_by of d.body

-- The ports of the definition of this name, if all that is more than n definitions deep counts as
-- having no ports.
abbrev pub ports_within : List Def → ℕ → Bytes → Ports
ports_within ds zero w = no_ports
ports_within ds (suc n) w = ports_in (ports_within ds n) (definition ds w)

-- The ports of the definition of this name; none if there is no such definition. They are right if
-- no depth is above 8.
abbrev pub ports_of : List Def → Bytes → Ports
ports_of ds w = ports_within ds most_depth w

-- Both lists have ports of the same names and lengths, in the same order.
abbrev pub same_ports : List Port → List Port → Bool
same_ports [] [] = true
same_ports [] (q ∷ qs) = false
same_ports (p ∷ ps) [] = false
same_ports (p ∷ ps) (q ∷ qs) = (bytes_eq p.name q.name && (p.len == q.len)) && same_ports ps qs
