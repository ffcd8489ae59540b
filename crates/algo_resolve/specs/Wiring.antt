-- The edges of a graph by the owner of the ports into which they lead.
use Rattle.std.specs.Prelude.{List, [], ◌∷◌, Option, if◌then◌else◌}
use Rattle.std.specs.Str.{bytes_eq}
use Rattle.body_lang.specs.declared.expression.Port.{Port}
use Rattle.syn_base.specs.Bytes.{Bytes}
use Rattle.algo_laws.specs.declared.Source.{Source}
use Rattle.algo_laws.specs.declared.Source.TheVariants.{Own}
use Rattle.algo_laws.specs.declared.Reference.{Reference}
use Rattle.algo_laws.specs.declared.Edge.{Edge}
use Rattle.algo_laws.specs.Graphs.{same_owner}
use Rattle.algo_laws.specs.Resolved.{source_from}
use Rattle.algo_laws.specs.declared.Ports.{Ports}

-- The edges that lead to this owner, in order.
abbrev pub into : Option Bytes → List Edge → List Edge
into owner [] = []
into owner (e ∷ es) = if same_owner e.to.owner owner then e ∷ into owner es else into owner es

-- Where the first edge into a port of this name comes from, whatever its owner.
abbrev pub source_among : (Bytes → Ports) → List Port → List Reference → List Edge → Bytes → Source
source_among of ins references [] w = Own 0
source_among of ins references (e ∷ es) w =
    if bytes_eq e.to.port w then source_from of ins references e.from.owner e.from.port else
    source_among of ins references es w
