-- Operations whose sources lead to operations. In the flat list of a tree all do, since the lengths of a tree fit.
use Rattle.std.specs.Prelude.{List, [], ◌∷◌}
use Rattle.algo_tree.specs.declared.Source.{Source}
use Rattle.algo_tree.specs.declared.Source.TheVariants.{Own, Of}
use Rattle.algo_tree.specs.declared.Guard.{Guard}
use Rattle.flat_laws.specs.Flat.{Operation}

-- The source is an output of an operation.
abbrev pub IsFound : Source → Type 0
IsFound (Own k) = ⊥
IsFound (Of v p) = Unit {0}

abbrev pub AreFound : List Source → Type 0
AreFound [] = Unit {0}
AreFound (s ∷ ss) = IsFound s × AreFound ss

abbrev pub GuardsFound : List Guard → Type 0
GuardsFound [] = Unit {0}
GuardsFound (g ∷ gs) = IsFound g.source × GuardsFound gs

abbrev pub AllLinked : List Operation → Type 0
AllLinked [] = Unit {0}
AllLinked (op ∷ ops) = (AreFound op.ins × GuardsFound op.guards) × AllLinked ops
