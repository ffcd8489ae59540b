-- The names of the outer ports of a repetition, as its frontier lines give them. Names of inner ports may repeat.
use Rattle.std.specs.Prelude.{List, [], ◌∷◌, ◌++◌}
use Rattle.algo_text.specs.declared.definition.Frontier.{Frontier}
use Rattle.algo_text.specs.declared.definition.Frontier.TheVariants.{Fork, Diffuse, Iterate, Join}
use Rattle.algo_text.specs.declared.definition.FrontierLine.{FrontierLine}
use Rattle.syn_base.specs.Bytes.{Bytes}

-- The outer ports that a frontier line names, in the order of its words: two for
-- `iterate`, else one.
abbrev pub outer_names : Frontier → List Bytes
outer_names (Fork p x) = p ∷ []
outer_names (Diffuse p x) = p ∷ []
outer_names (Iterate p x y q) = p ∷ q ∷ []
outer_names (Join y q) = q ∷ []

-- The outer ports that these lines name, line by line.
abbrev pub all_outer : List FrontierLine → List Bytes
all_outer [] = []
all_outer (l ∷ ls) = outer_names l.frontier ++ all_outer ls
