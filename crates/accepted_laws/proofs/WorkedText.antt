-- A worked text, from its definitions: its repetition has the lines `fork q w`, `fork p v` and `join z z` over a body with the inputs
-- v and w, so the explode of q stands first. The same with a mark on its reference.
use Rattle.std.proofs.Common.{◌≡◌, ℕ, List, [], ◌∷◌, ◌++◌, decimal, map, Option, Some, None, Ok, refl, codes}
use Rattle.syn_base.specs.declared.arithmetic.Op.TheVariants.{Add}
use Rattle.syn_base.specs.Bytes.{Bytes}
use Rattle.algo_laws.specs.declared.Part.TheVariants.{Named, Numbered}
use Rattle.algo_laws.specs.Level.{Path}
use Rattle.algo_laws.specs.Tree.{explode, implode}
use Rattle.algo_laws.specs.declared.Port.{Port}
use Rattle.algo_laws.specs.Expr.{sum_over, apply}
use Rattle.algo_laws.specs.declared.Def.{Def}
use Rattle.algo_laws.specs.declared.Body.TheVariants.{Sensor, Actuator, Function, Graph, Repeat}
use Rattle.algo_laws.specs.declared.Reference.{Reference}
use Rattle.algo_laws.specs.declared.Edge.{Edge}
use Rattle.algo_laws.specs.declared.Frontier.TheVariants.{Fork, Join}
use Rattle.algo_laws.specs.declared.FrontierLine.{FrontierLine}
use Rattle.algo_laws.specs.Resolved.{refusal, tree_of}
use Rattle.flat_laws.specs.Flat.{runs}
use Rattle.flat_laws.specs.FlatOf.{flat_of}
use Rattle.multi_period.specs.declared.mark.Mark.{Mark}
use Rattle.multi_period.specs.Periods.{periods}
use Rattle.elaboration.specs.Elaborated.{elaboration_of}
use Rattle.flat_laws.specs.Origins.{inside, port, operation_name}
use Rattle.flat_laws.specs.Table.{Row, table}
use Rattle.flat_laws.specs.Listed.{flat_rows}

abbrev one : Bytes → Port
one x = record { name = x; len = 1 }

abbrev lines : List FrontierLine
lines =
    record { frontier = Fork (codes "q") (codes "w"); line = 10 }
    ∷ record { frontier = Fork (codes "p") (codes "v"); line = 11 }
    ∷ record { frontier = Join (codes "z") (codes "z"); line = 12 } ∷ []

-- the reference to the repetition may have a mark
abbrev references : Option ℕ → List Reference
references every =
    record { name = codes "s"; def = codes "S"; every = None; line = 15 }
    ∷ record { name = codes "t"; def = codes "S"; every = None; line = 16 }
    ∷ record { name = codes "r"; def = codes "R"; every = every; line = 17 }
    ∷ record { name = codes "a"; def = codes "A"; every = None; line = 18 } ∷ []

abbrev edge : Bytes → Bytes → Bytes → Bytes → Edge
edge r p s q = record { from = record { owner = Some r; port = p }; to = record { owner = Some s; port = q }; line = 19 }

abbrev edges : List Edge
edges = edge (codes "s") (codes "o") (codes "r") (codes "q") ∷ edge (codes "t") (codes "o") (codes "r") (codes "p") ∷ edge (codes "r") (codes "z") (codes "a") (codes "i") ∷ []

abbrev definitions_by : Option ℕ → List Def
definitions_by every =
    record { name = codes "S"; line = 2; body = Sensor 2 }
    ∷ record { name = codes "A"; line = 3; body = Actuator 2 }
    ∷ record { name = codes "Add"; line = 4; body = Function (one (codes "v") ∷ one (codes "w") ∷ []) (record { port = one (codes "z"); formula = apply Add (sum_over 0) (sum_over 1) } ∷ []) }
    ∷ record { name = codes "R"; line = 9; body = Repeat 2 (codes "Add") lines }
    ∷ record { name = codes "main"; line = 14; body = Graph [] [] (references every) edges } ∷ []

abbrev definitions : List Def
definitions = definitions_by None

accepted : refusal definitions ≡ None
accepted = refl

-- in order: the sensors, the explodes of q and of p, the copies, the implode and the actuator
names : map (λ (r : Row). r.name) (table (tree_of definitions)) ≡
    codes "s" ∷ codes "t" ∷ codes "r:q" ∷ codes "r:p" ∷ (codes "r" ++ (codes "." ++ decimal 0 ++ []) ++ []) ∷ (codes "r" ++ (codes "." ++ decimal 1 ++ []) ++ []) ∷ codes "r:z" ∷ codes "a" ∷ []
names = refl

flattened : flat_rows (flat_of (tree_of definitions)) ≡ table (tree_of definitions)
flattened = refl

-- with a mark the repetition runs in every second reaction, inside the graph that its reference becomes: the explode of q still stands first
abbrev marked : List Def
marked = definitions_by (Some 2)

abbrev marks : List Mark
marks = record { reference = 2; every = 2 } ∷ []

elaborated : elaboration_of (record { version = 3; defs = marked }) ≡ Ok (periods marks (tree_of marked))
elaborated = refl

abbrev run : Path
run = Named (codes "r") ∷ Named (codes "body") ∷ Numbered 0 ∷ Named (codes "run") ∷ []

marked_names : map (λ (r : Row). r.name) (table (periods marks (tree_of marked))) ≡
    codes "s" ∷ codes "t"
    ∷ codes "r/count:get" ∷ codes "r/count:set" ∷ (codes "r/count:get." ++ decimal 1) ∷ (codes "r/count:set." ++ decimal 1)
    ∷ codes "r/keep_z:get" ∷ codes "r/keep_z:set"
    ∷ operation_name (port run (codes "q")) (runs explode) 0
    ∷ operation_name (port run (codes "p")) (runs explode) 0
    ∷ operation_name (inside run (Numbered 0)) (runs explode) 0
    ∷ operation_name (inside run (Numbered 1)) (runs explode) 0
    ∷ operation_name (port run (codes "z")) (runs implode) 0
    ∷ codes "r/body:z" ∷ codes "a" ∷ []
marked_names = refl
