-- Where the outputs of worked definitions lead, and worked pruned trees.
use Rattle.std.proofs.Common.{◌≡◌, ℕ, pos, List, [], ◌∷◌, Some, None, codes, refl}
use Rattle.syn_base.specs.Bytes.{Bytes}
use Rattle.algo_tree.specs.declared.Source.TheVariants.{Own, Of}
use Rattle.algo_tree.specs.declared.Part.TheVariants.{Named}
use Rattle.algo_tree.specs.Tree.{Kind, sensor, actuator, delay, graph}
use Rattle.algo_rules.specs.declared.Def.{Def}
use Rattle.algo_rules.specs.declared.Body.{Body}
use Rattle.algo_rules.specs.declared.Body.TheVariants.{Sensor, Actuator, Delay, Graph, Repeat}
use Rattle.algo_rules.specs.declared.Reference.{Reference}
use Rattle.algo_rules.specs.declared.Edge.{Edge}
use Rattle.algo_rules.specs.declared.End.{End}
use Rattle.algo_rules.specs.declared.Port.{Port}
use Rattle.algo_rules.specs.declared.FrontierLine.{FrontierLine}
use Rattle.algo_rules.specs.declared.Frontier.TheVariants.{Diffuse, Iterate}
use Rattle.algo_rules.specs.Resolved.{refusal, tree_of, vertex}
use Rattle.wiring_laws.specs.Definitions.{leads_within}
use Rattle.wiring_laws.specs.Pruned.{pruned}

abbrev port : Bytes → Port
port w = record { name = w; len = 1 }

abbrev uses : Bytes → Bytes → Reference
uses w def = record { name = w; def = def; every = None; line = 0 }

abbrev own : Bytes → End
own w = record { owner = None; port = w }

abbrev of : Bytes → Bytes → End
of r w = record { owner = Some r; port = w }

abbrev edge : End → End → Edge
edge from to = record { from = from; to = to; line = 0 }

abbrev def : Bytes → Body → Def
def w body = record { name = w; line = 0; body = body }

abbrev a : Bytes
a = codes "a"

abbrev b : Bytes
b = codes "b"

abbrev c : Bytes
c = codes "c"

abbrev x : Bytes
x = codes "x"

abbrev y : Bytes
y = codes "y"

abbrev z : Bytes
z = codes "z"

-- three inputs, which go to the outputs one place further, round
abbrev Turn : Def
Turn = def (codes "Turn")
    (Graph (port a ∷ port b ∷ port c ∷ []) (port x ∷ port y ∷ port z ∷ []) []
    (edge (own a) (own y) ∷ edge (own c) (own x) ∷ edge (own b) (own z) ∷ []))

-- two uses of it, the later one first, of which the second output is given twice
abbrev Twice : Def
Twice = def (codes "Twice")
    (Graph (port a ∷ port b ∷ port c ∷ []) (port x ∷ port y ∷ port z ∷ []) (uses (codes "later") (codes "Turn") ∷ uses (codes "first") (codes "Turn") ∷ [])
    (edge (own a) (of (codes "first") a) ∷ edge (own b) (of (codes "first") b) ∷ edge (own c) (of (codes "first") c)
    ∷ edge (of (codes "first") x) (of (codes "later") a) ∷ edge (of (codes "first") y) (of (codes "later") b) ∷ edge (of (codes "first") z) (of (codes "later") c)
    ∷ edge (of (codes "later") x) (own x) ∷ edge (of (codes "first") y) (own y) ∷ edge (of (codes "later") y) (own z) ∷ []))

abbrev iterated : ℕ → List FrontierLine → Def
iterated n lines = def (codes "Copied") (Repeat n (codes "Turn") lines)

abbrev round : List FrontierLine
round = record { frontier = Iterate a a x x; line = 0 } ∷ record { frontier = Iterate b b y y; line = 0 } ∷ record { frontier = Iterate c c z z; line = 0 } ∷ []

-- the third input is the same in all copies, and the outputs stand in another order
abbrev held : List FrontierLine
held = record { frontier = Iterate b b y y; line = 0 } ∷ record { frontier = Diffuse c c; line = 0 } ∷ record { frontier = Iterate a a x x; line = 0 } ∷ []

abbrev all : ℕ → List FrontierLine → List Def
all n lines = Twice ∷ iterated n lines ∷ Turn ∷ []

turned : leads_within (all 1 round) 1 (codes "Turn") ≡ Some 2 ∷ Some 0 ∷ Some 1 ∷ []
turned = refl

-- a depth of one knows nothing of what is named
not-followed : leads_within (all 1 round) 1 (codes "Twice") ≡ None ∷ None ∷ None ∷ []
not-followed = refl

twice-turned : leads_within (all 1 round) 8 (codes "Twice") ≡ Some 1 ∷ Some 0 ∷ Some 2 ∷ []
twice-turned = refl

one-copy : leads_within (all 1 round) 2 (codes "Copied") ≡ Some 2 ∷ Some 0 ∷ Some 1 ∷ []
one-copy = refl

five-copies : leads_within (all 5 round) 2 (codes "Copied") ≡ Some 1 ∷ Some 2 ∷ Some 0 ∷ []
five-copies = refl

-- inputs and outputs of a repetition stand in the order of its lines
held-once : leads_within (all 1 held) 2 (codes "Copied") ≡ Some 2 ∷ Some 1 ∷ []
held-once = refl

held-copies : leads_within (all 5 held) 2 (codes "Copied") ≡ Some 1 ∷ Some 1 ∷ []
held-copies = refl

-- a graph with a turn between two delays
abbrev Live : Def
Live = def (codes "Live")
    (Graph (port a ∷ []) (port x ∷ []) (uses (codes "one") (codes "Keep") ∷ uses (codes "turn") (codes "Turn") ∷ uses (codes "two") (codes "Keep") ∷ [])
    (edge (own a) (of (codes "one") (codes "i")) ∷ edge (own a) (of (codes "turn") a) ∷ edge (of (codes "one") (codes "o")) (of (codes "turn") b) ∷ edge (own a) (of (codes "turn") c)
    ∷ edge (of (codes "turn") z) (of (codes "two") (codes "i")) ∷ edge (of (codes "two") (codes "o")) (own x) ∷ []))

-- after it another turn round, of which an actuator takes the second output
abbrev main : Def
main = def (codes "main")
    (Graph [] [] (uses (codes "s") (codes "Sense") ∷ uses (codes "live") (codes "Live") ∷ uses (codes "round") (codes "Twice") ∷ uses (codes "k") (codes "Act") ∷ [])
    (edge (of (codes "s") (codes "o")) (of (codes "live") a) ∷ edge (of (codes "live") x) (of (codes "round") a)
    ∷ edge (of (codes "s") (codes "o")) (of (codes "round") b) ∷ edge (of (codes "s") (codes "o")) (of (codes "round") c)
    ∷ edge (of (codes "round") y) (of (codes "k") (codes "i")) ∷ []))

abbrev whole : List Def
whole = def (codes "Sense") (Sensor 1) ∷ def (codes "Act") (Actuator 1) ∷ def (codes "Keep") (Delay 1 (pos 7 ∷ [])) ∷ Turn ∷ Twice ∷ Live ∷ main ∷ []

is-accepted : refusal whole ≡ None
is-accepted = refl

abbrev three : List Port
three = port x ∷ port y ∷ port z ∷ []

abbrev kept : Kind
kept = delay ((pos 7 ∷ []) ∷ [])

-- what has no operation passes on, and its sources stay
is-pruned : pruned (tree_of whole) ≡ vertex (Named (codes "main")) (codes "main") [] [] (graph [])
    (vertex (Named (codes "s")) (codes "Sense") [] (port (codes "o") ∷ []) (sensor 0) []
    ∷ vertex (Named (codes "live")) (codes "Live") (Of 0 0 ∷ []) (port x ∷ []) (graph (Of 2 0 ∷ []))
    (vertex (Named (codes "one")) (codes "Keep") (Own 0 ∷ []) (port (codes "o") ∷ []) kept []
    ∷ vertex (Named (codes "turn")) (codes "Turn") (Own 0 ∷ Of 0 0 ∷ Own 0 ∷ []) three (graph (Own 2 ∷ Own 0 ∷ Own 1 ∷ [])) []
    ∷ vertex (Named (codes "two")) (codes "Keep") (Of 1 2 ∷ []) (port (codes "o") ∷ []) kept [] ∷ [])
    ∷ vertex (Named (codes "round")) (codes "Twice") (Of 1 0 ∷ Of 0 0 ∷ Of 0 0 ∷ []) three (graph (Own 1 ∷ Own 0 ∷ Own 2 ∷ [])) []
    ∷ vertex (Named (codes "k")) (codes "Act") (Of 2 1 ∷ []) [] (actuator 0) [] ∷ [])
is-pruned = refl
