-- Findings of worked texts: a kind that is left out, exchanged or told at another line breaks one of these.
use Rattle.std.proofs.Common.{◌≡◌, ℕ, List, [], ◌∷◌, Some, None, pos, negsuc, refl}
use Rattle.std.specs.Prelude.{codes}
use Rattle.std.specs.Fmt.{digits}
use Rattle.syn_base.specs.Bytes.{Bytes}
use Rattle.syn_base.specs.declared.arithmetic.Op.TheVariants.{Add, Sub}
use Rattle.body_lang.specs.Expr.{Expr, literal, index, element, sum_over, negation, apply, select}
use Rattle.algo_rules.specs.declared.Port.{Port}
use Rattle.algo_rules.specs.declared.Def.{Def}
use Rattle.algo_rules.specs.declared.Body.{Body}
use Rattle.algo_rules.specs.declared.Body.TheVariants.{Actuator, Constant, Delay, Function, Graph, Switch, Repeat}
use Rattle.algo_rules.specs.declared.Edge.{Edge}
use Rattle.algo_rules.specs.declared.End.{End}
use Rattle.algo_rules.specs.declared.Output.{Output}
use Rattle.algo_rules.specs.declared.Reference.{Reference}
use Rattle.archi_defs.specs.Text.{Described}
use Rattle.archi_defs.specs.declared.text.DurationLine.{DurationLine}
use Rattle.text_lint.specs.Algorithm.{algorithm_findings}
use Rattle.text_lint.specs.Architecture.{architecture_findings}
use Rattle.text_lint.specs.Numbered.{numbers_of}
use Rattle.text_lint.specs.Printed.{finding_line}
use Rattle.text_lint.specs.declared.finding.Finding.TheVariants.{
  UnusedDefinition,
  OutsideElement,
  NeverTaken,
  UnreadDelay,
  IdleDuration,
  IdleOperator,
}
use Rattle.text_lint.specs.declared.finding.Why.TheVariants.{Unknown, Timeless, Unused}

abbrev def : Bytes → ℕ → Body → Def
def name line body = record { name = name; line = line; body = body }

abbrev port : Bytes → ℕ → Port
port name len = record { name = name; len = len }

abbrev output : Expr → Output
output e = record { port = port (codes "y") 1; formula = e }

abbrev reference : Bytes → Bytes → ℕ → Reference
reference name def line = record { name = name; def = def; every = None; line = line }

abbrev end : Bytes → Bytes → End
end owner port = record { owner = Some owner; port = port }

abbrev edge : End → End → ℕ → Edge
edge from to line = record { from = from; to = to; line = line }

-- a constant by which `w` selects, and a delay that nobody reads
abbrev two : Def
two = def (codes "Two") 3 (Constant (pos 2 ∷ []))

abbrev mem : Def
mem = def (codes "Mem") 4 (Delay 1 (pos 0 ∷ []))

-- element 7 of three, then element 2, which is there, and one below 0
abbrev gain : Def
gain = def (codes "Gain") 5 (Function (port (codes "b") 3 ∷ [])
    (output (apply Add (element 0 (literal (pos 7))) (element 0 (literal (pos 2)))) ∷ output (element 0 (literal (negsuc 0))) ∷ []))

abbrev choice : Def
choice = def (codes "Sw") 10 (Switch (codes "c") [] (port (codes "y") 1 ∷ [])
    (record { value = pos 0; def = codes "Gain"; line = 13 } ∷ record { value = pos 2; def = codes "Gain"; line = 14 } ∷ []) (codes "Gain") 15)

abbrev spare : Def
spare = def (codes "Spare") 17 (Actuator 1)

-- `v` is a switch as `w` is, but a function selects
abbrev main : Def
main = def (codes "main") 18 (Graph [] []
    (reference (codes "k") (codes "Two") 19 ∷ reference (codes "m") (codes "Mem") 20 ∷ reference (codes "w") (codes "Sw") 21 ∷ reference (codes "v") (codes "Sw") 22 ∷ [])
    (edge (end (codes "k") (codes "o")) (end (codes "w") (codes "c")) 23 ∷ edge (end (codes "w") (codes "y")) (end (codes "v") (codes "c")) 24
    ∷ edge (end (codes "v") (codes "y")) (end (codes "m") (codes "i")) 25 ∷ []))

abbrev defs : List Def
defs = two ∷ mem ∷ gain ∷ choice ∷ spare ∷ main ∷ []

algorithm : algorithm_findings defs ≡
    (UnusedDefinition 17 (codes "Spare") ∷ OutsideElement 5 (codes "Gain") (codes "b") (pos 7) 3 ∷ OutsideElement 5 (codes "Gain") (codes "b") (negsuc 0) 3
    ∷ NeverTaken 21 (codes "w") (pos 0) ∷ UnreadDelay 20 (codes "m") ∷ [])
algorithm = refl

-- where the delay is read and selects, and nothing else names the other definitions
abbrev reading : Def
reading = def (codes "main") 18 (Graph [] []
    (reference (codes "m") (codes "Mem") 20 ∷ reference (codes "w") (codes "Sw") 21 ∷ [])
    (edge (end (codes "m") (codes "o")) (end (codes "w") (codes "c")) 23 ∷ edge (end (codes "w") (codes "y")) (end (codes "m") (codes "i")) 24 ∷ []))

quiet : algorithm_findings (mem ∷ choice ∷ reading ∷ []) ≡ []
quiet = refl

-- Two inputs of unequal lengths: in the condition, in an index, below a sign, and on both sides of an operator.
abbrev pair : Def
pair = def (codes "Pair") 2 (Function (port (codes "b") 2 ∷ port (codes "c") 1 ∷ [])
    (output (select (element 1 (literal (pos 1))) (element 0 (element 1 (literal (pos 4)))) (negation (element 0 (literal (pos 2)))))
    ∷ output (apply Sub (element 1 (literal (pos 3))) (apply Add (element 0 index) (sum_over 1))) ∷ output (apply Sub (literal (pos 9)) (element 0 (literal (pos 5))))
    ∷ []))

abbrev seven : Def
seven = def (codes "Seven") 7 (Constant (pos 7 ∷ []))

abbrev minus : Def
minus = def (codes "Minus") 8 (Constant (negsuc 0 ∷ []))

-- a definition that names no other
abbrev plain : Bytes → ℕ → Def
plain name line = def name line (Function [] [])

abbrev twice : Def
twice = def (codes "Twice") 10 (Repeat 2 (codes "Once") [])

-- the port that selects stands after an input that a constant feeds too
abbrev turn : Def
turn = def (codes "Turn") 12 (Switch (codes "x") (port (codes "y") 1 ∷ []) (port (codes "z") 1 ∷ [])
    (record { value = pos 5; def = codes "First"; line = 13 } ∷ record { value = negsuc 0; def = codes "Again"; line = 14 } ∷ []) (codes "Last") 15)

-- Its own input of the name of a reference to a constant selects. Its delay is not read; one of the same name outside is.
abbrev inner : Def
inner = def (codes "Inner") 20 (Graph (port (codes "m") 1 ∷ port (codes "k") 1 ∷ []) (port (codes "z") 1 ∷ [])
    (reference (codes "m") (codes "Mem") 22 ∷ reference (codes "w") (codes "Turn") 23 ∷ reference (codes "k") (codes "Minus") 24 ∷ [])
    (edge (record { owner = None; port = codes "k" }) (end (codes "w") (codes "x")) 25 ∷ edge (record { owner = None; port = codes "m" }) (end (codes "m") (codes "i")) 26
    ∷ edge (end (codes "w") (codes "z")) (record { owner = None; port = codes "z" }) 27 ∷ edge (end (codes "k") (codes "o")) (end (codes "w") (codes "y")) 28 ∷ []))

abbrev outer : Def
outer = def (codes "main") 30 (Graph [] []
    (reference (codes "p") (codes "Pair") 31 ∷ reference (codes "k") (codes "Seven") 32 ∷ reference (codes "n") (codes "Minus") 33 ∷ reference (codes "w") (codes "Turn") 34
    ∷ reference (codes "u") (codes "Turn") 35 ∷ reference (codes "m") (codes "Mem") 36 ∷ reference (codes "g") (codes "Inner") 37 ∷ [])
    (edge (end (codes "k") (codes "o")) (end (codes "w") (codes "y")) 40 ∷ edge (end (codes "n") (codes "o")) (end (codes "w") (codes "x")) 41
    ∷ edge (end (codes "k") (codes "o")) (end (codes "u") (codes "x")) 42 ∷ edge (end (codes "m") (codes "o")) (end (codes "m") (codes "i")) 43
    ∷ edge (end (codes "n") (codes "o")) (end (codes "u") (codes "y")) 44 ∷ []))

others : algorithm_findings (pair ∷ seven ∷ minus ∷ plain (codes "Main") 9 ∷ twice ∷ plain (codes "Once") 11 ∷ turn ∷ plain (codes "First") 16 ∷ plain (codes "Again") 17
    ∷ plain (codes "Last") 18 ∷ mem ∷ inner ∷ outer ∷ []) ≡
    (UnusedDefinition 9 (codes "Main") ∷ UnusedDefinition 10 (codes "Twice")
    ∷ OutsideElement 2 (codes "Pair") (codes "c") (pos 1) 1 ∷ OutsideElement 2 (codes "Pair") (codes "c") (pos 4) 1 ∷ OutsideElement 2 (codes "Pair") (codes "b") (pos 2) 2
    ∷ OutsideElement 2 (codes "Pair") (codes "c") (pos 3) 1 ∷ OutsideElement 2 (codes "Pair") (codes "b") (pos 5) 2
    ∷ NeverTaken 34 (codes "w") (pos 5) ∷ NeverTaken 35 (codes "u") (pos 5) ∷ NeverTaken 35 (codes "u") (negsuc 0) ∷ UnreadDelay 22 (codes "m") ∷ [])
others = refl

abbrev text : Bytes
text = codes "architecture 1\noperator P # first\n\n operator Q\nduration Gain P 1\nduration Two Q 1\n#operator O\nduration Lost Q 1\noperator duration\nduration Spare P 1\nduration main duration 1"

numbers : numbers_of (codes "duration") text ≡ (5 ∷ 6 ∷ 8 ∷ 10 ∷ 11 ∷ [])
numbers = refl

operators : numbers_of (codes "operator") text ≡ (2 ∷ 4 ∷ 9 ∷ [])
operators = refl

abbrev duration : Bytes → ℕ → DurationLine
duration name operator = record { def = name; operator = operator; ticks = 1 }

abbrev described : Described
described = record {
  version = 1;
  archi = record { operators = codes "P" ∷ codes "Q" ∷ codes "duration" ∷ []; media = []; depth = 1 };
  durations = duration (codes "Gain") 0 ∷ duration (codes "Two") 1 ∷ duration (codes "Lost") 1 ∷ duration (codes "Spare") 0
      ∷ duration (codes "main") 2 ∷ [];
}

architecture : architecture_findings defs text described ≡
    (IdleDuration 6 (codes "Two") (codes "Q") Timeless ∷ IdleDuration 8 (codes "Lost") (codes "Q") Unknown ∷ IdleDuration 10 (codes "Spare") (codes "P") Unused
    ∷ IdleDuration 11 (codes "main") (codes "duration") Timeless ∷ IdleOperator 4 (codes "Q") ∷ IdleOperator 9 (codes "duration") ∷ [])
architecture = refl

unused_line : finding_line (UnusedDefinition 17 (codes "Spare")) ≡ codes "algorithm line 17: L1 UnusedDefinition Spare\n"
unfolding digits
unused_line = refl

element_line : finding_line (OutsideElement 5 (codes "Gain") (codes "b") (pos 7) 3) ≡ codes "algorithm line 5: L2 OutsideElement Gain b[7] 3\n"
unfolding digits
element_line = refl

case_line : finding_line (NeverTaken 21 (codes "w") (negsuc 2)) ≡ codes "algorithm line 21: L3 NeverTaken w -3\n"
unfolding digits
case_line = refl

delay_line : finding_line (UnreadDelay 20 (codes "m")) ≡ codes "algorithm line 20: L4 UnreadDelay m\n"
unfolding digits
delay_line = refl

duration_line : finding_line (IdleDuration 7 (codes "Lost") (codes "Q") Unknown) ≡ codes "architecture line 7: L5 IdleDuration Lost Q unknown\n"
unfolding digits
duration_line = refl

operator_line : finding_line (IdleOperator 4 (codes "Q")) ≡ codes "architecture line 4: L6 IdleOperator Q\n"
unfolding digits
operator_line = refl
