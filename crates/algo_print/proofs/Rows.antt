-- Canonical texts of worked texts.
use Rattle.std.proofs.Common.{◌≡◌, refl, List, [], ◌∷◌, ◌++◌, Result, Ok, Err, codes}
use Rattle.std.specs.Fmt.{digits}
use Rattle.body_text.specs.Words.{form_of}
use Rattle.algo_text.specs.declared.definition.Defs.{Defs}
use Rattle.syn_base.specs.Bytes.{Bytes}
use Rattle.algo_text.specs.Refusals.{AlgoRefusal}
use Rattle.algo_text.specs.Text.{definitions_of}
use Rattle.algo_print.specs.Canonical.{canonical_text}

abbrev text : List Bytes → Bytes
text [] = []
text (l ∷ ls) = l ++ 10 ∷ text ls

abbrev printed : Result Defs AlgoRefusal → Bytes
printed (Ok defs) = canonical_text defs
printed (Err e) = []

abbrev Prints : List Bytes → List Bytes → Type 0
Prints given made = printed (definitions_of (text given)) ≡ text made

no_definitions : Prints (codes "  algorithm  1 " ∷ []) (codes "algorithm 1" ∷ [])
unfolding digits
no_definitions = refl

echo : Prints
    (codes "# from a sensor to an actuator" ∷ codes "algorithm 1" ∷ codes "" ∷ codes "sensor  Sense 01" ∷ codes " actuator Act 1 # taken" ∷ codes "graph main"
    ∷ codes "ref s Sense" ∷ codes "ref a   Act" ∷ codes "   " ∷ codes "edge s.o a.i" ∷ codes "end" ∷ [])
    (codes "algorithm 1" ∷ codes "sensor Sense 1" ∷ codes "actuator Act 1" ∷ codes "graph main" ∷ codes "ref s Sense" ∷ codes "ref a Act" ∷ codes "edge s.o a.i" ∷ codes "end" ∷ [])
unfolding digits
echo = refl

-- the conditioned definition and its cases
same : Prints
    (codes "algorithm 1" ∷ codes "function Same" ∷ codes "in x 1" ∷ codes "out y 1=x[ 0 ]" ∷ codes "end" ∷ [])
    (codes "algorithm 1" ∷ codes "function Same" ∷ codes "in x 1" ∷ codes "out y 1 = x[0]" ∷ codes "end" ∷ [])
unfolding form_of digits
same = refl

negated : Prints
    (codes "algorithm 1" ∷ codes "function Neg" ∷ codes "in x 1" ∷ codes "out  y  1  =  neg ( x[0] )  # the opposite" ∷ codes "end" ∷ [])
    (codes "algorithm 1" ∷ codes "function Neg" ∷ codes "in x 1" ∷ codes "out y 1 = neg(x[0])" ∷ codes "end" ∷ [])
unfolding form_of digits
negated = refl

values : Prints
    (codes "algorithm 1" ∷ codes "delay Mem = 0100" ∷ codes "constant C = -0 -7   12" ∷ [])
    (codes "algorithm 1" ∷ codes "delay Mem = 100" ∷ codes "constant C = 0 -7 12" ∷ [])
unfolding digits
values = refl

accumulator : Prints
    (codes "algorithm 1" ∷ codes "graph Acc" ∷ codes "in x 1" ∷ codes "out y 1" ∷ codes "ref d Mem" ∷ codes "ref f Add" ∷ codes "# sums" ∷ codes "edge d.o f.x"
    ∷ codes "edge x f.y" ∷ codes "edge f.z d.i" ∷ codes "edge d.o y" ∷ codes "end" ∷ [])
    (codes "algorithm 1" ∷ codes "graph Acc" ∷ codes "in x 1" ∷ codes "out y 1" ∷ codes "ref d Mem" ∷ codes "ref f Add" ∷ codes "edge d.o f.x"
    ∷ codes "edge x f.y" ∷ codes "edge f.z d.i" ∷ codes "edge d.o y" ∷ codes "end" ∷ [])
unfolding digits
accumulator = refl

switch : Prints
    (codes "algorithm 1" ∷ codes "switch Sw" ∷ codes "on c" ∷ codes "in x 1" ∷ codes "out y 1" ∷ codes "case 00 Same" ∷ codes "case  3 Acc" ∷ codes "otherwise Neg" ∷ codes "end" ∷ [])
    (codes "algorithm 1" ∷ codes "switch Sw" ∷ codes "on c" ∷ codes "in x 1" ∷ codes "out y 1" ∷ codes "case 0 Same" ∷ codes "case 3 Acc" ∷ codes "otherwise Neg" ∷ codes "end" ∷ [])
unfolding digits
switch = refl

-- a repetition
chain : Prints
    (codes "algorithm 1" ∷ codes "repeat Chain 04 Cell" ∷ codes "fork v v" ∷ codes "diffuse w w" ∷ codes "" ∷ codes "iterate z acc r t" ∷ codes "join r  p" ∷ codes "end # of the chain" ∷ [])
    (codes "algorithm 1" ∷ codes "repeat Chain 4 Cell" ∷ codes "fork v v" ∷ codes "diffuse w w" ∷ codes "iterate z acc r t" ∷ codes "join r p" ∷ codes "end" ∷ [])
unfolding digits
chain = refl

-- the version that was read, and the depth of a delay
deep : Prints
    (codes "algorithm  2 # with depths" ∷ codes "delay Mem 01 = 0100" ∷ codes "delay  D 2 =  1 -0 3 04" ∷ codes "constant C = -0" ∷ [])
    (codes "algorithm 2" ∷ codes "delay Mem 1 = 100" ∷ codes "delay D 2 = 1 0 3 4" ∷ codes "constant C = 0" ∷ [])
unfolding digits
deep = refl

-- marks of references
marked : Prints
    (codes "algorithm 3" ∷ codes "graph G" ∷ codes "ref  f F  every 02 # seldom" ∷ codes "ref g F" ∷ codes "ref every every every 16" ∷ codes "end" ∷ [])
    (codes "algorithm 3" ∷ codes "graph G" ∷ codes "ref f F every 2" ∷ codes "ref g F" ∷ codes "ref every every every 16" ∷ codes "end" ∷ [])
unfolding digits
marked = refl
