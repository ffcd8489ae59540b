-- A worked text with a mark, from its bytes to what its actuator takes: the function adds 1 in every second reaction
-- alone, and in the others its output stays. The rows of the sensor are 5, 6, 7, 8 and 9.
use Rattle.std.proofs.Common.{◌≡◌, ℕ, ℤ, pos, List, [], ◌∷◌, ◌++◌, map, Result, Ok, Err, refl}
use Rattle.std.specs.Prelude.{codes}
use Rattle.syn_base.specs.Bytes.{Bytes}
use Rattle.body_text.specs.Words.{form_of}
use Rattle.multi_period.specs.declared.mark.Mark.{Mark}
use Rattle.algo_laws.specs.declared.Defs.{Defs}
use Rattle.algo_laws.specs.Text.{definitions_of}
use Rattle.algo_laws.specs.Resolved.{resolution_of, tree_of}
use Rattle.elaboration.specs.Marking.{marking_of}
use Rattle.accepted_laws.specs.Told.{Algorithm, taken}
use Rattle.syn_base.specs.Vectors.{Values}

abbrev line : List ℕ → List ℕ → List ℕ
line words rest = words ++ (codes "\n" ++ rest)

abbrev text : Bytes
text =
    line (codes "algorithm 3") (line (codes "sensor Sense 1") (line (codes "actuator Act 1")
    (line (codes "function F") (line (codes "in x 1") (line (codes "out y 1 = add(x[0],1)") (line (codes "end")
    (line (codes "graph main") (line (codes "ref s Sense") (line (codes "ref f F every 2") (line (codes "ref a Act")
    (line (codes "edge s.o f.x") (line (codes "edge f.y a.i") (line (codes "end") [])))))))))))))

abbrev defs_in : {E : Type 0} → Result Defs E → Defs
defs_in (Ok d) = d
defs_in (Err e) = record { version = 0; defs = [] }

abbrev defs : Defs
defs = defs_in (definitions_of text)

-- what the text says: its definitions resolve, and its second reference has a mark
algorithm : Algorithm text
unfolding form_of
algorithm = record {
  defs = defs;
  main = tree_of defs.defs;
  marks = record { reference = 1; every = 2 } ∷ [];
  says = refl;
  resolves = refl;
  marked = refl;
}

abbrev one : ℕ → Values
one n = (pos n ∷ []) ∷ []

-- the look back: 6 6 8 8 10
row : taken (record { reference = 1; every = 2 } ∷ []) (tree_of defs.defs) (map one (5 ∷ 6 ∷ 7 ∷ 8 ∷ 9 ∷ []))
    ≡ map one (6 ∷ 6 ∷ 8 ∷ 8 ∷ 10 ∷ [])
unfolding form_of
row = refl

-- without the mark: 6 7 8 9 10
plain : taken [] (tree_of defs.defs) (map one (5 ∷ 6 ∷ 7 ∷ 8 ∷ 9 ∷ [])) ≡ map one (6 ∷ 7 ∷ 8 ∷ 9 ∷ 10 ∷ [])
unfolding form_of
plain = refl
