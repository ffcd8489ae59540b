-- Worked texts: a sensor and a function in `main`, and another graph that refers to the function before it.
use Rattle.std.proofs.Common.{◌≡◌, ℕ, List, [], ◌∷◌, Option, Some, None, refl}
use Rattle.std.specs.Prelude.{Ok, Err, codes}
use Rattle.text_lines.specs.Refusals.{Refused}
use Rattle.algo_laws.specs.declared.Def.{Def}
use Rattle.algo_laws.specs.declared.Body.TheVariants.{Sensor, Function, Graph, Delay}
use Rattle.algo_laws.specs.declared.AlgoCause.TheVariants.{BadEvery}
use Rattle.elaboration.specs.Marking.{marking_of}

-- the marks on the reference of the other graph, and on the sensor, the delay and the function of `main`
abbrev worked : Option ℕ → Option ℕ → Option ℕ → Option ℕ → List Def
worked other sensor delay function =
    record { name = codes "Sense"; line = 2; body = Sensor 1 } ∷ record { name = codes "F"; line = 3; body = Function [] [] } ∷ record { name = codes "D"; line = 4; body = Delay 1 [] }
    ∷ record { name = codes "G"; line = 5; body = Graph [] [] (record { name = codes "g"; def = codes "F"; every = other; line = 6 } ∷ []) [] }
    ∷ record {
      name = codes "main";
      line = 7;
      body = Graph [] [] (
          record { name = codes "s"; def = codes "Sense"; every = sensor; line = 8 }
          ∷ record { name = codes "d"; def = codes "D"; every = delay; line = 9 }
          ∷ record { name = codes "f"; def = codes "F"; every = function; line = 10 } ∷ []
          ) [];
    } ∷ []

no_mark : marking_of (worked None None None None) ≡ Ok []
no_mark = refl

one_mark : marking_of (worked None None None (Some 2)) ≡ Ok (record { reference = 2; every = 2 } ∷ [])
one_mark = refl

a_sensor : marking_of (worked None (Some 2) None (Some 3)) ≡ Err (Refused (record { line = 8; cause = BadEvery (codes "s") }))
a_sensor = refl

a_delay : marking_of (worked None None (Some 1) None) ≡ Err (Refused (record { line = 9; cause = BadEvery (codes "d") }))
a_delay = refl

-- a function may have a mark, but in `main` alone; the first line comes first
another_graph : marking_of (worked (Some 2) (Some 2) None (Some 2)) ≡ Err (Refused (record { line = 6; cause = BadEvery (codes "g") }))
another_graph = refl
