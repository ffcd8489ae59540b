-- In a flat graph that stands for the flat list of a tree, sensors and actuators are numbered in order as in the tree.
use Rattle.std.proofs.Common.{◌≡◌, ℕ, zero, suc, ◌+◌, ◌≤◌, ◌==◌, Bool, true, List, [], ◌∷◌, ◌++◌, length, refl, sym, ap, ◌∙◌, subst, arith, eq-eqb, length-append}
use Rattle.std.proofs.lemmas.Bool.{and_from}
use Rattle.algo_tree.specs.declared.Source.{Source}
use Rattle.algo_tree.specs.Level.{Path}
use Rattle.algo_tree.specs.Tree as tree
use Rattle.algo_tree.specs.Tree.{sensor, actuator, constant, delay, function, explode, implode, merge, graph, switch, repeat, vertex, Vertices, no_vertices, and_vertex}
use Rattle.algo_tree.specs.Ends.{IsNoEnd, NoneInside, sensor_number, actuator_number, sensor_numbers, actuator_numbers}
use Rattle.algo_tree.specs.Meaning.{vertices_in}
use Rattle.algo_tree.specs.Valid.{IsTree}
use Rattle.flat_graph.specs.Expr.{Expr}
use Rattle.flat_graph.specs.declared.vertex.Kind.{Kind}
use Rattle.flat_graph.specs.declared.vertex.Kind.TheVariants.{Sensor, Actuator, Function, Constant, Get, Set, Explode, Implode, Merge}
use Rattle.flat_graph.specs.declared.vertex.Vertex.{Vertex}
use Rattle.flat_graph.specs.Graph.{Graph}
use Rattle.flat_graph.specs.Valid.{sensors_from, actuators_from, kinds_of}
use Rattle.flat_laws.specs.Flat.{Operation, Task, runs, gets, sets}
use Rattle.flat_laws.specs.Inlined.{operations}
use Rattle.flat_laws.specs.Plain.{IsPlain}
use Rattle.flat_laws.proofs.Flatten.{flatten-count}
use Rattle.flat_laws.specs.Stands.{task_of, AllStand, Stands}
use Rattle.flat_laws.proofs.Acyclic.{same_length}
use Rattle.flat_laws.proofs.Ends.{IsNoEndTask, told_in, told_of, main_wire, told-main}
use Rattle.syn_base.specs.Numbers.{numbers_below}

-- numbers that count up from n
abbrev CountFrom : ℕ → List ℕ → Type 0
CountFrom n [] = Unit {0}
CountFrom n (x ∷ xs) = (x ≡ n) × CountFrom (suc n) xs

count-append : (n : ℕ) (xs ys : List ℕ) → CountFrom n xs → CountFrom (n + length xs) ys → CountFrom n (xs ++ ys)
count-append n [] ys h k = subst (λ m. CountFrom m ys) (omega arith) k
count-append n (x ∷ xs) ys h k = (h.0, count-append (suc n) xs ys h.1 (subst (λ m. CountFrom m ys) (omega arith) k))

long_below : (m : ℕ) → length (numbers_below m) ≡ m
long_below zero = refl
long_below (suc m) = length-append (numbers_below m) (m ∷ []) ∙ (let e = long_below m in omega (arith, e))

count-below : (m : ℕ) → CountFrom 0 (numbers_below m)
count-below zero = tt
count-below (suc m) = count-append 0 (numbers_below m) (m ∷ []) (count-below m) (let e = long_below m in omega (arith, e), tt)

-- the numbers that a sort of kinds has, where only sensors and actuators have any
module _ (number : tree.Kind → List ℕ) (none : (k : tree.Kind) → IsNoEnd k → number k ≡ []) where
  abbrev of_task : Task → List ℕ
  of_task (runs k) = number k
  of_task (gets vs) = []
  of_task sets = []

  abbrev numbers_in : List Operation → List ℕ
  numbers_in [] = []
  numbers_in (op ∷ ops) = of_task op.task ++ numbers_in ops

  abbrev numbers_of : Vertices → List ℕ
  numbers_of no_vertices = []
  numbers_of (and_vertex (vertex l vs) us) = number l.kind ++ numbers_of us

  no_number : (op : Operation) → IsNoEndTask op.task → of_task op.task ≡ []
  no_number op h = by op.task h
    where
      by : (t : Task) → IsNoEndTask t → of_task t ≡ []
      by (runs k) f = none k f
      by (gets vs) f = refl
      by sets f = refl

  numbers-are : (ops : List Operation) → told_in (λ op. of_task op.task) no_number ops ≡ numbers_in ops
  numbers-are [] = refl
  numbers-are (op ∷ ops) = ap (λ xs. of_task op.task ++ xs) (numbers-are ops)

  numbers-told : (W : Source → Source) (at : Path → Path) (us : Vertices) → told_of (λ op. of_task op.task) no_number W at us ≡ numbers_of us
  numbers-told W at no_vertices = refl
  numbers-told W at (and_vertex (vertex l vs) us) = ap (λ xs. number l.kind ++ xs) (numbers-told W at us)

  main-numbers : (main : tree.Vertex) → NoneInside (vertices_in main) → numbers_in (operations main) ≡ numbers_of (vertices_in main)
  main-numbers main h =
      sym (numbers-are (operations main)) ∙ told-main (λ op. of_task op.task) no_number main h ∙ numbers-told (main_wire (λ op. of_task op.task) no_number main) (λ q. q) (vertices_in main)

  -- counted through, by a test that takes the next number of such a kind
  module _ (bodies : List (List Expr)) (test : ℕ → List Kind → Bool) (ended : (n : ℕ) → test n [] ≡ true)
      (one : (n : ℕ) (k : Kind) (ks : List Kind) (rest : List ℕ) → CountFrom n (of_task (task_of bodies k) ++ rest) → ((m : ℕ) → CountFrom m rest → test m ks ≡ true) → test n (k ∷ ks) ≡ true) where
    pub all_hold : (n a : ℕ) (xs : List Vertex) (ops : List Operation) → AllStand bodies a xs ops → CountFrom n (numbers_in ops) → test n (kinds_of xs) ≡ true
    all_hold n a [] [] h c = ended n
    all_hold n a [] (op ∷ ops) h c = absurd h
    all_hold n a (x ∷ xs) [] h c = absurd h
    all_hold n a (x ∷ xs) (op ∷ ops) h c =
        one n x.kind (kinds_of xs) (numbers_in ops)
        (subst (λ t. CountFrom n (of_task t ++ numbers_in ops)) (ap (λ (o : Operation). o.task) h.0.same) c)
        (λ m d. all_hold m (suc a) xs ops h.1 d)

no_sensor : (k : tree.Kind) → IsNoEnd k → sensor_number k ≡ []
no_sensor (sensor n) h = absurd h
no_sensor (actuator n) h = absurd h
no_sensor (constant v) h = refl
no_sensor (delay v) h = refl
no_sensor (function es) h = refl
no_sensor explode h = refl
no_sensor implode h = refl
no_sensor (merge values) h = refl
no_sensor (graph outs) h = refl
no_sensor (switch values names) h = refl
no_sensor (repeat n feeds gives) h = refl

no_actuator : (k : tree.Kind) → IsNoEnd k → actuator_number k ≡ []
no_actuator (sensor n) h = absurd h
no_actuator (actuator n) h = absurd h
no_actuator (constant v) h = refl
no_actuator (delay v) h = refl
no_actuator (function es) h = refl
no_actuator explode h = refl
no_actuator implode h = refl
no_actuator (merge values) h = refl
no_actuator (graph outs) h = refl
no_actuator (switch values names) h = refl
no_actuator (repeat n feeds gives) h = refl

sensors_of : (us : Vertices) → numbers_of sensor_number no_sensor us ≡ sensor_numbers us
sensors_of no_vertices = refl
sensors_of (and_vertex (vertex l vs) us) = ap (λ ns. sensor_number l.kind ++ ns) (sensors_of us)

actuators_of : (us : Vertices) → numbers_of actuator_number no_actuator us ≡ actuator_numbers us
actuators_of no_vertices = refl
actuators_of (and_vertex (vertex l vs) us) = ap (λ ns. actuator_number l.kind ++ ns) (actuators_of us)

next_is : (n : ℕ) (rest : List ℕ) → CountFrom (suc n) rest → CountFrom (n + 1) rest
next_is n rest h = let e : suc n ≡ n + 1 = omega arith in subst (λ m. CountFrom m rest) e h

one_sensor : (bodies : List (List Expr)) (n : ℕ) (k : Kind) (ks : List Kind) (rest : List ℕ) → CountFrom n (of_task sensor_number no_sensor (task_of bodies k) ++ rest)
    → ((m : ℕ) → CountFrom m rest → sensors_from m ks ≡ true) → sensors_from n (k ∷ ks) ≡ true
one_sensor bodies n (Sensor i) ks rest c later = and_from (i == n) (sensors_from (n + 1) ks) (eq-eqb i n c.0) (later (n + 1) (next_is n rest c.1))
one_sensor bodies n (Actuator i) ks rest c later = later n c
one_sensor bodies n (Function b) ks rest c later = later n c
one_sensor bodies n (Constant z) ks rest c later = later n c
one_sensor bodies n (Get z) ks rest c later = later n c
one_sensor bodies n Set ks rest c later = later n c
one_sensor bodies n Explode ks rest c later = later n c
one_sensor bodies n Implode ks rest c later = later n c
one_sensor bodies n (Merge values) ks rest c later = later n c

one_actuator : (bodies : List (List Expr)) (n : ℕ) (k : Kind) (ks : List Kind) (rest : List ℕ) → CountFrom n (of_task actuator_number no_actuator (task_of bodies k) ++ rest)
    → ((m : ℕ) → CountFrom m rest → actuators_from m ks ≡ true) → actuators_from n (k ∷ ks) ≡ true
one_actuator bodies n (Actuator i) ks rest c later = and_from (i == n) (actuators_from (n + 1) ks) (eq-eqb i n c.0) (later (n + 1) (next_is n rest c.1))
one_actuator bodies n (Sensor i) ks rest c later = later n c
one_actuator bodies n (Function b) ks rest c later = later n c
one_actuator bodies n (Constant z) ks rest c later = later n c
one_actuator bodies n (Get z) ks rest c later = later n c
one_actuator bodies n Set ks rest c later = later n c
one_actuator bodies n Explode ks rest c later = later n c
one_actuator bodies n Implode ks rest c later = later n c
one_actuator bodies n (Merge values) ks rest c later = later n c

pub sensors-numbered : (main : tree.Vertex) (g : Graph) → IsTree main → IsPlain main → Stands g (operations main) → sensors_from 0 (kinds_of g.vertices) ≡ true
sensors-numbered main g h plain stands =
    let us = vertices_in main in
    let same = main-numbers sensor_number no_sensor main h.inside ∙ sensors_of us ∙ h.numbered.sensors in
    all_hold sensor_number no_sensor g.bodies sensors_from (λ n. refl) (one_sensor g.bodies) 0 0 g.vertices (operations main) stands
    (subst (CountFrom 0) (sym same) (count-below (length (sensor_numbers us))))

pub actuators-numbered : (main : tree.Vertex) (g : Graph) → IsTree main → IsPlain main → Stands g (operations main) → actuators_from 0 (kinds_of g.vertices) ≡ true
actuators-numbered main g h plain stands =
    let us = vertices_in main in
    let same = main-numbers actuator_number no_actuator main h.inside ∙ actuators_of us ∙ h.numbered.actuators in
    all_hold actuator_number no_actuator g.bodies actuators_from (λ n. refl) (one_actuator g.bodies) 0 0 g.vertices
    (operations main) stands (subst (CountFrom 0) (sym same) (count-below (length (actuator_numbers us))))

pub few : (main : tree.Vertex) (g : Graph) → IsTree main → IsPlain main → Stands g (operations main) → length g.vertices ≤ 2048
few main g h plain stands = subst (λ n. n ≤ 2048) (sym (same_length g.bodies 0 g.vertices (operations main) stands ∙ flatten-count main h plain)) h.few
