-- Every operation that guarding makes carries the guards around it.
use Rattle.std.proofs.Common.{◌≡◌, ℤ, ℕ, suc, ◌+◌, List, [], ◌∷◌, ◌++◌, length, map, append-nil, refl, sym, ap, ◌∙◌, subst, arith}
use Rattle.std.proofs.lemmas.List.{append_assoc, map-append}
use Rattle.algo_tree.specs.declared.Source.TheVariants.{Own}
use Rattle.algo_tree.specs.declared.Guard.{Guard}
use Rattle.algo_tree.specs.Tree.{Label, Kind, sensor, actuator, constant, delay, function, explode, implode, merge, graph, switch, repeat, Vertex, vertex, Vertices, no_vertices, and_vertex}
use Rattle.algo_tree.specs.Code.{count_of, join}
use Rattle.flat_laws.specs.Guarded.{shift, shift_guard, guard_sources, own_guards, guard_for, merges, guarded_by, guarded, guarded_all, guarded_cases}
use Rattle.flat_laws.specs.Carries.{StartsWith, CarriesBy, Carries, AllCarry}

own-append : (i : ℕ) (gs hs : List Guard) → own_guards i (gs ++ hs) ≡ own_guards i gs ++ own_guards (i + length gs) hs
own-append i [] hs = ap (λ k. own_guards k hs) (omega arith)
own-append i (g ∷ gs) hs =
    let e : suc i + length gs ≡ i + length (g ∷ gs) = omega arith in
    let later : own_guards (suc i) (gs ++ hs) ≡ own_guards (suc i) gs ++ own_guards (i + length (g ∷ gs)) hs = own-append (suc i) gs hs ∙ ap (λ k. own_guards (suc i) gs ++ own_guards k hs) e in
    ap (λ ys. record { source = Own i; values = g.values; case = g.case } ∷ ys) later

weaker-start : {A : Type 0} (xs hs ys : List A) → StartsWith (xs ++ hs) ys → StartsWith xs ys
weaker-start xs hs ys h = (hs ++ h.0, h.1 ∙ append_assoc xs hs h.0)

weaker-by : (gs hs : List Guard) (l : Label) (k : Kind) (inside : List Guard → Type 0)
    → (inside (own_guards 0 gs ++ own_guards (0 + length gs) hs) → inside (own_guards 0 gs)) → CarriesBy (gs ++ hs) l k inside → CarriesBy gs l k inside
weaker-by gs hs l (graph outs) inside deep h =
    (weaker-start (guard_sources gs) (guard_sources hs) l.ins (subst (λ ss. StartsWith ss l.ins) (map-append (λ (g : Guard). g.source) gs hs) h.0), deep (subst inside (own-append 0 gs hs) h.1))
weaker-by gs hs l (sensor m) inside deep h = weaker-start gs hs l.guards h
weaker-by gs hs l (actuator m) inside deep h = weaker-start gs hs l.guards h
weaker-by gs hs l (constant v) inside deep h = weaker-start gs hs l.guards h
weaker-by gs hs l (delay v) inside deep h = weaker-start gs hs l.guards h
weaker-by gs hs l (function es) inside deep h = weaker-start gs hs l.guards h
weaker-by gs hs l explode inside deep h = weaker-start gs hs l.guards h
weaker-by gs hs l implode inside deep h = weaker-start gs hs l.guards h
weaker-by gs hs l (merge values) inside deep h = weaker-start gs hs l.guards h
weaker-by gs hs l (switch values names) inside deep h = weaker-start gs hs l.guards h
weaker-by gs hs l (repeat m feeds gives) inside deep h = weaker-start gs hs l.guards h

mutual
  weaker : (gs hs : List Guard) (u : Vertex) → Carries (gs ++ hs) u → Carries gs u
  weaker gs hs (vertex l us) h = weaker-by gs hs l l.kind _ (weaker-all (own_guards 0 gs) (own_guards (0 + length gs) hs) us) h

  weaker-all : (gs hs : List Guard) (us : Vertices) → AllCarry (gs ++ hs) us → AllCarry gs us
  weaker-all gs hs no_vertices h = tt
  weaker-all gs hs (and_vertex u us) h = (weaker gs hs u h.0, weaker-all gs hs us h.1)

carry-joined : (gs : List Guard) (us vs : Vertices) → AllCarry gs us → AllCarry gs vs → AllCarry gs (join us vs)
carry-joined gs no_vertices vs h k = k
carry-joined gs (and_vertex u us) vs h k = (h.0, carry-joined gs us vs h.1 k)

carry-merges : (d : List ℕ) (gs : List Guard) (m : ℕ) (values : List ℤ) (k : ℕ) (lens : List ℕ) (q : ℕ) (names : List (List ℕ)) → AllCarry gs (merges d gs m values k lens q names)
carry-merges d gs m values k lens q [] = tt
carry-merges d gs m values k lens q (x ∷ names) = (([], sym (append-nil gs)), carry-merges d gs m values k lens (suc q) names)

carry-by : (gs : List Guard) (n : ℕ) (l : Label) (k : Kind) (us : Vertices) (inner : List Guard → ℕ → Vertices) (cases : List Guard → ℕ → List ℤ → Vertices)
    → AllCarry (own_guards 0 gs) (inner (own_guards 0 gs) (length gs))
    → ((values : List ℤ) → AllCarry (own_guards 0 gs) (cases (own_guards 0 gs) (length gs) values)) → Carries gs (guarded_by gs n l k us inner cases)
carry-by gs n l (graph outs) us inner cases a b = ((map (shift n) l.ins, refl), a)
carry-by gs n l (switch values names) us inner cases a b = (
  (map (shift n) l.ins, refl),
  carry-joined (own_guards 0 gs) (cases (own_guards 0 gs) (length gs) values) _ (b values)
      (carry-merges l.definition (own_guards 0 gs) (length gs) values (count_of us) l.outs 0 names),
)
carry-by gs n l (repeat m feeds gives) us inner cases a b = (map (shift_guard n) l.guards, refl)
carry-by gs n l (sensor m) us inner cases a b = (map (shift_guard n) l.guards, refl)
carry-by gs n l (actuator m) us inner cases a b = (map (shift_guard n) l.guards, refl)
carry-by gs n l (constant v) us inner cases a b = (map (shift_guard n) l.guards, refl)
carry-by gs n l (delay v) us inner cases a b = (map (shift_guard n) l.guards, refl)
carry-by gs n l (function es) us inner cases a b = (map (shift_guard n) l.guards, refl)
carry-by gs n l explode us inner cases a b = (map (shift_guard n) l.guards, refl)
carry-by gs n l implode us inner cases a b = (map (shift_guard n) l.guards, refl)
carry-by gs n l (merge values) us inner cases a b = (map (shift_guard n) l.guards, refl)

mutual
  pub carries : (gs : List Guard) (n : ℕ) (u : Vertex) → Carries gs (guarded gs n u)
  carries gs n (vertex l us) =
      carry-by gs n l l.kind us (λ inside m. guarded_all inside m us) (λ inside m values. guarded_cases inside m values 0 us)
      (carry-all (own_guards 0 gs) (length gs) us) (λ values. carry-cases (own_guards 0 gs) (length gs) values 0 us)

  carry-all : (gs : List Guard) (n : ℕ) (us : Vertices) → AllCarry gs (guarded_all gs n us)
  carry-all gs n no_vertices = tt
  carry-all gs n (and_vertex u us) = (carries gs n u, carry-all gs n us)

  carry-cases : (gs : List Guard) (m : ℕ) (values : List ℤ) (i : ℕ) (us : Vertices) → AllCarry gs (guarded_cases gs m values i us)
  carry-cases gs m values i no_vertices = tt
  carry-cases gs m values i (and_vertex u us) = (
    weaker gs (guard_for m values i ∷ []) (guarded (gs ++ guard_for m values i ∷ []) m u)
        (carries (gs ++ guard_for m values i ∷ []) m u),
    carry-cases gs m values (suc i) us,
  )
