-- In a guarded tree the lengths of values fit.
use Rattle.std.proofs.Common.{◌≡◌, ℤ, ℕ, zero, suc, ◌+◌, ◌<◌, List, [], ◌∷◌, ◌++◌, length, get_or, map, replicate, refl, sym, ap, ap₂, ◌∙◌, subst, arith, zero-add}
use Rattle.std.proofs.lemmas.List.{map-append}
use Rattle.std.proofs.lemmas.Grind.{same_number_lists}
use Rattle.algo_tree.specs.declared.Source.{Source}
use Rattle.algo_tree.specs.declared.Source.TheVariants.{Own, Of}
use Rattle.algo_tree.specs.declared.Guard.{Guard}
use Rattle.algo_tree.specs.Tree.{Label, Kind, sensor, actuator, constant, delay, function, explode, implode, merge, graph, switch, repeat, Vertex, vertex, Vertices, no_vertices, and_vertex}
use Rattle.algo_tree.specs.Code.{count_of, join}
use Rattle.algo_tree.specs.Well.{IsOwn, AreOwn, OwnGuards, AreCases, IsKindWell, IsWell, AllWell}
use Rattle.algo_tree.specs.Typed.{IsLength, AreLengths, label_of, outs_of, source_length, AreGuardsTyped, AllGive, IsTyped, AllTyped}
use Rattle.algo_tree.specs.NoRepeat.{IsNoRepeat, HasNoRepeat, AllNoRepeat}
use Rattle.algo_tree.specs.Relabelled.{with_kind}
use Rattle.algo_tree.proofs.Lists.{append_left, append_right, map_map, map_below, at_below, long_below, same_below, lengths-replicate}
use Rattle.algo_tree.proofs.Appends.{lengths-append}
use Rattle.flat_laws.specs.Guarded.{shift, shift_guard, guard_sources, own_guards, guard_for, merges, merge_sources, switch_inside, guarded_by, guarded, guarded_all, guarded_cases}
use Rattle.flat_laws.proofs.Guard.{count-nodes}
use Rattle.syn_base.specs.Numbers.{numbers_below}

-- a list of lengths as its elements
each_of : (xs : List ℕ) (n : ℕ) → n ≡ length xs → xs ≡ map (λ q. get_or xs q 0) (numbers_below n)
each_of xs n e =
    let f = λ (q : ℕ). get_or xs q 0 in
    same_number_lists xs (map f (numbers_below n)) (sym e ∙ sym (long_below n f)) (λ i lt. sym (at_below n f i 0 (omega (arith, e, lt))))

length_in : (ns : List ℕ) (k : ℕ) → AreLengths ns → k < length ns → IsLength (get_or ns k 0)
length_in [] k h lt = absurd (omega arith)
length_in (n ∷ ns) zero h lt = h.0
length_in (n ∷ ns) (suc k) h lt = length_in ns k h.1 (omega arith)

one_length : (n : ℕ) → n ≡ 1 → IsLength n
one_length n e = (omega (arith, e), omega (arith, e))

-- guards
guards-append : (len : Source → ℕ) (gs hs : List Guard) → AreGuardsTyped len gs → AreGuardsTyped len hs → AreGuardsTyped len (gs ++ hs)
guards-append len [] hs h k = k
guards-append len (g ∷ gs) hs h k = (h.0, guards-append len gs hs h.1 k)

-- each guard's source has one element
guards-lengths : (len : Source → ℕ) (gs : List Guard) → AreGuardsTyped len gs → AreLengths (map len (guard_sources gs))
guards-lengths len [] h = tt
guards-lengths len (g ∷ gs) h = (one_length (len g.source) h.0.0, guards-lengths len gs h.1)

long_sources : (len : Source → ℕ) (gs : List Guard) → length (map len (guard_sources gs)) ≡ length gs
long_sources len [] = refl
long_sources len (g ∷ gs) = ap suc (long_sources len gs)

-- inside a graph to which their sources are handed, after these
own-typed : (len : Source → ℕ) (xs rest : List ℕ) (outs : List (List ℕ)) (i : ℕ) (gs : List Guard) → i ≡ length xs → AreGuardsTyped len gs
    → AreGuardsTyped (source_length (xs ++ (map len (guard_sources gs) ++ rest)) outs) (own_guards i gs)
own-typed len xs rest outs i [] e h = tt
own-typed len xs rest outs i (g ∷ gs) e h =
    let more = map len (guard_sources gs) ++ rest in
    let here : get_or (xs ++ (len g.source ∷ more)) i 0 ≡ 1 = ap (λ k. get_or (xs ++ (len g.source ∷ more)) k 0) (e ∙ omega arith) ∙ append_right xs (len g.source ∷ more) 0 0 ∙ h.0.0 in (
      (here, h.0.1),
      subst (λ own. AreGuardsTyped (source_length own outs) (own_guards (suc i) gs)) (sym (snoc xs (len g.source) more))
          (own-typed len (xs ++ len g.source ∷ []) rest outs (suc i) gs (ap suc e ∙ long xs (len g.source)) h.1),
    )
  where
    snoc : (xs : List ℕ) (v : ℕ) (rest : List ℕ) → xs ++ (v ∷ rest) ≡ (xs ++ v ∷ []) ++ rest
    snoc [] v rest = refl
    snoc (x ∷ xs) v rest = ap (λ ys. x ∷ ys) (snoc xs v rest)

    long : (xs : List ℕ) (v : ℕ) → suc (length xs) ≡ length (xs ++ v ∷ [])
    long [] v = refl
    long (x ∷ xs) v = ap suc (long xs v)

-- A level's own inputs stand after n further ones.
abbrev Shifted : ℕ → List ℕ → List ℕ → Type 0
Shifted n own own' = (k : ℕ) → get_or own' (n + k) 0 ≡ get_or own k 0

module _ (n : ℕ) (own own' : List ℕ) (shifted : Shifted n own own') where
  module _ (outs : List (List ℕ)) where
    shifted-source : (s : Source) → source_length own' outs (shift n s) ≡ source_length own outs s
    shifted-source (Own k) = shifted k
    shifted-source (Of r p) = refl

    shifted-sources : (ss : List Source) → map (source_length own' outs) (map (shift n) ss) ≡ map (source_length own outs) ss
    shifted-sources [] = refl
    shifted-sources (s ∷ ss) = ap₂ (λ x xs. x ∷ xs) (shifted-source s) (shifted-sources ss)

    shifted-guards : (gs : List Guard) → AreGuardsTyped (source_length own outs) gs → AreGuardsTyped (source_length own' outs) (map (shift_guard n) gs)
    shifted-guards [] h = tt
    shifted-guards (g ∷ gs) h = ((shifted-source g.source ∙ h.0.0, h.0.1), shifted-guards gs h.1)

  -- of own inputs alone, whatever the vertices give
  module _ (outs outs' : List (List ℕ)) where
    own-source : (s : Source) → IsOwn s → source_length own' outs' (shift n s) ≡ source_length own outs s
    own-source (Own k) h = shifted k
    own-source (Of r p) h = absurd h

    own-sources : (ss : List Source) → AreOwn ss → map (source_length own' outs') (map (shift n) ss) ≡ map (source_length own outs) ss
    own-sources [] h = refl
    own-sources (s ∷ ss) h = ap₂ (λ x xs. x ∷ xs) (own-source s h.0) (own-sources ss h.1)

    own-guards : (gs : List Guard) → OwnGuards gs → AreGuardsTyped (source_length own outs) gs → AreGuardsTyped (source_length own' outs') (map (shift_guard n) gs)
    own-guards [] own h = tt
    own-guards (g ∷ gs) own h = ((own-source g.source own.0 ∙ h.0.0, h.0.1), own-guards gs own.1 h.1)

-- the outputs of the vertices of a level
outs-joined : (us vs : Vertices) → outs_of (join us vs) ≡ outs_of us ++ outs_of vs
outs-joined no_vertices vs = refl
outs-joined (and_vertex u us) vs = ap (λ os. (label_of u).outs ∷ os) (outs-joined us vs)

outs-by : (gs : List Guard) (n : ℕ) (l : Label) (k : Kind) (us : Vertices) (inner : List Guard → ℕ → Vertices)
    (cases : List Guard → ℕ → List ℤ → Vertices) → (label_of (guarded_by gs n l k us inner cases)).outs ≡ l.outs
outs-by gs n l (graph outs) us inner cases = refl
outs-by gs n l (switch values names) us inner cases = refl
outs-by gs n l (repeat m feeds gives) us inner cases = refl
outs-by gs n l (sensor m) us inner cases = refl
outs-by gs n l (actuator m) us inner cases = refl
outs-by gs n l (constant v) us inner cases = refl
outs-by gs n l (delay v) us inner cases = refl
outs-by gs n l (function es) us inner cases = refl
outs-by gs n l explode us inner cases = refl
outs-by gs n l implode us inner cases = refl
outs-by gs n l (merge values) us inner cases = refl

outs-guarded : (gs : List Guard) (n : ℕ) (u : Vertex) → (label_of (guarded gs n u)).outs ≡ (label_of u).outs
outs-guarded gs n (vertex l us) = outs-by gs n l l.kind us (λ inside m. guarded_all inside m us) (λ inside m values. guarded_cases inside m values 0 us)

outs-all : (gs : List Guard) (n : ℕ) (us : Vertices) → outs_of (guarded_all gs n us) ≡ outs_of us
outs-all gs n no_vertices = refl
outs-all gs n (and_vertex u us) = ap₂ (λ o os. o ∷ os) (outs-guarded gs n u) (outs-all gs n us)

outs-cases : (gs : List Guard) (m : ℕ) (values : List ℤ) (i : ℕ) (us : Vertices) → outs_of (guarded_cases gs m values i us) ≡ outs_of us
outs-cases gs m values i no_vertices = refl
outs-cases gs m values i (and_vertex u us) = ap₂ (λ o os. o ∷ os) (outs-guarded (gs ++ guard_for m values i ∷ []) m u) (outs-cases gs m values (suc i) us)

count-outs : (us : Vertices) → length (outs_of us) ≡ count_of us
count-outs no_vertices = refl
count-outs (and_vertex u us) = ap suc (count-outs us)

-- the merges of a switch with these outputs, whose cases give the same
module _ (d : List ℕ) (gs : List Guard) (m : ℕ) (values : List ℤ) (k : ℕ) (lens : List ℕ) where
  abbrev merge_outs : ℕ → List (List ℕ) → List (List ℕ)
  merge_outs q [] = []
  merge_outs q (x ∷ names) = (get_or lens q 0 ∷ []) ∷ merge_outs (suc q) names

  outs-merges : (q : ℕ) (names : List (List ℕ)) → outs_of (merges d gs m values k lens q names) ≡ merge_outs q names
  outs-merges q [] = refl
  outs-merges q (x ∷ names) = ap (λ os. (get_or lens q 0 ∷ []) ∷ os) (outs-merges (suc q) names)

  at_merge : (q j : ℕ) (names : List (List ℕ)) → j < length names → get_or (merge_outs q names) j [] ≡ get_or lens (q + j) 0 ∷ []
  at_merge q j [] lt = absurd (omega arith)
  at_merge q zero (x ∷ names) lt = ap (λ i. get_or lens i 0 ∷ []) (omega arith)
  at_merge q (suc j) (x ∷ names) lt = at_merge (suc q) j names (omega arith) ∙ ap (λ i. get_or lens i 0 ∷ []) (omega arith)

  module _ (own : List ℕ) (outs : List (List ℕ)) (condition : get_or own m 0 ≡ 1) (gives : (i : ℕ) → i < k → get_or outs i [] ≡ lens)
      (long : k ≡ suc (length values)) (guards : AreGuardsTyped (source_length own outs) gs) where
    abbrev len : Source → ℕ
    len = source_length own outs

    merge-ins : (q : ℕ) → map len (Own m ∷ map (λ i. Of i q) (numbers_below k)) ≡ 1 ∷ replicate k (get_or lens q 0)
    merge-ins q =
        ap₂ (λ x xs. x ∷ xs) condition
        (map_map len (λ i. Of i q) (numbers_below k) ∙ map_below k (λ i. len (Of i q)) (λ i. get_or lens q 0) (λ i lt. ap (λ os. get_or os q 0) (gives i lt)) ∙ same_below k (get_or lens q 0))

    abbrev IsMergeTyped : ℕ → List ℕ → Type 0
    IsMergeTyped w ls = (AreLengths ls × (IsLength w × Unit {0})) × ((length (w ∷ []) ≡ 1) × (ls ≡ 1 ∷ replicate (suc (length values)) w))

    merge-typed : (q : ℕ) → IsLength (get_or lens q 0) → IsMergeTyped (get_or lens q 0) (map len (Own m ∷ map (λ i. Of i q) (numbers_below k)))
    merge-typed q h =
        subst (IsMergeTyped (get_or lens q 0)) (sym (merge-ins q))
        (((one_length 1 refl, lengths-replicate k (get_or lens q 0) h), (h, tt)), (refl, ap (λ j. 1 ∷ replicate j (get_or lens q 0)) long))

    typed-merges : (q : ℕ) (names : List (List ℕ)) → ((j : ℕ) → j < length names → IsLength (get_or lens (q + j) 0)) → AllTyped own outs (merges d gs m values k lens q names)
    typed-merges q [] h = tt
    typed-merges q (x ∷ names) h = (
      (guards, merge-typed q (subst (λ i. IsLength (get_or lens i 0)) (omega arith) (h 0 (omega arith)))),
      typed-merges (suc q) names (λ j lt. subst (λ i. IsLength (get_or lens i 0)) (omega arith) (h (suc j) (omega arith))),
    )

typed-joined : (own : List ℕ) (outs : List (List ℕ)) (us vs : Vertices) → AllTyped own outs us → AllTyped own outs vs → AllTyped own outs (join us vs)
typed-joined own outs no_vertices vs h k = k
typed-joined own outs (and_vertex u us) vs h k = (h.0, typed-joined own outs us vs h.1 k)

give_at : (outs : List ℕ) (os : List (List ℕ)) (i : ℕ) → AllGive outs os → i < length os → get_or os i [] ≡ outs
give_at outs [] i h lt = absurd (omega arith)
give_at outs (o ∷ os) zero h lt = h.0
give_at outs (o ∷ os) (suc i) h lt = give_at outs os i h.1 (omega arith)

-- the graph that a switch becomes, whose own inputs stand after the sources of guards
module _ (gs : List Guard) (l : Label) (values : List ℤ) (names : List (List ℕ)) (us es : Vertices) (own own' : List ℕ) (shifted : Shifted (length gs) own own') (same : outs_of es ≡ outs_of us) where
  abbrev K : ℕ
  K = count_of us

  abbrev G : List Guard
  G = own_guards 0 gs

  abbrev M : List (List ℕ)
  M = merge_outs l.definition G (length gs) values K l.outs 0 names

  abbrev O : List (List ℕ)
  O = outs_of us ++ M

  abbrev made : Vertices
  made = switch_inside gs l values names K es

  outs-made : outs_of made ≡ O
  outs-made = outs-joined es (merges l.definition G (length gs) values K l.outs 0 names) ∙ ap₂ (λ xs ys. xs ++ ys) same (outs-merges l.definition G (length gs) values K l.outs 0 names)

  condition : get_or own 0 0 ≡ 1 → get_or own' (length gs) 0 ≡ 1
  condition one = ap (λ k. get_or own' k 0) (omega arith) ∙ shifted 0 ∙ one

  case_gives : AllGive l.outs (outs_of us) → (i : ℕ) → i < K → get_or O i [] ≡ l.outs
  case_gives all i lt =
      let e = count-outs us in
      let in_range : i < length (outs_of us) = omega (arith, e, lt) in
      append_left (outs_of us) M i [] in_range ∙ give_at l.outs (outs_of us) i all in_range

  at_output : (q : ℕ) → q < length names → source_length own' O (Of (K + q) 0) ≡ get_or l.outs q 0
  at_output q lt =
      ap (λ k. get_or (get_or O (k + q) []) 0 0) (sym (count-outs us))
      ∙ ap (λ os. get_or os 0 0) (append_right (outs_of us) M q [] ∙ at_merge l.definition G (length gs) values K l.outs 0 q names lt) ∙ ap (λ k. get_or l.outs k 0) (zero-add q)

  typed-made : AreLengths l.outs → get_or own 0 0 ≡ 1 → AllGive l.outs (outs_of us) → length names ≡ length l.outs → K
      ≡ suc (length values) → AreGuardsTyped (source_length own' O) G → AllTyped own' O es
      → AllTyped own' (outs_of made) made × (l.outs ≡ map (source_length own' (outs_of made)) (merge_sources K (length names)))
  typed-made lengths one all named long guards cases =
      subst (λ os. AllTyped own' os made × (l.outs ≡ map (source_length own' os) (merge_sources K (length names)))) (sym outs-made) (
        typed-joined own' O es _ cases
            (typed-merges l.definition G (length gs) values K l.outs own' O (condition one) (case_gives all) long guards 0 names (λ j lt. length_in l.outs (0 + j) lengths (omega (arith, named, lt)))),
        each_of l.outs (length names) named
            ∙ map_below (length names) (λ q. get_or l.outs q 0) (λ q. source_length own' O (Of (K + q) 0)) (λ q lt. sym (at_output q lt))
            ∙ sym (map_map (source_length own' O) (λ q. Of (K + q) 0) (numbers_below (length names))),
      )

-- the lengths of the inputs of what a vertex of this kind becomes, from those of the guards' sources and those that it had
abbrev pub lens_under : Kind → List ℕ → List ℕ → List ℕ
lens_under (graph outs) ones lens = ones ++ lens
lens_under (switch values names) ones lens = ones ++ lens
lens_under _ ones lens = lens

module _ (gs : List Guard) (n : ℕ) (l : Label) (us : Vertices) (inner : List Guard → ℕ → Vertices)
    (cases : List Guard → ℕ → List ℤ → Vertices) (len : Source → ℕ) (guards : AreGuardsTyped len gs) where
  abbrev ones : List ℕ
  ones = map len (guard_sources gs)

  shifted-ones : (lens : List ℕ) → Shifted (length gs) lens (ones ++ lens)
  shifted-ones lens k = ap (λ j. get_or (ones ++ lens) (j + k) 0) (sym (long_sources len gs)) ∙ append_right ones lens k 0

  own-ones : (lens : List ℕ) (outs : List (List ℕ)) → AreGuardsTyped (source_length (ones ++ lens) outs) (own_guards 0 gs)
  own-ones lens outs = own-typed len [] lens outs 0 gs refl guards

  -- as a vertex of its level
  ins-by : (k : Kind) → map len (label_of (guarded_by gs n l k us inner cases)).ins ≡ lens_under k ones (map len (map (shift n) l.ins))
  ins-by (graph outs) = map-append len (guard_sources gs) (map (shift n) l.ins)
  ins-by (switch values names) = map-append len (guard_sources gs) (map (shift n) l.ins)
  ins-by (repeat m feeds gives) = refl
  ins-by (sensor m) = refl
  ins-by (actuator m) = refl
  ins-by (constant v) = refl
  ins-by (delay v) = refl
  ins-by (function es) = refl
  ins-by explode = refl
  ins-by implode = refl
  ins-by (merge values) = refl

  guards-by : (k : Kind) → AreGuardsTyped len (map (shift_guard n) l.guards) → AreGuardsTyped len (label_of (guarded_by gs n l k us inner cases)).guards
  guards-by (graph outs) h = tt
  guards-by (switch values names) h = tt
  guards-by (repeat m feeds gives) h = guards-append len gs (map (shift_guard n) l.guards) guards h
  guards-by (sensor m) h = guards-append len gs (map (shift_guard n) l.guards) guards h
  guards-by (actuator m) h = guards-append len gs (map (shift_guard n) l.guards) guards h
  guards-by (constant v) h = guards-append len gs (map (shift_guard n) l.guards) guards h
  guards-by (delay v) h = guards-append len gs (map (shift_guard n) l.guards) guards h
  guards-by (function es) h = guards-append len gs (map (shift_guard n) l.guards) guards h
  guards-by explode h = guards-append len gs (map (shift_guard n) l.guards) guards h
  guards-by implode h = guards-append len gs (map (shift_guard n) l.guards) guards h
  guards-by (merge values) h = guards-append len gs (map (shift_guard n) l.guards) guards h

  module _ (lens : List ℕ)
      (all : (outs : List (List ℕ)) → AllTyped lens outs us → AllTyped (ones ++ lens) outs (inner (own_guards 0 gs) (length gs)))
      (outs-inner : outs_of (inner (own_guards 0 gs) (length gs)) ≡ outs_of us)
      (each : (values : List ℤ) (outs : List (List ℕ)) → get_or lens 0 0 ≡ 1 → count_of us ≡ suc (length values) → AreCases us
      → AllTyped lens [] us → AllTyped (ones ++ lens) outs (cases (own_guards 0 gs) (length gs) values))
      (outs-inside : (values : List ℤ) → outs_of (cases (own_guards 0 gs) (length gs) values) ≡ outs_of us) where
    typed-by : (k : Kind) → IsKindWell k l.guards us → IsNoRepeat k → IsTyped lens (vertex (with_kind l k) us) → IsTyped (lens_under k ones lens) (guarded_by gs n l k us inner cases)
    typed-by (graph outs) well none h = (
      (lengths-append ones lens (guards-lengths len gs guards) h.0.0, h.0.1),
      subst (λ os. AllTyped (ones ++ lens) os (inner (own_guards 0 gs) (length gs)) × (l.outs ≡ map (source_length (ones ++ lens) os) (map (shift (length gs)) outs))) (sym outs-inner)
          (all (outs_of us) h.1.0, h.1.1 ∙ sym (shifted-sources (length gs) lens (ones ++ lens) (shifted-ones lens) (outs_of us) outs)),
    )
    typed-by (switch values names) well none h =
        let es = cases (own_guards 0 gs) (length gs) values in
        let long : count_of us ≡ suc (length values) = count-nodes us ∙ well.0.1.0 in
        let whole = outs_of us ++ merge_outs l.definition (own_guards 0 gs) (length gs) values (count_of us) l.outs 0 names in (
          (lengths-append ones lens (guards-lengths len gs guards) h.0.0, h.0.1),
          typed-made gs l values names us es lens (ones ++ lens) (shifted-ones lens)
              (outs-inside values) h.0.1 h.1.0.0 h.1.1.0 h.1.1.1 long (own-ones lens whole) (each values whole h.1.0.0 long well.0.1.1.1 h.1.0.1),
        )
    typed-by (repeat m feeds gives) well none h = absurd none
    typed-by (sensor m) well none h = h
    typed-by (actuator m) well none h = h
    typed-by (constant v) well none h = h
    typed-by (delay v) well none h = h
    typed-by (function es) well none h = h
    typed-by explode well none h = h
    typed-by implode well none h = h
    typed-by (merge values) well none h = h

-- a vertex of a level
typed-step : (gs : List Guard) (n : ℕ) (u : Vertex) (len : Source → ℕ) (lens : List ℕ) → AreGuardsTyped len gs
    → AreGuardsTyped len (map (shift_guard n) (label_of u).guards) → map len (map (shift n) (label_of u).ins) ≡ lens
    → IsTyped (lens_under (label_of u).kind (map len (guard_sources gs)) lens) (guarded gs n u)
    → AreGuardsTyped len (label_of (guarded gs n u)).guards × IsTyped (map len (label_of (guarded gs n u)).ins) (guarded gs n u)
typed-step gs n (vertex l us) len lens guards own e h = (
  guards-by gs n l us (λ inside m. guarded_all inside m us) (λ inside m values. guarded_cases inside m values 0 us) len guards l.kind own,
  subst (λ ls. IsTyped ls (guarded gs n (vertex l us)))
      (sym (ins-by gs n l us (λ inside m. guarded_all inside m us)
      (λ inside m values. guarded_cases inside m values 0 us) len guards l.kind ∙ ap (lens_under l.kind (map len (guard_sources gs))) e)) h,
)

mutual
  -- by the lengths of the guards' sources, and of the inputs that the vertex had
  pub typed-guarded : (gs : List Guard) (n : ℕ) (u : Vertex) → IsWell u → HasNoRepeat u → (len : Source → ℕ) → AreGuardsTyped len gs → (lens : List ℕ) → IsTyped lens u
      → IsTyped (lens_under (label_of u).kind (map len (guard_sources gs)) lens) (guarded gs n u)
  typed-guarded gs n (vertex l us) well none len guards lens h =
      let G = own_guards 0 gs in let m = length gs in let own' = map len (guard_sources gs) ++ lens in
      let shifted = shifted-ones gs n l us (λ inside m. guarded_all inside m us) (λ inside m values. guarded_cases inside m values 0 us) len guards lens in
      let own = own-ones gs n l us (λ inside m. guarded_all inside m us) (λ inside m values. guarded_cases inside m values 0 us) len guards lens in
      typed-by gs n l us (λ inside m. guarded_all inside m us) (λ inside m values. guarded_cases inside m values 0 us) len guards lens
      (λ outs t. typed-all G m us well.1 none.1 lens own' outs shifted (own outs) t) (outs-all G m us)
      (λ values outs one long fed t. typed-cases G m values 0 us well.1 none.1 lens own' outs shifted one (own outs) (zero-add (count_of us) ∙ long) fed t) (λ values. outs-cases G m values 0 us)
      l.kind well.0 none.0 h

  typed-all : (gs : List Guard) (n : ℕ) (us : Vertices) → AllWell us → AllNoRepeat us → (own own' : List ℕ) (outs : List (List ℕ)) → Shifted n own own' → AreGuardsTyped (source_length own' outs) gs
      → AllTyped own outs us → AllTyped own' outs (guarded_all gs n us)
  typed-all gs n no_vertices well none own own' outs shifted guards h = tt
  typed-all gs n (and_vertex u us) well none own own' outs shifted guards h = (
    typed-step gs n u (source_length own' outs) (map (source_length own outs) (label_of u).ins) guards
        (shifted-guards n own own' shifted outs (label_of u).guards h.0.0) (shifted-sources n own own' shifted outs (label_of u).ins)
        (typed-guarded gs n u well.0 none.0 (source_length own' outs) guards (map (source_length own outs) (label_of u).ins) h.0.1),
    typed-all gs n us well.1 none.1 own own' outs shifted guards h.1,
  )

  typed-cases : (gs : List Guard) (m : ℕ) (values : List ℤ) (i : ℕ) (us : Vertices) → AllWell us → AllNoRepeat us → (own own' : List ℕ) (outs : List (List ℕ)) → Shifted m own own' → get_or own 0 0 ≡ 1
      → AreGuardsTyped (source_length own' outs) gs → i + count_of us ≡ suc (length values) → AreCases us → AllTyped own [] us → AllTyped own' outs (guarded_cases gs m values i us)
  typed-cases gs m values i no_vertices well none own own' outs shifted one guards long fed h = tt
  typed-cases gs m values i (and_vertex (vertex l vs) us) well none own own' outs shifted one guards long fed h =
      let len = source_length own' outs in
      let at : get_or own' m 0 ≡ 1 = ap (λ k. get_or own' k 0) (omega arith) ∙ shifted 0 ∙ one in
      let more : AreGuardsTyped len (gs ++ guard_for m values i ∷ []) = guards-append len gs (guard_for m values i ∷ []) guards ((at, omega (arith, long)), tt) in (
        typed-step (gs ++ guard_for m values i ∷ []) m (vertex l vs) len (map (source_length own []) l.ins) more
            (own-guards m own own' shifted [] outs l.guards fed.0.1 h.0.0) (own-sources m own own' shifted [] outs l.ins fed.0.0)
            (typed-guarded (gs ++ guard_for m values i ∷ []) m (vertex l vs) well.0 none.0 len more (map (source_length own []) l.ins) h.0.1),
        typed-cases gs m values (suc i) us well.1 none.1 own own' outs shifted one guards (omega (arith, long)) fed.1 h.1,
      )
