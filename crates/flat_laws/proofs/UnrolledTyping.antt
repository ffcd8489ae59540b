-- In an unrolled tree the lengths of values fit.
use Rattle.std.proofs.Common.{
  ◌≡◌,
  ℕ,
  zero,
  suc,
  ◌+◌,
  ◌-◌,
  ◌*◌,
  ◌<◌,
  ◌≤◌,
  ◌==◌,
  cond,
  List,
  [],
  ◌∷◌,
  ◌++◌,
  length,
  get_or,
  map,
  replicate,
  false,
  refl,
  sym,
  ap,
  ap₂,
  ◌∙◌,
  subst,
  arith,
  add_assoc,
  zero-add,
  mul-pos,
  mul_comm,
  le-mul_of_pos_right,
}
use Rattle.std.proofs.Math.Dec.{eqb-suc-zero}
use Rattle.std.specs.Prelude.{sum}
use Rattle.std.proofs.lemmas.List.{map-append, get_or-replicate, length-replicate}
use Rattle.std.proofs.lemmas.List.Folds.{sum_by-replicate}
use Rattle.algo_tree.specs.declared.Source.{Source}
use Rattle.algo_tree.specs.declared.Source.TheVariants.{Own, Of}
use Rattle.algo_tree.specs.declared.Feed.{Feed}
use Rattle.algo_tree.specs.declared.Feed.TheVariants.{Fork, Diffuse, Iterate}
use Rattle.algo_tree.specs.declared.Give.{Give}
use Rattle.algo_tree.specs.declared.Give.TheVariants.{Last, Join}
use Rattle.algo_tree.specs.Tree.{Label, Kind, sensor, actuator, constant, delay, function, explode, implode, merge, graph, switch, repeat, Vertex, vertex, Vertices, no_vertices, and_vertex}
use Rattle.algo_tree.specs.View.{vertices_of}
use Rattle.algo_tree.specs.Well.{IsOne, IsWell, AllWell}
use Rattle.algo_tree.specs.Typed.{
  IsLength,
  AreLengths,
  AreEqual,
  label_of,
  outs_of,
  source_length,
  IsFed,
  AllFed,
  fed_length,
  given_length,
  IsKindTyped,
  IsTyped,
  AllTyped,
  IsBodyTyped,
  AreGuardsTyped,
}
use Rattle.algo_tree.specs.Relabelled.{with_kind}
use Rattle.algo_tree.proofs.Appends.{outs-append, typed-append}
use Rattle.flat_laws.specs.Unrolled.{explodes, copy_sources, copy, implodes, give_sources, begin, unrolled_inside, unrolled_at, unroll, unroll_all}
use Rattle.flat_laws.specs.Lines.{in_line_order, fork_place}
use Rattle.flat_laws.proofs.Lines.{AllLines, all-lines, AreApart, apart-lines, IsLine, lines-are, many-lines, forked, long-forked, place-below, at-place}
use Rattle.algo_tree.proofs.Lists.{append_left, append_right, map_map, map_below, same_below, lengths-replicate}
use Rattle.flat_laws.proofs.Unroll.{IsRepeatable, can_unroll, repeatable-unrolled}
use Rattle.flat_laws.proofs.Labels.{label-unroll, outs-unroll}
use Rattle.syn_base.specs.Numbers.{numbers_below}

-- lengths
length_at : (ns : List ℕ) (k : ℕ) → AreLengths ns → 0 < get_or ns k 0 → IsLength (get_or ns k 0)
length_at [] k h some = absurd (omega arith)
length_at (n ∷ ns) zero h some = h.0
length_at (n ∷ ns) (suc k) h some = length_at ns k h.1 some

one_part : (n len : ℕ) → 0 < n → IsLength (n * len) → IsLength len
one_part n zero some h = absurd (let e : n * 0 ≡ 0 = omega arith in let one = h.0 in omega (arith, e, one))
one_part n (suc len) some h =
    let most : suc len ≤ n * suc len = subst (λ m. suc len ≤ m) (mul_comm (suc len) n) (le-mul_of_pos_right (suc len) some) in
    let bound = h.1 in
    (omega arith, omega (arith, most, bound))

sum-replicate : (n len : ℕ) → sum (replicate n len) ≡ n * len
sum-replicate n len = sum_by-replicate (λ x. x) n len

equal-replicate : (n len : ℕ) → AreEqual (replicate n len)
equal-replicate zero len = refl
equal-replicate (suc n) len = ap (λ k. len ∷ replicate k len) (sym (length-replicate n len))

-- the lengths of the outputs of the explodes, and of the implodes from output j on
abbrev explode_outs : ℕ → List Feed → List (List ℕ)
explode_outs n = forked (λ k len. replicate n len)

abbrev implode_outs : List ℕ → ℕ → List Give → List (List ℕ)
implode_outs outs j [] = []
implode_outs outs j (Join name y ∷ gs) = (get_or outs j 0 ∷ []) ∷ implode_outs outs (suc j) gs
implode_outs outs j (Last y ∷ gs) = implode_outs outs (suc j) gs

module _ (d : List ℕ) (n : ℕ) (feeds : List Feed) (gives : List Give) (outs : List ℕ) (lb : Label) (vs : Vertices) where
  abbrev c : ℕ
  c = begin feeds

  abbrev S : List Feed
  S = in_line_order feeds

  abbrev E : List (List ℕ)
  E = explode_outs n S

  abbrev C : List (List ℕ)
  C = replicate n lb.outs

  abbrev I : List (List ℕ)
  I = implode_outs outs 0 gives

  abbrev O : List (List ℕ)
  O = E ++ (C ++ I)

  long_explodes : c ≡ length E
  long_explodes = sym (long-forked (λ k len. replicate n len) S ∙ many-lines feeds)

  outs-explodes : (fs : List Feed) → outs_of (vertices_of (explodes d n fs)) ≡ explode_outs n fs
  outs-explodes [] = refl
  outs-explodes (Fork name k len ∷ fs) = ap (λ os. replicate n len ∷ os) (outs-explodes fs)
  outs-explodes (Diffuse k ∷ fs) = outs-explodes fs
  outs-explodes (Iterate k y ∷ fs) = outs-explodes fs

  outs-implodes : (j : ℕ) (gs : List Give) → outs_of (vertices_of (implodes d c n outs j gs)) ≡ implode_outs outs j gs
  outs-implodes j [] = refl
  outs-implodes j (Join name y ∷ gs) = ap (λ os. (get_or outs j 0 ∷ []) ∷ os) (outs-implodes (suc j) gs)
  outs-implodes j (Last y ∷ gs) = outs-implodes (suc j) gs

  outs-copy : (is : List ℕ) → outs_of (vertices_of (map (copy c feeds lb vs) is)) ≡ map (λ i. lb.outs) is
  outs-copy [] = refl
  outs-copy (i ∷ is) = ap (λ os. lb.outs ∷ os) (outs-copy is)

  pub outs-inside : outs_of (vertices_of (unrolled_inside d n feeds gives outs (and_vertex (vertex lb vs) no_vertices))) ≡ O
  outs-inside =
      outs-append (explodes d n S) _
      ∙ ap₂ (λ xs ys. xs ++ ys) (outs-explodes S)
      (outs-append (map (copy c feeds lb vs) (numbers_below n)) (implodes d c n outs 0 gives) ∙ ap₂ (λ xs ys. xs ++ ys) (outs-copy (numbers_below n) ∙ same_below n lb.outs) (outs-implodes 0 gives))

  at_explode : AreApart feeds → (name : List ℕ) (k len : ℕ) → IsLine (Fork name k len) S → get_or O (fork_place name S) [] ≡ replicate n len
  at_explode apart name k len line =
      let below = place-below name k len S line in
      let many = many-lines feeds in
      let long = long_explodes in
      append_left E (C ++ I) (fork_place name S) [] (omega (arith, below, many, long)) ∙ at-place (λ j m. replicate n m) [] name k len S (apart-lines feeds apart) line

  at_copy : (i : ℕ) → i < n → get_or O (c + i) [] ≡ lb.outs
  at_copy i lt =
      let e : c ≡ length E = long_explodes in
      ap (λ k. get_or O (k + i) []) e ∙ append_right E (C ++ I) i [] ∙ append_left C I i [] (let k = length-replicate n lb.outs in omega (arith, k)) ∙ get_or-replicate n i lb.outs [] lt

  at_implode : (j : ℕ) → get_or O (c + n + j) [] ≡ get_or I j []
  at_implode j =
      let e : c ≡ length E = long_explodes in
      let k : length C ≡ n = length-replicate n lb.outs in
      ap (λ m. get_or O m []) (add_assoc c n j) ∙ ap (λ m. get_or O (m + (n + j)) []) e ∙ append_right E (C ++ I) (n + j) [] ∙ ap (λ m. get_or (C ++ I) (m + j) []) (sym k) ∙ append_right C I j []

  module _ (lens : List ℕ) (some : 0 < n) where
    abbrev len_of : Source → ℕ
    len_of = source_length lens O

    iterated : (i k y : ℕ) → i < n → get_or lens k 0 ≡ get_or lb.outs y 0 → len_of (cond (i == 0) (Own k) (Of (c + (i - 1)) y)) ≡ get_or lens k 0
    iterated zero k y lt same = refl
    iterated (suc i) k y lt same =
        let test : (suc i == 0) ≡ false = eqb-suc-zero i in
        let before : get_or O (c + (suc i - 1)) [] ≡ lb.outs = ap (λ m. get_or O (c + m) []) (omega arith) ∙ at_copy i (omega arith) in
        rw test (ap (λ os. get_or os y 0) before ∙ sym same)

    -- the inputs of copy i have the lengths that the lines say
    copy_lengths : AreApart feeds → (i : ℕ) → i < n → (fs : List Feed) → AllLines (λ f. IsLine f S) fs → AllFed n lens lb.outs fs → map len_of (copy_sources c i S fs) ≡ map (fed_length lens) fs
    copy_lengths apart i lt [] at fed = refl
    copy_lengths apart i lt (Fork name k len ∷ fs) at fed =
        ap₂ (λ x xs. x ∷ xs) (ap (λ os. get_or os i 0) (at_explode apart name k len at.0) ∙ get_or-replicate n i len 0 lt) (copy_lengths apart i lt fs at.1 fed.1)
    copy_lengths apart i lt (Diffuse k ∷ fs) at fed = ap (λ xs. get_or lens k 0 ∷ xs) (copy_lengths apart i lt fs at.1 fed.1)
    copy_lengths apart i lt (Iterate k y ∷ fs) at fed = ap₂ (λ x xs. x ∷ xs) (iterated i k y lt fed.0) (copy_lengths apart i lt fs at.1 fed.1)

    typed-copies : AreApart feeds → (k : ℕ) → k ≤ n → AllFed n lens lb.outs feeds → IsTyped (map (fed_length lens) feeds) (vertex lb vs)
        → AllTyped lens O (vertices_of (map (copy c feeds lb vs) (numbers_below k)))
    typed-copies apart zero le fed body = tt
    typed-copies apart (suc k) le fed body =
        let here : IsTyped (map len_of (copy_sources c k S feeds)) (vertex lb vs) =
        subst (λ ns. IsTyped ns (vertex lb vs)) (sym (copy_lengths apart k (omega arith) feeds (lines-are feeds) fed)) body in
        subst (λ xs. AllTyped lens O (vertices_of xs)) (sym (map-append (copy c feeds lb vs) (numbers_below k) (k ∷ [])))
        (typed-append lens O (map (copy c feeds lb vs) (numbers_below k)) (copy c feeds lb vs k ∷ []) (typed-copies apart k (omega arith) fed body) ((tt, here), tt))

    -- what the lengths ask of a line
    abbrev IsLineFed : Feed → Type 0
    IsLineFed f = IsFed n lens lb.outs f × IsLength (fed_length lens f)

    all-fed : (fs : List Feed) → AllFed n lens lb.outs fs → AreLengths (map (fed_length lens) fs) → AllLines IsLineFed fs
    all-fed [] fed each = tt
    all-fed (f ∷ fs) fed each = ((fed.0, each.0), all-fed fs fed.1 each.1)

    typed-explodes : (fs : List Feed) → AreLengths lens → AllLines IsLineFed fs → AllTyped lens O (vertices_of (explodes d n fs))
    typed-explodes [] h fed = tt
    typed-explodes (Fork name k len ∷ fs) h fed =
        let whole : get_or lens k 0 ≡ n * len = fed.0.0 in
        let one : 0 < len = let e = fed.0.1.0 in omega (arith, e) in
        let there : 0 < get_or lens k 0 = subst (λ m. 0 < m) (sym whole) (mul-pos some one) in
        ((tt, (((length_at lens k h there, tt), lengths-replicate n len fed.0.1), (ap (λ m. m ∷ []) (whole ∙ sym (sum-replicate n len)), equal-replicate n len))), typed-explodes fs h fed.1)
    typed-explodes (Diffuse k ∷ fs) h fed = typed-explodes fs h fed.1
    typed-explodes (Iterate k y ∷ fs) h fed = typed-explodes fs h fed.1

    abbrev given : List Give → List ℕ
    given gs = map (given_length n lb.outs) gs

    typed-implodes : (j : ℕ) (gs : List Give) → AreLengths (given gs)
        → ((q : ℕ) → q < length gs → get_or outs (j + q) 0 ≡ get_or (given gs) q 0) → AllTyped lens O (vertices_of (implodes d c n outs j gs))
    typed-implodes j [] h at = tt
    typed-implodes j (Join name y ∷ gs) h at =
        let len = get_or lb.outs y 0 in
        let is : get_or outs j 0 ≡ n * len = ap (λ q. get_or outs q 0) (omega arith) ∙ at 0 (omega arith) in
        let ins : map len_of (map (λ i. Of (c + i) y) (numbers_below n)) ≡ replicate n len =
        map_map len_of (λ i. Of (c + i) y) (numbers_below n) ∙ map_below n (λ i. len_of (Of (c + i) y)) (λ i. len) (λ i lt. ap (λ os. get_or os y 0) (at_copy i lt)) ∙ same_below n len in
        let parts : AreLengths (replicate n len) = lengths-replicate n len (one_part n len some h.0) in
        let joins : get_or outs j 0 ∷ [] ≡ sum (replicate n len) ∷ [] = ap (λ m. m ∷ []) (is ∙ sym (sum-replicate n len)) in (
          (
            tt,
            subst (λ ns. (AreLengths ns × AreLengths (get_or outs j 0 ∷ [])) × ((get_or outs j 0 ∷ [] ≡ sum ns ∷ []) × AreEqual ns))
                (sym ins) ((parts, (subst IsLength (sym is) h.0, tt)), (joins, equal-replicate n len)),
          ),
          typed-implodes (suc j) gs h.1 (λ q lt. ap (λ m. get_or outs m 0) (omega arith) ∙ at (suc q) (omega arith)),
        )
    typed-implodes j (Last y ∷ gs) h at = typed-implodes (suc j) gs h.1 (λ q lt. ap (λ m. get_or outs m 0) (omega arith) ∙ at (suc q) (omega arith))

    gives_lengths : (j m : ℕ) (gs : List Give) → ((q : ℕ) → get_or O (c + n + (m + q)) [] ≡ get_or (implode_outs outs j gs) q [])
        → ((q : ℕ) → q < length gs → get_or outs (j + q) 0 ≡ get_or (given gs) q 0)
        → given gs ≡ map len_of (give_sources c n m gs)
    gives_lengths j m [] behind at = refl
    gives_lengths j m (Join name y ∷ gs) behind at =
        let is : get_or outs j 0 ≡ n * get_or lb.outs y 0 = ap (λ q. get_or outs q 0) (omega arith) ∙ at 0 (omega arith) in
        let here : get_or O (c + n + m) [] ≡ get_or outs j 0 ∷ [] = ap (λ q. get_or O q []) (omega arith) ∙ behind 0 in
        ap₂ (λ x xs. x ∷ xs) (sym is ∙ sym (ap (λ os. get_or os 0 0) here))
        (gives_lengths (suc j) (suc m) gs (λ q. ap (λ k. get_or O k []) (omega arith) ∙ behind (suc q)) (λ q lt. ap (λ k. get_or outs k 0) (omega arith) ∙ at (suc q) (omega arith)))
    gives_lengths j m (Last y ∷ gs) behind at =
        ap₂ (λ x xs. x ∷ xs) (sym (ap (λ os. get_or os y 0) (at_copy (n - 1) (omega arith))))
        (gives_lengths (suc j) m gs behind (λ q lt. ap (λ k. get_or outs k 0) (omega arith) ∙ at (suc q) (omega arith)))

    abbrev inside : Vertices
    inside = vertices_of (unrolled_inside d n feeds gives outs (and_vertex (vertex lb vs) no_vertices))

    pub typed-inside : AreApart feeds → AreLengths lens → AreLengths outs → AllFed n lens lb.outs feeds → IsTyped (map (fed_length lens) feeds) (vertex lb vs) → outs ≡ given gives
        → AllTyped lens (outs_of inside) inside × (outs ≡ map (source_length lens (outs_of inside)) (give_sources c n 0 gives))
    typed-inside apart ins_lengths outs_lengths fed body is =
        let at : (q : ℕ) → q < length gives → get_or outs (0 + q) 0 ≡ get_or (given gives) q 0 = λ q lt. ap (λ k. get_or outs k 0) (zero-add q) ∙ ap (λ os. get_or os q 0) is in
        let each : AreLengths (given gives) = subst AreLengths is outs_lengths in
        subst (λ oss. AllTyped lens oss inside × (outs ≡ map (source_length lens oss) (give_sources c n 0 gives))) (sym outs-inside) (
          typed-append lens O (explodes d n S) _ (typed-explodes S ins_lengths (all-lines IsLineFed feeds (all-fed feeds fed body.0.0)))
              (typed-append lens O (map (copy c feeds lb vs) (numbers_below n)) _ (typed-copies apart n (omega arith) fed body) (typed-implodes 0 gives each at)),
          is ∙ gives_lengths 0 0 gives (λ q. ap (λ k. get_or O (c + n + k) []) (zero-add q) ∙ at_implode q) at,
        )

-- a vertex of a kind, where what is inside it has become other vertices of the same lengths
typed-repeat : (l : Label) (n : ℕ) (feeds : List Feed) (gives : List Give) (us : Vertices) (lens : List ℕ) → 0 < n → IsOne us
    → AreApart feeds → IsTyped lens (vertex (with_kind l (repeat n feeds gives)) us) → IsTyped lens (unrolled_at l (repeat n feeds gives) us)
typed-repeat l n feeds gives no_vertices lens some one apart h = absurd one
typed-repeat l n feeds gives (and_vertex u (and_vertex v us)) lens some one apart h = absurd one
typed-repeat l n feeds gives (and_vertex (vertex lb vs) no_vertices) lens some one apart h =
    (h.0, typed-inside l.definition n feeds gives l.outs lb vs lens some apart h.0.0 h.0.1 h.1.0.0 h.1.0.1 h.1.1)

typed-at : (l : Label) (k : Kind) (us : Vertices) (lens : List ℕ) → IsRepeatable k us → IsTyped lens (vertex (with_kind l k) us) → IsTyped lens (unrolled_at l k us)
typed-at l (repeat n feeds gives) us lens can h = typed-repeat l n feeds gives us lens can.0.0 can.0.1 can.1 h
typed-at l (sensor m) us lens can h = h
typed-at l (actuator m) us lens can h = h
typed-at l (constant v) us lens can h = h
typed-at l (delay v) us lens can h = h
typed-at l (function es) us lens can h = h
typed-at l explode us lens can h = h
typed-at l implode us lens can h = h
typed-at l (merge values) us lens can h = h
typed-at l (graph sources) us lens can h = h
typed-at l (switch values names) us lens can h = h

-- what a kind asks of its inside, where another inside has the same outputs and is as well typed
typed-kind : (k : Kind) (lens outs : List ℕ) (inner : List (List ℕ)) (level level' : List ℕ → List (List ℕ) → Type 0) (body body' : List ℕ → Type 0)
    → ((own : List ℕ) (os : List (List ℕ)) → level own os → level' own os) → ((fed : List ℕ) → body fed → body' fed)
    → IsKindTyped k lens outs inner level body → IsKindTyped k lens outs inner level' body'
typed-kind (repeat n feeds gives) lens outs inner level level' body body' L B h = ((h.0.0, B (map (fed_length lens) feeds) h.0.1), h.1)
typed-kind (graph sources) lens outs inner level level' body body' L B h = (L lens inner h.0, h.1)
typed-kind (switch values names) lens outs inner level level' body body' L B h = ((h.0.0, L lens [] h.0.1), h.1)
typed-kind (sensor m) lens outs inner level level' body body' L B h = h
typed-kind (actuator m) lens outs inner level level' body body' L B h = h
typed-kind (constant v) lens outs inner level level' body body' L B h = h
typed-kind (delay v) lens outs inner level level' body body' L B h = h
typed-kind (function es) lens outs inner level level' body body' L B h = h
typed-kind explode lens outs inner level level' body body' L B h = h
typed-kind implode lens outs inner level level' body body' L B h = h
typed-kind (merge values) lens outs inner level level' body body' L B h = h

abbrev TypedAs : Label → List ℕ → List (List ℕ) → Vertices → Type 0
TypedAs l lens inner us = (AreLengths lens × AreLengths l.outs) × IsKindTyped l.kind lens l.outs inner (λ own os. AllTyped own os us) (λ fed. IsBodyTyped fed us)

typed-next : (own : List ℕ) (outs : List (List ℕ)) (u v : Vertex) (us vs : Vertices) → (label_of v).guards ≡ (label_of u).guards → (label_of v).ins ≡ (label_of u).ins
    → ((lens : List ℕ) → IsTyped lens u → IsTyped lens v) → (AllTyped own outs us → AllTyped own outs vs) → AllTyped own outs (and_vertex u us) → AllTyped own outs (and_vertex v vs)
typed-next own outs u v us vs guards ins here rest h =
    ((subst (AreGuardsTyped (source_length own outs)) (sym guards) h.0.0, subst (λ ss. IsTyped (map (source_length own outs) ss) v) (sym ins) (here _ h.0.1)), rest h.1)

mutual
  pub typed-unroll : (u : Vertex) → IsWell u → (lens : List ℕ) → IsTyped lens u → IsTyped lens (unroll u)
  typed-unroll (vertex l us) well lens h =
      let vs = unroll_all us in
      let same : TypedAs l lens (outs_of vs) us = subst (λ oss. TypedAs l lens oss us) (sym (outs-unroll us)) h in
      typed-at l l.kind vs lens (repeatable-unrolled l.kind us (can_unroll l.kind l.guards us well.0))
      (same.0, typed-kind l.kind lens l.outs (outs_of vs) _ _ _ _ (λ own os. typed-unroll_all us well.1 own os) (λ fed. typed-unroll_body us well.1 fed) same.1)

  typed-unroll_all : (us : Vertices) → AllWell us → (own : List ℕ) (outs : List (List ℕ)) → AllTyped own outs us → AllTyped own outs (unroll_all us)
  typed-unroll_all no_vertices well own outs h = tt
  typed-unroll_all (and_vertex u us) well own outs h =
      typed-next own outs u (unroll u) us (unroll_all us) (ap (λ l. l.guards) (label-unroll u)) (ap (λ l. l.ins) (label-unroll u)) (typed-unroll u well.0) (typed-unroll_all us well.1 own outs) h

  typed-unroll_body : (us : Vertices) → AllWell us → (fed : List ℕ) → IsBodyTyped fed us → IsBodyTyped fed (unroll_all us)
  typed-unroll_body no_vertices well fed h = h
  typed-unroll_body (and_vertex u us) well fed h = typed-unroll u well.0 fed h
