-- Repetitions go round units without operations: what is pruned is unrolled as what is not.
use Rattle.std.proofs.Common.{◌≡◌, ℕ, pos, suc, ◌==◌, List, [], ◌∷◌, ◌++◌, length, map, slice_index_or, Bool, true, false, cond, Option, Some, None, refl, sym, ap, ap₂, ◌∙◌}
use Rattle.std.proofs.lemmas.Bool.{eqb-true}
use Rattle.std.proofs.lemmas.List.{map-append}
use Rattle.syn_base.specs.Vectors.{Values, Vector}
use Rattle.syn_base.specs.Numbers.{numbers_below}
use Rattle.algo_tree.specs.declared.Feed.{Feed}
use Rattle.algo_tree.specs.declared.Feed.TheVariants.{Fork, Diffuse, Iterate}
use Rattle.algo_tree.specs.declared.Give.{Give}
use Rattle.algo_tree.specs.declared.Give.TheVariants.{Last, Join}
use Rattle.algo_tree.specs.Level.{State}
use Rattle.algo_tree.specs.Tree.{Label, Kind, sensor, actuator, constant, delay, function, explode, implode, merge, graph, switch, repeat, Vertex, vertex, Vertices, no_vertices, and_vertex}
use Rattle.algo_tree.specs.View.{vertices_of}
use Rattle.algo_tree.specs.Meaning.{behaviour, node}
use Rattle.algo_tree.specs.Counted.{operations}
use Rattle.algo_tree.specs.Typed.{label_of, outs_of, source_length, fed_length, IsKindTyped, IsTyped, AllTyped, IsBodyTyped}
use Rattle.algo_tree.specs.Well.{IsOne, IsEmpty, IsKindWell, IsWell, AllWell}
use Rattle.algo_tree.specs.Relabelled.{with_kind}
use Rattle.algo_tree.proofs.Lists.{at_below, map_map}
use Rattle.flat_laws.specs.Lines.{in_line_order}
use Rattle.flat_laws.specs.Unrolled.{explode_of, explodes, copy, copies, implode_of, implodes, give_sources, begin, unrolled_inside, unrolled_at, unroll, unroll_all}
use Rattle.flat_laws.proofs.Labels.{unrolled_kind, label-unroll}
use Rattle.flat_laws.proofs.UnrolledWellness.{well-unroll}
use Rattle.flat_laws.proofs.UnrolledTyping.{typed-unroll}
use Rattle.flat_laws.proofs.UnrolledCounting.{counted-unroll}
use Rattle.flat_laws.proofs.Unroll.{node-unroll}
use Rattle.wiring_laws.specs.Wiring.{pick, wiring}
use Rattle.wiring_laws.specs.Laws.{AllLead}
use Rattle.wiring_laws.specs.Pruned.{passing, prune, prune_all}
use Rattle.wiring_laws.proofs.Idle.{idle}
use Rattle.wiring_laws.proofs.Fits.{inputs-fit}
use Rattle.wiring_laws.proofs.Prunable.{prune-idle, prune-live}
use Rattle.wiring_laws.proofs.Values.{outputs-idle}

-- inputs of which each tells its number
abbrev marks : ℕ → Values
marks n = map (λ k. pos k ∷ []) (numbers_below n)

same-number : (j k : ℕ) (v w : Vector) → v ≡ pos j ∷ [] → w ≡ pos k ∷ [] → v ≡ w → j ≡ k
same-number j k v w a b e = let h : pos j ∷ [] ≡ pos k ∷ [] = sym a ∙ e ∙ b in cc

-- what wiring gives of these tells where it leads
told : (n : ℕ) (xs ys : List (Option ℕ)) → AllLead n xs → AllLead n ys → map (pick [] (marks n)) xs ≡ map (pick [] (marks n)) ys → xs ≡ ys
told n [] [] a b e = refl
told n [] (y ∷ ys) a b e = absurd (let x = e in cc)
told n (x ∷ xs) [] a b e = absurd (let y = e in cc)
told n (None ∷ xs) (y ∷ ys) a b e = absurd a
told n (Some j ∷ xs) (None ∷ ys) a b e = absurd b
told n (Some j ∷ xs) (Some k ∷ ys) a b e =
    let first : slice_index_or (marks n) j [] ≡ slice_index_or (marks n) k [] = cc in
    let rest : map (pick [] (marks n)) xs ≡ map (pick [] (marks n)) ys = cc in
    ap₂ (λ i os. Some i ∷ os)
    (same-number j k (slice_index_or (marks n) j []) (slice_index_or (marks n) k []) (at_below n (λ k. pos k ∷ []) j [] a.0) (at_below n (λ k. pos k ∷ []) k [] b.0) first)
    (told n xs ys a.1 b.1 rest)

node-does : (u : Vertex) → (node u).does ≡ behaviour u
node-does (vertex l us) = refl

-- unrolling keeps where the outputs of a unit without operations lead: what it gives is the same
pub wiring-unroll : (lens : List ℕ) (u : Vertex) → IsWell u → IsTyped lens u → operations u ≡ 0 → wiring (unroll u) ≡ wiring u
wiring-unroll lens u w t h =
    let w' = well-unroll u w in
    let t' = typed-unroll u w lens t in
    let before = idle lens u w t h in
    let after = idle lens (unroll u) w' t' (counted-unroll u w ∙ h) in
    let none : State = λ q. [] in
    told (length lens) (wiring (unroll u)) (wiring u) (inputs-fit lens (unroll u) after t') (inputs-fit lens u before t)
    (sym (outputs-idle (unroll u) after [] none (marks (length lens)))
    ∙ ap (λ d. d.outputs [] none (marks (length lens))) (sym (node-does (unroll u)) ∙ ap (λ c. c.does) (node-unroll u w) ∙ node-does u)
    ∙ outputs-idle u before [] none (marks (length lens)))

abbrev mutual
  -- each unit without operations leads after unrolling as before
  pub Keeps : Vertex → Type 0
  Keeps (vertex l us) = (operations (vertex l us) ≡ 0 → wiring (unroll (vertex l us)) ≡ wiring (vertex l us)) × AllKeep us

  pub AllKeep : Vertices → Type 0
  AllKeep no_vertices = Unit {0}
  AllKeep (and_vertex u us) = Keeps u × AllKeep us

none-keep : (us : Vertices) → IsEmpty us → AllKeep us
none-keep no_vertices h = tt
none-keep (and_vertex u us) h = absurd h

module _ (lens : List ℕ) (l : Label) (us : Vertices) (level : (own : List ℕ) → AllTyped own (outs_of us) us → AllKeep us)
    (cases : (own : List ℕ) → AllTyped own [] us → AllKeep us) (body : (fed : List ℕ) → IsBodyTyped fed us → IsOne us → AllKeep us) where
  inside-keep : (k : Kind) → IsKindWell k l.guards us → IsKindTyped k lens l.outs (outs_of us) (λ own outs. AllTyped own outs us) (λ fed. IsBodyTyped fed us) → AllKeep us
  inside-keep (graph outs) w t = level lens t.0
  inside-keep (switch values names) w t = cases lens t.0.1
  inside-keep (repeat n feeds gives) w t = body (map (fed_length lens) feeds) t.0.1 w.1.0.1
  inside-keep (sensor n) w t = none-keep us w
  inside-keep (actuator n) w t = none-keep us w
  inside-keep (constant v) w t = none-keep us w
  inside-keep (delay vs) w t = none-keep us w
  inside-keep (function es) w t = none-keep us w
  inside-keep explode w t = none-keep us w
  inside-keep implode w t = none-keep us w
  inside-keep (merge values) w t = none-keep us w

mutual
  pub keeps : (lens : List ℕ) (u : Vertex) → IsWell u → IsTyped lens u → Keeps u
  keeps lens (vertex l us) w t = (
    wiring-unroll lens (vertex l us) w t,
    inside-keep lens l us (λ own deep. keeps_all own (outs_of us) us w.1 deep) (λ own deep. keeps_all own [] us w.1 deep) (λ fed deep one. keeps_body fed us w.1 deep one) l.kind w.0 t.1,
  )

  keeps_all : (own : List ℕ) (outs : List (List ℕ)) (us : Vertices) → AllWell us → AllTyped own outs us → AllKeep us
  keeps_all own outs no_vertices w t = tt
  keeps_all own outs (and_vertex u us) w t = (keeps (map (source_length own outs) (label_of u).ins) u w.0 t.0.1, keeps_all own outs us w.1 t.1)

  keeps_body : (fed : List ℕ) (us : Vertices) → AllWell us → IsBodyTyped fed us → IsOne us → AllKeep us
  keeps_body fed no_vertices w t one = tt
  keeps_body fed (and_vertex u no_vertices) w t one = (keeps fed u w.0 t, tt)
  keeps_body fed (and_vertex u (and_vertex v us)) w t one = absurd one

prune-listed : (us : List Vertex) → prune_all (vertices_of us) ≡ vertices_of (map prune us)
prune-listed [] = refl
prune-listed (u ∷ us) = ap (and_vertex (prune u)) (prune-listed us)

prune-explodes : (d : List ℕ) (n : ℕ) (fs : List Feed) → map prune (explodes d n fs) ≡ explodes d n fs
prune-explodes d n [] = refl
prune-explodes d n (Fork name k len ∷ fs) = ap (λ us. explode_of d n name k len ∷ us) (prune-explodes d n fs)
prune-explodes d n (Diffuse k ∷ fs) = prune-explodes d n fs
prune-explodes d n (Iterate k y ∷ fs) = prune-explodes d n fs

prune-implodes : (d : List ℕ) (c n : ℕ) (outs : List ℕ) (o : ℕ) (gs : List Give) → map prune (implodes d c n outs o gs) ≡ implodes d c n outs o gs
prune-implodes d c n outs o [] = refl
prune-implodes d c n outs o (Join name y ∷ gs) = ap (λ us. implode_of d c n name y (slice_index_or outs o 0) ∷ us) (prune-implodes d c n outs (suc o) gs)
prune-implodes d c n outs o (Last y ∷ gs) = prune-implodes d c n outs (suc o) gs

-- a copy of a body
abbrev copy_of : ℕ → List Feed → Vertex → ℕ → Vertex
copy_of c feeds (vertex body us) i = copy c feeds body us i

copies-are : (c : ℕ) (feeds : List Feed) (n : ℕ) (v : Vertex) (others : Vertices) → copies c feeds n (and_vertex v others) ≡ map (copy_of c feeds v) (numbers_below n)
copies-are c feeds n (vertex body us) others = refl

copy-either : (c : ℕ) (feeds : List Feed) (body : Label) (us : Vertices) (i : ℕ) (b : Bool)
    → cond b (passing (label_of (copy c feeds body us i)) (wiring (vertex body us))) (copy c feeds body (prune_all us) i)
    ≡ copy_of c feeds (cond b (passing body (wiring (vertex body us))) (vertex body (prune_all us))) i
copy-either c feeds body us i true = refl
copy-either c feeds body us i false = refl

same-map : {A B : Type 0} (f g : A → B) (xs : List A) → ((x : A) → f x ≡ g x) → map f xs ≡ map g xs
same-map f g [] h = refl
same-map f g (x ∷ xs) h = ap₂ (λ y ys. y ∷ ys) (h x) (same-map f g xs h)

prune-copies : (c : ℕ) (feeds : List Feed) (n : ℕ) (us : Vertices) → map prune (copies c feeds n us) ≡ copies c feeds n (prune_all us)
prune-copies c feeds n no_vertices = refl
prune-copies c feeds n (and_vertex (vertex body us) others) =
    map_map prune (copy c feeds body us) (numbers_below n)
    ∙ same-map (λ i. prune (copy c feeds body us i)) (copy_of c feeds (prune (vertex body us))) (numbers_below n) (λ i. copy-either c feeds body us i (operations (vertex body us) == 0))
    ∙ sym (copies-are c feeds n (prune (vertex body us)) (prune_all others))

prune-inside : (d : List ℕ) (n : ℕ) (feeds : List Feed) (gives : List Give) (outs : List ℕ) (us : Vertices)
    → prune_all (vertices_of (unrolled_inside d n feeds gives outs us)) ≡ vertices_of (unrolled_inside d n feeds gives outs (prune_all us))
prune-inside d n feeds gives outs us =
    prune-listed (unrolled_inside d n feeds gives outs us)
    ∙ ap vertices_of
    (map-append prune (explodes d n (in_line_order feeds)) _
    ∙ ap₂ (λ xs ys. xs ++ ys) (prune-explodes d n (in_line_order feeds))
    (map-append prune (copies (begin feeds) feeds n us) _ ∙ ap₂ (λ xs ys. xs ++ ys) (prune-copies (begin feeds) feeds n us) (prune-implodes d (begin feeds) n outs 0 gives)))

-- of a kind that has an operation
live-at : (l : Label) (us : Vertices) (k : Kind) → (operations (unrolled_at l k us) == 0) ≡ false → unrolled_at l k (prune_all us) ≡ prune (unrolled_at l k us)
live-at l us (repeat n feeds gives) e =
    ap (vertex (with_kind l (graph (give_sources (begin feeds) n 0 gives)))) (sym (prune-inside l.definition n feeds gives l.outs us)) ∙ sym (prune-live (unrolled_at l (repeat n feeds gives) us) e)
live-at l us (graph outs) e = sym (prune-live (unrolled_at l (graph outs) us) e)
live-at l us (switch values names) e = sym (prune-live (unrolled_at l (switch values names) us) e)
live-at l us (delay vs) e = sym (prune-live (unrolled_at l (delay vs) us) e)
live-at l us (sensor m) e = refl
live-at l us (actuator m) e = refl
live-at l us (constant v) e = refl
live-at l us (function es) e = refl
live-at l us explode e = refl
live-at l us implode e = refl
live-at l us (merge values) e = refl

unroll-either : (l : Label) (us : Vertices) → IsWell (vertex l us) → Keeps (vertex l us) → unroll_all (prune_all us) ≡ prune_all (unroll_all us)
    → (b : Bool) → (operations (vertex l us) == 0) ≡ b → unroll (cond b (passing l (wiring (vertex l us))) (vertex l (prune_all us))) ≡ prune (unroll (vertex l us))
unroll-either l us w h inner true e =
    let none = eqb-true (operations (vertex l us)) 0 e in
    ap (passing l) (sym (h.0 none))
    ∙ relabelled (label_of (unroll (vertex l us))) (unrolled_kind l.kind) (label-unroll (vertex l us)) ∙ sym (prune-idle (unroll (vertex l us)) (counted-unroll (vertex l us) w ∙ none))
  where
    relabelled : (m : Label) (k : Kind) → m ≡ with_kind l k → passing l (wiring (unroll (vertex l us))) ≡ passing m (wiring (unroll (vertex l us)))
    relabelled m k same = sym (ap (λ x. passing x (wiring (unroll (vertex l us)))) same)
unroll-either l us w h inner false e =
    ap (unrolled_at l l.kind) inner ∙ live-at l (unroll_all us) l.kind (ap (λ m. m == 0) (counted-unroll (vertex l us) w) ∙ e)

mutual
  pub unroll-prune : (u : Vertex) → IsWell u → Keeps u → unroll (prune u) ≡ prune (unroll u)
  unroll-prune (vertex l us) w h = unroll-either l us w h (unroll_all-prune us w.1 h.1) (operations (vertex l us) == 0) refl

  pub unroll_all-prune : (us : Vertices) → AllWell us → AllKeep us → unroll_all (prune_all us) ≡ prune_all (unroll_all us)
  unroll_all-prune no_vertices w h = refl
  unroll_all-prune (and_vertex u us) w h = ap₂ and_vertex (unroll-prune u w.0 h.0) (unroll_all-prune us w.1 h.1)
