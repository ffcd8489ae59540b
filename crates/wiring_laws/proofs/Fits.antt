-- Each output of a unit without operations leads to an input that is there, of the same length.
use Rattle.std.proofs.Common.{
  ◌≡◌,
  ℕ,
  zero,
  suc,
  ◌-◌,
  ◌<◌,
  ◌≤◌,
  ◌==◌,
  List,
  [],
  ◌∷◌,
  length,
  map,
  slice_index_or,
  Bool,
  true,
  false,
  cond,
  Option,
  Some,
  None,
  slice_get,
  refl,
  sym,
  ap,
  ap₂,
  ◌∙◌,
  subst,
  arith,
}
use Rattle.std.proofs.lemmas.Bool.{false≢true}
use Rattle.algo_tree.specs.declared.Source.{Source}
use Rattle.algo_tree.specs.declared.Feed.{Feed}
use Rattle.algo_tree.specs.declared.Feed.TheVariants.{Fork, Diffuse, Iterate}
use Rattle.algo_tree.specs.declared.Give.{Give}
use Rattle.algo_tree.specs.declared.Give.TheVariants.{Last, Join}
use Rattle.algo_tree.specs.Tree.{Label, Kind, sensor, actuator, constant, delay, function, explode, implode, merge, graph, switch, repeat, Vertex, vertex, Vertices, no_vertices, and_vertex}
use Rattle.algo_tree.specs.Meaning.{nodes}
use Rattle.algo_tree.specs.Typed.{AreLengths, label_of, outs_of, source_length, AllFed, fed_length, given_length, IsKindTyped, IsTyped, AllTyped, IsBodyTyped}
use Rattle.wiring_laws.specs.Wiring.{pick, lead, feed_lead, copy_lead, give_lead, body_leads, leads_by, wire, wires, wiring}
use Rattle.wiring_laws.specs.Laws.{AllLead}
use Rattle.wiring_laws.proofs.Rounds.{pick-map, at-map, hop, leads}
use Rattle.wiring_laws.proofs.Idle.{NoFork, NoJoin, IsKindIdle, IsIdle, AllIdle, matched}
use Rattle.wiring_laws.proofs.Values.{map-pick}

-- the length of an input of a copy
fed-lens : (n : ℕ) (lens outs : List ℕ) (f : ℕ → Option ℕ) (i : ℕ) → ((y : ℕ) → (i == 0) ≡ false → slice_index_or outs y 0 ≡ pick 0 lens (f y)) → (fs : List Feed) → NoFork fs → AllFed n lens outs fs
    → (j : ℕ) (s : Feed) → slice_get fs j ≡ Some s → fed_length lens s ≡ pick 0 lens (feed_lead f i s)
fed-lens n lens outs f i h [] none fed j s e = absurd (let x = e in cc)
fed-lens n lens outs f i h (Fork name k len ∷ fs) none fed j s e = absurd none
fed-lens n lens outs f i h (Diffuse k ∷ fs) none fed zero s e =
    let same : Diffuse k ≡ s = cc in
    subst (λ x. fed_length lens x ≡ pick 0 lens (feed_lead f i x)) same refl
fed-lens n lens outs f i h (Iterate k y ∷ fs) none fed zero s e =
    let same : Iterate k y ≡ s = cc in
    subst (λ x. fed_length lens x ≡ pick 0 lens (feed_lead f i x)) same (either (i == 0) refl)
  where
    either : (b : Bool) → (i == 0) ≡ b → slice_index_or lens k 0 ≡ pick 0 lens (cond b (Some k) (f y))
    either true e = refl
    either false e = fed.0 ∙ h y e
fed-lens n lens outs f i h (Diffuse k ∷ fs) none fed (suc j) s e = fed-lens n lens outs f i h fs none fed.1 j s e
fed-lens n lens outs f i h (Iterate k y ∷ fs) none fed (suc j) s e = fed-lens n lens outs f i h fs none fed.1 j s e

module _ (n : ℕ) (lens outs : List ℕ) (feeds : List Feed) (none : NoFork feeds) (fed : AllFed n lens outs feeds) (ls : List (Option ℕ))
    (is : outs ≡ map (pick 0 (map (fed_length lens) feeds)) ls) where
  copies-fit : (i y : ℕ) → slice_index_or outs y 0 ≡ pick 0 lens (copy_lead feeds ls i y)
  copies-fit zero y =
      ap (λ os. slice_index_or os y 0) is ∙ at-map (pick 0 (map (fed_length lens) feeds)) None ls y
      ∙ pick-map 0 lens (fed_length lens) (feed_lead (λ _. None) 0) feeds (fed-lens n lens outs (λ _. None) 0 (λ y not. absurd (false≢true (sym not))) feeds none fed) (slice_index_or ls y None)
  copies-fit (suc i) y =
      ap (λ os. slice_index_or os y 0) is ∙ at-map (pick 0 (map (fed_length lens) feeds)) None ls y
      ∙ pick-map 0 lens (fed_length lens) (feed_lead (copy_lead feeds ls i) (suc i)) feeds
      (fed-lens n lens outs (copy_lead feeds ls i) (suc i) (λ y not. copies-fit i y) feeds none fed) (slice_index_or ls y None)

  pub gives-fit : (m : ℕ) (gs : List Give) → NoJoin gs → map (given_length m outs) gs ≡ map (pick 0 lens) (map (give_lead n feeds ls) gs)
  gives-fit m [] h = refl
  gives-fit m (Last y ∷ gs) h = ap₂ (λ v vs. v ∷ vs) (copies-fit (n - 1) y) (gives-fit m gs h)
  gives-fit m (Join name y ∷ gs) h = absurd h

no-outs : (xs : List (List ℕ)) (ys : List ℕ) → xs ≡ [] → length xs ≡ length ys → ys ≡ []
no-outs xs [] h e = refl
no-outs xs (y ∷ ys) h e = absurd (let k : length xs ≡ 0 = ap length h in omega (arith, e, k))

module _ (lens : List ℕ) (l : Label) (us : Vertices) (inner : AllIdle us)
    (each : (own : List ℕ) → AllTyped own (outs_of us) us → (r p : ℕ) → slice_index_or (slice_index_or (outs_of us) r []) p 0 ≡ hop 0 (source_length own (outs_of us)) (wires us) r p)
    (body : (fed : List ℕ) → IsBodyTyped fed us → slice_index_or (outs_of us) 0 [] ≡ map (pick 0 fed) (body_leads (wires us))) where
  fits-by : (k : Kind) → IsKindIdle k us → IsKindTyped k lens l.outs (outs_of us) (λ own outs. AllTyped own outs us) (λ fed. IsBodyTyped fed us) → l.outs ≡ map (pick 0 lens) (leads_by k (wires us))
  fits-by (graph outs) h t =
      t.1 ∙ map-pick 0 lens Source (source_length lens (outs_of us)) (lead (wires us)) outs
      (leads 0 lens (source_length lens (outs_of us)) (wires us) (nodes us) (matched us inner) (λ k. refl) (each lens t.0) h)
  fits-by (switch values names) h t = no-outs names l.outs h t.1.1
  fits-by (repeat n feeds gives) h t =
      t.1 ∙ gives-fit n lens (slice_index_or (outs_of us) 0 []) feeds h.0.0 t.0.0 (body_leads (wires us)) (body (map (fed_length lens) feeds) t.0.1) n gives h.0.1
  fits-by (sensor n) h t = absurd h
  fits-by (actuator n) h t = absurd h
  fits-by (constant v) h t = absurd h
  fits-by (delay vs) h t = absurd h
  fits-by (function es) h t = absurd h
  fits-by explode h t = absurd h
  fits-by implode h t = absurd h
  fits-by (merge values) h t = absurd h

mutual
  pub fits : (lens : List ℕ) (u : Vertex) → IsIdle u → IsTyped lens u → (label_of u).outs ≡ map (pick 0 lens) (wiring u)
  fits lens (vertex l us) h t = fits-by lens l us h.1 (λ own deep r p. each-fits own (outs_of us) us h.1 deep r p) (λ fed deep. body-fits fed us h.1 deep) l.kind h.0.1 t.1

  each-fits : (own : List ℕ) (outs : List (List ℕ)) (us : Vertices) → AllIdle us → AllTyped own outs us → (r p : ℕ)
      → slice_index_or (slice_index_or (outs_of us) r []) p 0 ≡ hop 0 (source_length own outs) (wires us) r p
  each-fits own outs no_vertices h t r p = refl
  each-fits own outs (and_vertex u us) h t zero p =
      ap (λ os. slice_index_or os p 0) (fits (map (source_length own outs) (label_of u).ins) u h.0 t.0.1)
      ∙ at-map (pick 0 (map (source_length own outs) (label_of u).ins)) None (wiring u) p
      ∙ ap (λ ss. pick 0 (map (source_length own outs) ss) (slice_index_or (wiring u) p None)) (same-ins u)
    where
      same-ins : (u : Vertex) → (label_of u).ins ≡ (wire u).ins
      same-ins (vertex l us) = refl
  each-fits own outs (and_vertex u us) h t (suc r) p = each-fits own outs us h.1 t.1 r p

  body-fits : (fed : List ℕ) (us : Vertices) → AllIdle us → IsBodyTyped fed us → slice_index_or (outs_of us) 0 [] ≡ map (pick 0 fed) (body_leads (wires us))
  body-fits fed no_vertices h t = absurd t
  body-fits fed (and_vertex u us) h t = fits fed u h.0 t

-- an element that is not 0 is there
below-len : (lens : List ℕ) (k : ℕ) → 1 ≤ slice_index_or lens k 0 → k < length lens
below-len [] k h = absurd (omega (arith, h))
below-len (n ∷ lens) zero h = omega arith
below-len (n ∷ lens) (suc k) h = let r = below-len lens k h in omega (arith, r)

pub all-lead : (lens : List ℕ) (os : List (Option ℕ)) → AreLengths (map (pick 0 lens) os) → AllLead (length lens) os
all-lead lens [] h = tt
all-lead lens (None ∷ os) h = let x = h.0.0 in absurd (omega (arith, x))
all-lead lens (Some k ∷ os) h = (below-len lens k h.0.0, all-lead lens os h.1)

pub inputs-fit : (lens : List ℕ) (u : Vertex) → IsIdle u → IsTyped lens u → AllLead (length lens) (wiring u)
inputs-fit lens (vertex l us) h t = all-lead lens (wiring (vertex l us)) (subst AreLengths (fits lens (vertex l us) h t) t.0.1)
