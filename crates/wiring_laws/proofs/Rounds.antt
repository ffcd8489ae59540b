-- Whatever meets the equations of a level's wires is, at each source, what stands at the input to which it leads.
use Rattle.std.proofs.Common.{◌≡◌, ℕ, zero, suc, ◌≤◌, inl, inr, List, [], ◌∷◌, length, map, slice_index_or, Bool, true, false, Option, Some, None, slice_get, refl, sym, ap, ◌∙◌, subst, arith}
use Rattle.std.proofs.lemmas.Bool.{cases_lt, false≢true}
use Rattle.algo_tree.specs.declared.Source.{Source}
use Rattle.algo_tree.specs.declared.Source.TheVariants.{Own, Of}
use Rattle.algo_tree.specs.Level.{Node, with_node}
use Rattle.algo_tree.specs.Order.{source_ready, sources_ready, guards_ready, is_ready, settled, IsAcyclic}
use Rattle.algo_tree.proofs.Fuel.{and-left, and-right}
use Rattle.algo_tree.proofs.Lists.{none_past}
use Rattle.wiring_laws.specs.Wiring.{pick, Wire, with_wire, lead_source, lead_out, lead}

-- what is picked from one list is picked from another, where each element is
pub pick-map : {A S : Type 0} (d : A) (xs : List A) (f : S → A) (g : S → Option ℕ) (ss : List S) → ((i : ℕ) (s : S) → slice_get ss i ≡ Some s → f s ≡ pick d xs (g s))
    → (o : Option ℕ) → pick d (map f ss) o ≡ pick d xs (pick None (map g ss) o)
pick-map d xs f g ss h None = refl
pick-map d xs f g [] h (Some k) = refl
pick-map d xs f g (s ∷ ss) h (Some zero) = h 0 s refl
pick-map d xs f g (s ∷ ss) h (Some (suc k)) = pick-map d xs f g ss (λ i x e. h (suc i) x e) (Some k)

-- an element of a list that is made of another
pub at-map : {A B : Type 0} (f : A → B) (d : A) (xs : List A) (p : ℕ) → slice_index_or (map f xs) p (f d) ≡ f (slice_index_or xs p d)
at-map f d [] p = refl
at-map f d (x ∷ xs) zero = refl
at-map f d (x ∷ xs) (suc p) = at-map f d xs p

ready-at : (done : ℕ → Bool) (ss : List Source) → sources_ready done ss ≡ true → (i : ℕ) (s : Source) → slice_get ss i ≡ Some s → source_ready done s ≡ true
ready-at done [] h i s e = absurd (let x = e in cc)
ready-at done (x ∷ ss) h zero s e =
    let same : x ≡ s = cc in
    subst (λ y. source_ready done y ≡ true) same (and-left (source_ready done x) (sources_ready done ss) h)
ready-at done (x ∷ ss) h (suc i) s e = ready-at done ss (and-right (source_ready done x) (sources_ready done ss) h) i s e

-- wires beside the nodes of their level
abbrev pub Matched : List Wire → List Node → Type 0
Matched [] [] = Unit {0}
Matched [] (c ∷ cs) = ⊥
Matched (w ∷ ws) [] = ⊥
Matched (w ∷ ws) (c ∷ cs) = (w.ins ≡ c.asked) × Matched ws cs

pub matched_length : (ws : List Wire) (cs : List Node) → Matched ws cs → length ws ≡ length cs
matched_length [] [] h = refl
matched_length [] (c ∷ cs) h = absurd h
matched_length (w ∷ ws) [] h = absurd h
matched_length (w ∷ ws) (c ∷ cs) h = ap suc (matched_length ws cs h.1)

-- what stands at an output of a vertex, by what stands at its inputs
abbrev pub hop : {A : Type 0} → A → (Source → A) → List Wire → ℕ → ℕ → A
hop d look ws r p = with_wire (slice_get ws r) d (λ w. pick d (map look w.ins) (slice_index_or w.leads p None))

module _ {A : Type 0} (d : A) (xs : List A) (look : Source → A) where
  at-wire : (ws : List Wire) (cs : List Node) → Matched ws cs → (done : ℕ → Bool) (f : Source → Option ℕ) → ((s : Source) → source_ready done s ≡ true → look s ≡ pick d xs (f s))
      → (r : ℕ) → with_node (slice_get cs r) false (is_ready done) ≡ true → (p : ℕ)
      → hop d look ws r p ≡ pick d xs (with_wire (slice_get ws r) None (λ w. pick None (map f w.ins) (slice_index_or w.leads p None)))
  at-wire [] cs m done f ih r h p = refl
  at-wire (w ∷ ws) [] m done f ih r h p = absurd m
  at-wire (w ∷ ws) (c ∷ cs) m done f ih zero h p =
      let ready : sources_ready done w.ins ≡ true = ap (sources_ready done) m.0 ∙ and-right (guards_ready done c.guards) (sources_ready done c.asked) h in
      pick-map d xs look f w.ins (λ i s e. ih s (ready-at done w.ins ready i s e)) (slice_index_or w.leads p None)
  at-wire (w ∷ ws) (c ∷ cs) m done f ih (suc r) h p = at-wire ws cs m.1 done f ih r h p

  module _ (ws : List Wire) (cs : List Node) (m : Matched ws cs) (own : (k : ℕ) → look (Own k) ≡ slice_index_or xs k d) (each : (r p : ℕ) → look (Of r p) ≡ hop d look ws r p) where
    rounds : (k : ℕ) (s : Source) → source_ready (settled cs k) s ≡ true → look s ≡ pick d xs (lead_source (lead_out ws k) s)
    rounds k (Own j) h = own j
    rounds zero (Of r p) h = absurd (false≢true h)
    rounds (suc k) (Of r p) h = each r p ∙ at-wire ws cs m (settled cs k) (lead_source (lead_out ws k)) (rounds k) r h p

    none-out : (fuel r p : ℕ) → length ws ≤ r → lead_out ws fuel r p ≡ None
    none-out zero r p h = refl
    none-out (suc fuel) r p h = rw (none_past ws r h)

    none-hop : (r p : ℕ) → length ws ≤ r → hop d look ws r p ≡ d
    none-hop r p h = rw (none_past ws r h)

    pub leads : IsAcyclic cs → (s : Source) → look s ≡ pick d xs (lead ws s)
    leads acyclic (Own k) = own k
    leads acyclic (Of r p) = elim (cases_lt r (length cs)) [
      | inl lt ↦ subst (λ n. look (Of r p) ≡ pick d xs (lead_out ws n r p)) (sym (matched_length ws cs m)) (rounds (length cs) (Of r p) (acyclic r lt))
      | inr past ↦
          let le : length ws ≤ r = let e = matched_length ws cs m in omega (arith, e, past) in
          each r p ∙ none-hop r p le ∙ ap (pick d xs) (sym (none-out (length ws) r p le))
    ]
