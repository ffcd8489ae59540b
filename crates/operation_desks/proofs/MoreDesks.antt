-- One more desk.
use Rattle.std.proofs.Common.{◌≡◌, ℕ, zero, suc, ◌+◌, ◌⊎◌, inl, inr, Bool, true, false, List, [], ◌∷◌, ◌++◌, length, Option, Some, refl, sym, ap, subst, arith, ◌∙◌, length-append}
use Rattle.std.specs.Prelude.{slice_get, slice_index_or, replicate}
use Rattle.std.proofs.lemmas.List.{get_or-replicate}
use Rattle.std.proofs.lemmas.Option.{slice_get_within}
use Rattle.executive_program.specs.declared.Vertex.{Vertex}
use Rattle.executive_program.specs.Graph.{Graph}
use Rattle.operation_desks.specs.Desk.{DeskLens, HasDesk, AreDesks}

-- an entry of a list with one more stands in the list, or is the one more
entry_of : {A : Type 0} (xs : List A) (d e : A) (u : ℕ) → slice_get (xs ++ d ∷ []) u ≡ Some e → (slice_get xs u ≡ Some e) ⊎ ((u ≡ length xs) × (d ≡ e))
entry_of [] d e zero h = inr (refl, (cc))
entry_of [] d e (suc u) h = absurd (cc)
entry_of (x ∷ xs) d e zero h = inl h
entry_of (x ∷ xs) d e (suc u) h = by (entry_of xs d e u h)
  where
    by : (slice_get xs u ≡ Some e) ⊎ ((u ≡ length xs) × (d ≡ e)) → (slice_get xs u ≡ Some e) ⊎ ((suc u ≡ suc (length xs)) × (d ≡ e))
    by (inl l) = inl l
    by (inr (p, q)) = inr (ap suc p, q)

pub desks_more : (g : Graph) (mine : ℕ → Bool) (v : ℕ) (x : Vertex) (d : Option DeskLens) (desks new : List (Option DeskLens))
    → slice_get g.vertices v ≡ Some x → AreDesks g mine v desks → (mine v ≡ true → HasDesk g v x d) → new ≡ desks ++ d ∷ [] → AreDesks g mine (v + 1) new
desks_more g mine v x d desks new is are desk e = record {
  there = (let n = are.there in let a = ap (λ (l : List (Option DeskLens)). length l) e in let b = length-append desks (d ∷ []) in omega arith);
  each = λ u y f m at stands. by u y f m at (entry_of desks d f u (ap (λ (l : List (Option DeskLens)). slice_get l u) (sym e) ∙ stands));
}
  where
    by : (u : ℕ) (y : Vertex) (f : Option DeskLens) → mine u ≡ true → slice_get g.vertices u ≡ Some y → (slice_get desks u ≡ Some f) ⊎ ((u ≡ length desks) × (d ≡ f)) → HasDesk g u y f
    by u y f m at (inl l) = are.each u y f m at l
    by u y f m at (inr (p, q)) =
        let place : v ≡ u = sym (p ∙ are.there) in
        let same : x ≡ y = let s : Some x ≡ Some y = sym is ∙ ap (λ (n : ℕ). slice_get g.vertices n) place ∙ at in cc in
        subst (λ (n : ℕ). HasDesk g n y f) place (subst (λ (z : Vertex). HasDesk g v z f) same (subst (λ (z : Option DeskLens). HasDesk g v x z) q (desk (ap mine place ∙ m))))

-- where each is to be computed, each of a list of places is one of those
pub all_desks : (g : Graph) (desks : List (Option DeskLens)) (mine : List Bool) → mine ≡ replicate (length g.vertices) true
    → AreDesks g (λ v. slice_index_or mine v false) (length g.vertices) desks → AreDesks g (λ v. true) (length g.vertices) desks
all_desks g desks mine e are = record {
  there = are.there;
  each = λ v x d m is at. are.each v x d (ap (λ (l : List Bool). slice_index_or l v false) e ∙ get_or-replicate (length g.vertices) v true false (slice_get_within g.vertices v x is)) is at;
}
