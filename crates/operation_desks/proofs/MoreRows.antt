-- Rows that are laid out for one more operation.
use Rattle.std.proofs.Common.{◌≡◌, ℕ, ◌+◌, Bool, cond, List, ◌∷◌, ◌++◌, map, drop, append_assoc, Some, sym, ap, ◌∙◌}
use Rattle.std.specs.Prelude.{slice_get}
use Rattle.std.proofs.lemmas.List.{drop_more}
use Rattle.std.proofs.lemmas.Option.{slice_get_within, get_or_from_slice_get}
use Rattle.executive_program.specs.declared.Vertex.{Vertex}
use Rattle.executive_program.specs.Graph.{Graph}
use Rattle.executive_program.specs.FlatLaws.{actuator_len}
use Rattle.operation_desks.specs.RowLens.{lens_for}

-- one more operation
pub lens_more : (g : Graph) (mine : ℕ → Bool) (vs : List Vertex) (k : ℕ) (x : Vertex) (b : Bool) (lens new all : List ℕ) → slice_get vs k
    ≡ Some x → b ≡ mine k → new ≡ lens ++ map (λ (l : ℕ). cond b l 0) (actuator_len g x x.kind)
    → lens ++ lens_for g mine k (drop k vs) ≡ all → new ++ lens_for g mine (k + 1) (drop (k + 1) vs) ≡ all
lens_more g mine vs k x b lens new all is on n e =
    ap (λ (l : List ℕ). l ++ lens_for g mine (k + 1) (drop (k + 1) vs)) n
    ∙ append_assoc lens (map (λ (l : ℕ). cond b l 0) (actuator_len g x x.kind)) (lens_for g mine (k + 1) (drop (k + 1) vs))
    ∙ ap (λ (c : Bool). lens ++ (map (λ (l : ℕ). cond c l 0) (actuator_len g x x.kind) ++ lens_for g mine (k + 1) (drop (k + 1) vs))) on
    ∙ ap (λ (xs : List Vertex). lens ++ lens_for g mine k xs) (sym dropped) ∙ e
  where
    dropped : drop k vs ≡ x ∷ drop (k + 1) vs
    dropped = drop_more vs k x (slice_get_within vs k x is) ∙ ap (λ (y : Vertex). y ∷ drop (k + 1) vs) (get_or_from_slice_get vs k x x is)
