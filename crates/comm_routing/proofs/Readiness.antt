-- What an operation depends on, part by part.
use Rattle.std.proofs.Common.{◌≡◌, ℕ, Bool, ◌&&◌, ◌++◌, map, ap, ◌∙◌}
use Rattle.std.specs.List.{list_all}
use Rattle.std.proofs.lemmas.List.Folds.{list_all-append, list_all-map}
use Rattle.schedule.specs.declared.Source.{Source}
use Rattle.schedule.specs.declared.Guard.{Guard}
use Rattle.schedule.specs.declared.Vertex.{Vertex}
use Rattle.schedule.specs.FlatOrder.{depends_on, get_half}

pub ready_by_parts : (placed : ℕ → Bool) (x : Vertex)
    → list_all placed (depends_on x) ≡ (list_all (λ g. placed g.source.vertex) x.guards && list_all (λ s. placed s.vertex) x.ins && list_all placed (get_half x.kind x.twin))
ready_by_parts placed x =
    list_all-append placed (map (λ g. g.source.vertex) x.guards ++ map (λ s. s.vertex) x.ins) (get_half x.kind x.twin)
    ∙ ap (λ b. b && list_all placed (get_half x.kind x.twin)) (list_all-append placed (map (λ g. g.source.vertex) x.guards) (map (λ s. s.vertex) x.ins))
    ∙ (λ i. list_all-map placed (λ (g : Guard). g.source.vertex) x.guards i && list_all-map placed (λ (s : Source). s.vertex) x.ins i && list_all placed (get_half x.kind x.twin))
