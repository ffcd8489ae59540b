-- The flat values are a fixed point.
use Rattle.std.proofs.Common.{◌≡◌, true, ◌&&◌, ◌==◌, List, [], ◌∷◌, map, refl, ap, ◌∙◌}
use Rattle.std.specs.Prelude.{IsTrue, if◌then◌else◌}
use Rattle.std.proofs.lemmas.Bool.{and_parts}
use Rattle.level_meaning.specs.declared.source.Source as of_level
use Rattle.level_meaning.specs.Level.{selected, all_hold, level_value}
use Rattle.level_meaning.proofs.Fuel.{out_is}
use Rattle.flat_graph.specs.declared.vertex.Source.{Source}
use Rattle.flat_graph.specs.declared.vertex.Guard.{Guard}
use Rattle.flat_graph.specs.Graph.{Graph}
use Rattle.flat_graph.specs.Order.{is_acyclic}
use Rattle.flat_graph.specs.Valid.{is_flat}
use Rattle.flat_graph.specs.Fire.{guards_hold, kind_outputs}
use Rattle.flat_graph.specs.Meaning.{level_source, level_guard, node_of, cell_of, level, sensed, no_state}
use Rattle.flat_graph.specs.Laws.{IsFixedPoint}
use Rattle.flat_graph.proofs.Nodes.{node_at, has_no_cycle}
use Rattle.syn_base.specs.Vectors.{Vector, zeros}

module _ (look : of_level.Source → Vector) where
  pub same_guards : (gs : List Guard) → all_hold look (map level_guard gs) ≡ guards_hold gs (map (λ d. look (level_source d.source)) gs)
  same_guards [] = refl
  same_guards (d ∷ gs) = ap (λ b. (selected d.values (look (level_source d.source)) == d.case) && b) (same_guards gs)

  pub same_inputs : (ss : List Source) → map look (map level_source ss) ≡ map (λ s. look (level_source s)) ss
  same_inputs [] = refl
  same_inputs (s ∷ ss) = ap (λ vs. look (level_source s) ∷ vs) (same_inputs ss)

pub acyclic_of : (g : Graph) → IsTrue (is_flat g) → is_acyclic g.vertices ≡ true
acyclic_of g h = (and_parts _ (is_acyclic g.vertices) h).1

pub fixed_point : IsFixedPoint
fixed_point g cells row h v x is =
    let look = level_value (level g cells) row no_state [] in
    let cell = cell_of g cells v in
    out_is (level g cells) (has_no_cycle g cells (acyclic_of g h)) row no_state [] v (node_of g.bodies cell x) (node_at g cells v x is)
    ∙ (λ i. if same_guards look x.guards i then kind_outputs g.bodies x.kind x.outs cell (sensed x.kind row) (same_inputs look x.ins i) else map zeros x.outs)
