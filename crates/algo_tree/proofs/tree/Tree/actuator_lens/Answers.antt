use Rattle.std.proofs.Common.{◌≡◌, List, [], ◌∙◌, sym, subst}
use Rattle.std.specs.Prelude.{IfOk}
use Rattle.algo_tree.specs.Tree.{Vertex}
use Rattle.algo_tree.specs.View.{vertices_view}
use Rattle.algo_tree.specs.Typed.{outs_of, source_length}
use Rattle.algo_tree.specs.Ends.{actuator_lengths, actuator_lengths_in}
use Rattle.algo_tree.specs.declared.vertex.Vertex.{Vertex as Declared}
use Rattle.algo_tree.proofs.Views.{view_out}
use Rattle.algo_tree.proofs.tree.Tree.actuator_lens.Goals as goal

pub returns : goal.returns
returns c =
    let of_main = subst (λ (us : List Declared). IfOk c.actuator_lens_in.result
    (λ lens. lens.items ≡ actuator_lengths_in (source_length [] (outs_of (vertices_view us)))
    (vertices_view us))) c.deref.ensures.value c.actuator_lens_in.ensures in
    subst (λ (v : Vertex). IfOk c.actuator_lens_in.result (λ lens. lens.items ≡ actuator_lengths v)) (sym (view_out c.self.inside.main) ∙ c.self.view_is) of_main
