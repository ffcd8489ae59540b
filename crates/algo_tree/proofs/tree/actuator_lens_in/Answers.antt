use Rattle.std.proofs.Common.{ℕ, ◌+◌, ◌++◌, [], List, drop, map, ap, sym, ◌∙◌, append_assoc}
use Rattle.std.specs.Prelude.{option_to_list}
use Rattle.level_meaning.specs.declared.source.Source.{Source}
use Rattle.algo_tree.specs.View.{kind_view, vertices_view}
use Rattle.algo_tree.specs.declared.vertex.Vertex.{out-Vertex}
use Rattle.algo_tree.specs.Typed.{outs_of, source_length}
use Rattle.algo_tree.specs.Ends.{actuator_length, actuator_lengths_in}
use Rattle.algo_tree.proofs.Views.{left_from}
use Rattle.algo_tree.proofs.tree.actuator_lens_in.Goals as goal

pub loop-vertex-preserved : goal.loop-vertex-preserved
loop-vertex-preserved c =
    let us = c.args.vertices.now in
    let len = source_length [] (outs_of (vertices_view us)) in
    let i = c.loop-vertex.vertex-index in
    let u = c.vertex-item.result in
    let old = c.loop-vertex.lens.items in
    let later = actuator_lengths_in len (vertices_view (drop (i + 1) us)) in
    let here = c.actuator_len-len.ensures ∙ ap (λ (ins : List Source). actuator_length (kind_view (out-Vertex u).kind) (map len ins)) c.as_slice.ensures in
    ap (λ (ns : List ℕ). ns ++ later) c.in_ok-add_len.ensures ∙ append_assoc old (option_to_list c.actuator_len-len.result) later ∙ ap (λ (ns : List ℕ). old ++ (ns ++ later)) here
    ∙ ap (λ vs. old ++ actuator_lengths_in len vs) (sym (left_from us i u c.loop-vertex-test.true c.vertex-item.is)) ∙ c.loop-vertex.invariant
