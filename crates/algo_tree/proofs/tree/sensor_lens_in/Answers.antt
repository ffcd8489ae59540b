use Rattle.std.proofs.Common.{ℕ, ◌+◌, ◌++◌, List, drop, ap, sym, ◌∙◌, append_assoc}
use Rattle.std.specs.Prelude.{option_to_list}
use Rattle.algo_tree.specs.View.{kind_view, vertices_view}
use Rattle.algo_tree.specs.declared.vertex.Vertex.{out-Vertex}
use Rattle.algo_tree.specs.Ends.{sensor_length, sensor_lengths_in}
use Rattle.algo_tree.proofs.Views.{left_from}
use Rattle.algo_tree.proofs.tree.sensor_lens_in.Goals as goal

pub loop-vertex-preserved : goal.loop-vertex-preserved
loop-vertex-preserved c =
    let us = c.args.vertices.now in
    let i = c.loop-vertex.vertex-index in
    let u = c.vertex-item.result in
    let old = c.loop-vertex.lens.items in
    let later = sensor_lengths_in (vertices_view (drop (i + 1) us)) in
    let here = c.sensor_len-len.ensures ∙ ap (λ (outs : List ℕ). sensor_length (kind_view (out-Vertex u).kind) outs) c.as_slice.ensures in
    ap (λ (ns : List ℕ). ns ++ later) c.in_ok-add_len.ensures ∙ append_assoc old (option_to_list c.sensor_len-len.result) later ∙ ap (λ (ns : List ℕ). old ++ (ns ++ later)) here
    ∙ ap (λ vs. old ++ sensor_lengths_in vs) (sym (left_from us i u c.loop-vertex-test.true c.vertex-item.is)) ∙ c.loop-vertex.invariant
