use Rattle.std.proofs.Common.{◌≡◌, length, refl, ap, ◌∙◌, arith}
use Rattle.algo_tree.specs.declared.vertex.Vertex.{out-Vertex}
use Rattle.conditioning.proofs.Guarding.{cases_more, one_longer, graph_answered, switch_answered}
use Rattle.conditioning.proofs.pass.+guard.Goals as goal

pub guard_graph-returns : goal.guard_graph-returns
guard_graph-returns t c =
    graph_answered c.args.guards.now c.in_ok-own.own c.args.before c.in_ok-handed.handed c.args.vertex.now c.args.outputs.now
    c.in_ok-outputs.outputs c.in_ok-inner.inner.items c.as_graph.result c.requires
    c.in_ok-own.ensures (c.in_ok-handed.ensures.same ∙ ap length c.as_slice.ensures) c.in_ok-inner.ensures c.in_ok-outputs.ensures c.as_graph.ensures

pub guard_switch-returns : goal.guard_switch-returns
guard_switch-returns t c =
    switch_answered c.args.guards.now c.in_ok-own.own c.in_ok-own.own c.args.before c.in_ok-handed.handed c.in_ok-cases.cases
    c.args.vertex.now (out-Vertex c.args.vertex.now).definition c.as_slice-2.result.now c.args.values.now c.args.names.now
    c.in_ok-outputs.outputs _ _ c.as_graph.result c.requires
    c.in_ok-own.ensures c.in_ok-own.ensures refl c.as_slice-2.ensures (c.in_ok-handed.ensures.same ∙ ap length c.as_slice.ensures)
    (c.in_ok-cases.ensures.same ∙ c.len.ensures ∙ (out-Vertex c.args.vertex.now).inner.ok.0)
    c.in_ok-inner.ensures c.in_ok-add_merges.ensures (c.in_ok-outputs.ensures ∙ c.in_ok-merge_outputs.ensures) c.as_graph.ensures

pub guard_cases-loop-vertex-preserved : goal.guard_cases-loop-vertex-preserved
guard_cases-loop-vertex-preserved t c =
    let us = c.deref-vertex-items.result.now in
    let w = c.in_ok-guard_vertex.field-0 in
    let long : length c.loop-vertex.all.items ≡ c.loop-vertex.vertex-index = c.loop-vertex.invariant.at in
    let more = one_longer c.loop-vertex.all.items c.push.new.self.items w c.in_ok-push.ensures.items in
    record {
      at = omega (arith, more, long);
      so_far =
          cases_more c.args.guards.now c.args.handed c.args.values.now us c.loop-vertex.vertex-index c.in_ok-case.case
          c.in_ok-inside.inside c.vertex-item.result w c.loop-vertex.all.items c.push.new.self.items
          c.loop-vertex-test.true c.vertex-item.is long
          (c.in_ok-case.ensures.same ∙ c.len.ensures
          ∙ c.loop-vertex.all.ok.0) c.in_ok-inside.ensures c.in_ok-guard_vertex.ensures c.in_ok-push.ensures.items c.loop-vertex.invariant.so_far;
    }
