use Rattle.std.proofs.Common.{◌≡◌, ap, sym, ◌∙◌, ℕ, Bool, List, length, subst, take, arith}
use Rattle.std.specs.Prelude.{Option, ◌*◌, ◌+◌}
use Rattle.std.proofs.lemmas.Result.{err_from_is_err_and}
use Rattle.body_check.specs.Marks.{AreMarked, marked}
use Rattle.body_check.proofs.Steps.{edge_passes, edge_stops, edge_marked}
use Rattle.body_check.proofs.parts.GraphParts.check_edges.Goals as goal

pub returns-in_err-check_edge-clause-faults : goal.returns-in_err-check_edge-clause-faults
returns-in_err-check_edge-clause-faults c =
    let p = err_from_is_err_and c.from_residual.result c.from_residual.ensures.1 in
    rw (p.1, p.2)
    (edge_stops c.args.self.now c.loop-edge.marks _ _ _ _ _ _ c.edge-item.is c.loop-edge-test.true
    (c.is_marked.ensures ∙ ap (λ (o : Option ℕ). marked c.loop-edge.marks o) c.spot-spot.ensures)
    c.loop-edge.invariant.marked c.loop-edge.invariant.rest c.in_err-check_edge.ensures)

pub loop-edge-preserved : goal.loop-edge-preserved
loop-edge-preserved c =
    let room : length c.loop-edge.marks ≡ (length c.args.self.now.references.now + 1) * 65 = omega arith in
    record {
      rest =
          edge_passes c.args.self.now c.loop-edge.marks _ _ _ _ c.edge-item.is c.loop-edge-test.true
          (c.is_marked.ensures ∙ ap (λ (o : Option ℕ). marked c.loop-edge.marks o) c.spot-spot.ensures)
          c.loop-edge.invariant.marked c.in_ok-check_edge.ensures ∙ c.loop-edge.invariant.rest;
      marked =
          subst (λ (marks : List Bool). AreMarked c.args.self.now marks (take (c.loop-edge.edge-index + 1) c.args.self.now.edges.now)) (sym c.mark.ensures)
          (edge_marked c.args.self.now c.requires.placed c.requires.rows c.loop-edge.marks _ _ _ _ _ c.edge-item.is c.loop-edge-test.true
          c.spot-spot.ensures room c.loop-edge.invariant.marked c.in_ok-check_edge.ensures);
    }
