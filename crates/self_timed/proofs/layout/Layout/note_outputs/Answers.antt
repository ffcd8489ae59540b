use Rattle.std.proofs.Common.{ℕ, List, length, drop, map, sym, ap, subst, arith, ◌∙◌, ◌+◌}
use Rattle.sequence_build_laws.specs.Acts.{copy, outputs_from}
use Rattle.self_timed.specs.Laid.{Laid, HasRow, with_makers}
use Rattle.self_timed.proofs.Places.{has_row_kept}
use Rattle.self_timed.proofs.Placing.{output_noted}
use Rattle.self_timed.proofs.layout.Layout.note_outputs.Goals as goal

pub loop-out-preserved : goal.loop-out-preserved
loop-out-preserved c =
    let at = copy c.args.operator (record { vertex = c.args.op; port = c.loop-out.port }) in
    let makers = ap (λ (w : Laid). w.makers) c.note.ensures in
    let rest = map (copy c.args.operator) (outputs_from c.args.op (c.loop-out.port + 1) (drop (c.loop-out._out-index + 1) c.args.outs.now)) in
    record {
      port = (let p = c.loop-out.invariant.port in omega arith);
      row = subst (λ (m : List (List ℕ)). HasRow m c.args.op (length c.args.outs.now)) (sym makers)
          (has_row_kept c.loop-out.self.makers at c.args.op c.args.op (length c.args.outs.now) c.loop-out.invariant.row);
      same = ap (λ (w : Laid). record w { makers = c.args.self.now.makers }) c.note.ensures ∙ c.loop-out.invariant.same;
      left = ap (λ (m : List (List ℕ)). with_makers m rest c.args.op) makers
          ∙ output_noted c.loop-out.self.makers c.args.operator c.args.op c.args.op c.loop-out.port c.loop-out._out-index c.args.outs.now c.loop-out-test.true
          ∙ c.loop-out.invariant.left;
    }
