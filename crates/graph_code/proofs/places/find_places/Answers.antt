use Rattle.std.proofs.Common.{◌≡◌, ◌+◌, ◌++◌, ◌∷◌, [], drop, ap, ap₂, ◌∙◌}
use Rattle.std.specs.Prelude.{sum}
use Rattle.graph_code.specs.Places.{starts_from, width_of}
use Rattle.graph_code.proofs.Compiling.{place_more, width_more}
use Rattle.graph_code.proofs.places.find_places.Goals as goal

pub loop-vertex-preserved : goal.loop-vertex-preserved
loop-vertex-preserved c =
    let l = c.loop-vertex in
    let xs = c.args.vertices.now in
    let i = l.vertex-index in
    let x = c.vertex-item.result in
    let width : c.in_ok-width.width ≡ l.width + sum x.outs = c.in_ok-width.ensures ∙ ap (λ ns. l.width + sum ns) c.as_slice.ensures in
    record {
      starts = ap₂ (λ ss w. ss ++ starts_from w (drop (i + 1) xs)) c.in_ok-push.ensures.items width
          ∙ place_more xs i x l.starts.items l.width c.loop-vertex-test.true c.vertex-item.is l.invariant.starts;
      width = ap (λ w. w + width_of (drop (i + 1) xs)) width ∙ width_more xs i x l.width c.loop-vertex-test.true c.vertex-item.is l.invariant.width;
    }
