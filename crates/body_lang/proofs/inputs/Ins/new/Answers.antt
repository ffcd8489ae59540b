use Rattle.std.proofs.Common.{◌≡◌, pos, ap, ◌∙◌}
use Rattle.std.proofs.Math.ListN.{replicate}
use Rattle.std.specs.List.{sum}
use Rattle.syn_base.specs.Rows.{cut}
use Rattle.body_lang.proofs.Vectors.{cut-zeros}
use Rattle.body_lang.proofs.inputs.Ins.new.Goals as goal

pub returns : goal.returns
returns c =
    let width : c.width.result ≡ sum c.args.lens.now = c.width.ensures ∙ ap sum c.in_ok-shape.ensures in
    ap (cut c.in_ok-shape.shape) (c.in_ok-elements.ensures ∙ ap (λ n. replicate n (pos 0)) width)
    ∙ ap (λ s. cut s (replicate (sum c.args.lens.now) (pos 0))) c.in_ok-shape.ensures ∙ cut-zeros c.args.lens.now
