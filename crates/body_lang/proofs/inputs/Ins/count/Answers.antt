use Rattle.std.proofs.Common.{List, ℤ, length, ap, ◌∙◌, sym}
use Rattle.body_lang.proofs.Vectors.{length-cut}
use Rattle.body_lang.proofs.inputs.Ins.count.Goals as goal

pub returns : goal.returns
returns c = c.count.ensures ∙ sym (length-cut c.self.inside.shape c.self.inside.elements.items) ∙ ap (λ (v : List (List ℤ)). length v) c.self.view_is
