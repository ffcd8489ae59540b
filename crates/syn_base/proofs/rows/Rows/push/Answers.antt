use Rattle.std.proofs.Common.{◌≡◌, ◌∙◌, ◌++◌, ◌∷◌, [], length, sym, ap, subst}
use Rattle.std.specs.List.{sum}
use Rattle.syn_base.specs.Rows.{Reactions, AreLong}
use Rattle.syn_base.proofs.Cut.{long-push}
use Rattle.syn_base.proofs.rows.Rows.push.Goals as goal

pub invariant_of-self-2 : goal.invariant_of-self-2
invariant_of-self-2 c =
    let width : length c.args.row.now ≡ sum c.self.inside.shape = subst (λ (r : Reactions). length c.args.row.now ≡ sum r.lens) (sym c.self.view_is) c.requires in
    let pushed : c.push.new.self.items ≡ c.self.inside.rows.items ++ c.args.row.now ∷ [] = c.in_ok-push.ensures.items
    ∙ ap (λ r. c.self.inside.rows.items ++ r ∷ []) (c.new.ensures ∙ c.in_ok-row.ensures.items) in
    subst (AreLong (sum c.self.inside.shape)) (sym pushed) (long-push (sum c.self.inside.shape) c.self.inside.rows.items c.args.row.now c.self.invariant width)
