use Rattle.std.proofs.Common.{◌≡◌, ℕ, ◌+◌, ◌-◌, List, ℤ, take, drop, sym, ap, ◌∙◌, arith}
use Rattle.syn_base.specs.Rows.{Reactions, cut_all}
use Rattle.syn_base.proofs.Cut.{window-is}
use Rattle.syn_base.proofs.rows.Rows.window.Goals as goal

pub returns : goal.returns
returns c =
    let lens = c.self.inside.shape in
    let same : c.args.from + c.args.count - c.args.from ≡ c.args.count = omega arith in
    let shape : c.args.self.now.lens ≡ lens = sym (ap (λ (r : Reactions). r.lens) c.self.view_is) in
    let taken = take c.loop-row.row-index (take (c.args.from + c.args.count - c.args.from) (drop c.args.from c.deref.result.now)) in
    c.loop-row.invariant.filled
    ∙ ap (λ (l : List ℕ). record { lens = l; reactions = cut_all l taken }) shape
    ∙ ap (λ (l : List (List (List ℤ))). record { lens = lens; reactions = l }) (window-is lens c.deref.result.now c.args.from _ c.args.count c.loop-row.row-index same (omega arith))
    ∙ ap (λ (l : List (List ℤ)). record { lens = lens; reactions = take c.args.count (drop c.args.from (cut_all lens l)) }) c.deref.ensures.value
    ∙ ap (λ (r : Reactions). record { lens = r.lens; reactions = take c.args.count (drop c.args.from r.reactions) }) c.self.view_is
