use Rattle.std.proofs.Common.{subst, ◌++◌, ◌∙◌, ◌≡◌, rules, w64, FitsSigned, to_z, of_z}
use Rattle.std.specs.Prelude.{OnOk, codes}
use Rattle.std.proofs.lemmas.Int.{to_z-of_z}
use Rattle.syn_base.specs.Bytes.{Bytes}
use Rattle.svg_text.specs.Plot.{limit_text, limits_text}
use Rattle.svg_text.proofs.Appending.{two}
use Rattle.svg_text.proofs.plot.append_limits.Goals as goal

pub returns : goal.returns
unfolding limits_text
returns c =
    let range = c.args.range in
    let fits_high : FitsSigned w64 range.high = search rules in
    let fits_low : FitsSigned w64 range.low = search rules in
    let high = to_z-of_z w64 range.high fits_high in
    let low = to_z-of_z w64 range.low fits_low in
    subst (λ (l : Bytes). OnOk c.append_limit-2.result (c.append_limit-2.new.out.items ≡ l))
    (two c.args.out.now.items c.append_limit.new.out.items
    (limit_text (codes "10") (to_z w64 (of_z w64 range.high))) (limit_text (codes "120") (to_z w64 (of_z w64 range.low)))
    c.in_ok-append_limit.ensures
    ∙ (λ i. c.args.out.now.items ++ (limit_text (codes "10") (high i) ++ limit_text (codes "120") (low i))))
    c.append_limit-2.ensures
