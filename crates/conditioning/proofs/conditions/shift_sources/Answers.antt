use Rattle.std.proofs.Common.{◌≡◌, sym, ◌∙◌, arith}
use Rattle.conditioning.proofs.Same.{not_shifted}
use Rattle.conditioning.proofs.conditions.shift_sources.Goals as goal

pub returns-then-before-eq0 : goal.returns-then-before-eq0
returns-then-before-eq0 c =
    let none : c.args.before ≡ 0 = omega (arith, c.if-before-eq0.true) in
    c.in_ok-same.ensures ∙ sym (not_shifted c.args.before c.args.sources.now none)
