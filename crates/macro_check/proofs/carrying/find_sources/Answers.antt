use Rattle.std.proofs.Common.{◌≡◌, length, ap, arith, ◌∙◌}
use Rattle.macro_check.specs.Carrying.{follow_all}
use Rattle.macro_check.proofs.Follows.{nothing}
use Rattle.macro_check.proofs.Results.{if_ok}
use Rattle.macro_check.proofs.carrying.find_sources.Goals as goal

pub returns-then-count-eq0 : goal.returns-then-count-eq0
returns-then-count-eq0 c =
    c.in_ok-all.ensures ∙ nothing c.args.program.now 1 (length c.args.program.now.buffers)
    (let n = ap length c.as_slice-count.ensures in let z = c.if-count-eq0.true in let e : length c.args.program.now.buffers ≡ 0 = omega arith in e)

pub returns : goal.returns
returns c = if_ok c.follow_all.result _ _ (λ all h. h ∙ ap (follow_all c.args.program.now) (ap length c.as_slice-count.ensures)) c.follow_all.ensures
