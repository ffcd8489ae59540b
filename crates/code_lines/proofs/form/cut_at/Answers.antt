use Rattle.std.proofs.Common.{sym, ◌==◌}
use Rattle.code_lines.proofs.Cuts.{cut, none_passes}
use Rattle.code_lines.proofs.form.cut_at.Goals as goal

pub returns-in-Some : goal.returns-in-Some
returns-in-Some c = cut _ _ _ c.in-Some.ensures.place c.in-Some.ensures.within

pub returns-in-None : goal.returns-in-None
returns-in-None c = none_passes (λ b. b == c.args.mark) c.args.text.now (sym c.in-None.ensures.place)
