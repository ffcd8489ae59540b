use Rattle.std.proofs.Common.{◌≡◌, List, None, false, ap, sym, subst, ◌∙◌, arith}
use Rattle.std.specs.Prelude.{is_some}
use Rattle.archi_defs.specs.declared.text.DurationLine.{DurationLine}
use Rattle.durations.specs.Lines.{ticks_of, is_given}
use Rattle.durations.specs.Given.{Lines}
use Rattle.durations.proofs.Found.{given_of, not_given}
use Rattle.durations.proofs.given.Given.has.Goals as goal

pub returns-then-is_some : goal.returns-then-is_some
returns-then-is_some c = sym (given_of c.args.self.now.lines c.args.def.now c.loop-operator.operator (ap is_some (sym c.ticks.ensures) ∙ sym c.is_some.ensures ∙ c.if-is_some.true))

pub returns : goal.returns
returns c =
    let def = c.args.def.now in
    let e : c.self.inside.lines.now ≡ c.args.self.now.lines = ap (λ (g : Lines). g.lines) c.self.view_is in
    let none = c.loop-operator.invariant in
    let all = c.loop-operator-test.false in
    sym (subst (λ (lines : List DurationLine). is_given lines def ≡ false) e
    (not_given c.self.inside.operators c.self.inside.lines.now def c.self.invariant.known (λ o l.
    subst (λ (lines : List DurationLine). ticks_of lines def o ≡ None) (sym e) (none o (omega (arith, l, all))))))
