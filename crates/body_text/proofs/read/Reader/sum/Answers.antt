use Rattle.std.proofs.Common.{ap, sym, ◌∙◌, refl, Some}
use Rattle.std.proofs.lemmas.List.{length-map}
use Rattle.body_text.specs.Cut.{token_view}
use Rattle.body_text.specs.Answers.{names_of}
use Rattle.body_text.proofs.Steps.{sum_open, sum_step}
use Rattle.body_text.proofs.read.Reader.sum.Goals as goal

pub returns-then-not-has : goal.returns-then-not-has
returns-then-not-has c = sum_open _ _ c.args.start c.in-Some-Name.name.now
    (ap (λ x. Some (token_view x)) (sym c.in-Some-Name.field-0-is) ∙ c.in-Some-Name.ensures) (sym c.has.ensures ∙ c.if-not-has.true)

pub returns : goal.returns
returns c = sum_step (names_of c.args.self.now.ports.now) _ c.args.start c.port-port.result c.in-Some-Name.name.now _
    (ap (λ x. Some (token_view x)) (sym c.in-Some-Name.field-0-is) ∙ c.in-Some-Name.ensures) (sym c.has.ensures ∙ c.if-not-has.false) c.port-port.ensures
    (c.unknown.ensures ∙ rw (length-map c.args.self.now.ports.now (λ p. p.name)) refl) refl refl
