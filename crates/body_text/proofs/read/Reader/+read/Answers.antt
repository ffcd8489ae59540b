use Rattle.std.proofs.lemmas.Int.{to_z-of_z}
use Rattle.std.proofs.Common.{rules, ap, sym, ◌∙◌, refl, Some}
use Rattle.std.proofs.lemmas.List.{length-map}
use Rattle.body_lang.specs.Expr as plain
use Rattle.body_text.specs.Cut.{token_view}
use Rattle.body_text.specs.Parse.{parse}
use Rattle.body_text.specs.Answers.{names_of}
use Rattle.body_text.proofs.Steps.{ended_step, negation_made, apply_made, element_made, select_made, named_element, named_word, literal_step, name_step, answers_along}
use Rattle.body_text.proofs.read.Reader.+read.Goals as goal

pub ended-returns : goal.ended-returns
ended-returns t c = ended_step _ _ c.args.start _ c.args.mark c.in_ok-read.read _ c.in_ok-read.ensures (sym c.has.ensures ∙ c.if-not-has.false) refl refl refl

pub negation-returns : goal.negation-returns
negation-returns t c = negation_made _ _ c.args.start _ c.in_ok-a.a _ c.in_ok-a.ensures c.make_negation.ensures

pub apply-returns : goal.apply-returns
apply-returns t c = apply_made _ _ c.args.start c.args.op (parse c.args.depth) _ c.in_ok-a.a c.in_ok-b.b _ c.in_ok-a.ensures c.in_ok-b.ensures c.make_application.ensures

pub element-returns : goal.element-returns
element-returns t c = element_made (names_of c.args.self.now.ports.now) _ c.args.start c.port-port.result c.args.name.now _ c.in_ok-index.index c.unknown.result _ c.in_ok-index.ensures
    c.port-port.ensures (c.unknown.ensures ∙ rw (length-map c.args.self.now.ports.now (λ p. p.name)) refl) c.element_at.ensures

pub select-returns : goal.select-returns
select-returns t c = select_made _ _ c.args.start
    (parse c.args.depth) _ c.in_ok-condition.condition c.in_ok-a.a c.in_ok-b.b _ c.in_ok-condition.ensures c.in_ok-a.ensures
    c.in_ok-b.ensures c.make_selection.ensures

pub named-returns-then-has : goal.named-returns-then-has
named-returns-then-has t c = answers_along _ _ c.args.start _ _ _ (named_element (parse c.args.depth) c.args.name.now c.args.start _ (sym c.has.ensures ∙ c.if-has.true)) c.element.ensures

pub named-returns-then-has-2 : goal.named-returns-then-has-2
named-returns-then-has-2 t c = answers_along _ _ c.args.start _ _ _
    (named_word (parse c.args.depth) c.args.name.now c.in-Some.word c.args.start _ (sym c.has.ensures ∙ c.if-has.false)
    (sym c.find_word.ensures ∙ c.in-Some.is) (sym c.has-2.ensures ∙ c.if-has-2.true)) c.form.ensures

pub expression-returns-in-Some-Number : goal.expression-returns-in-Some-Number
expression-returns-in-Some-Number t c =
    literal_step _ _ c.args.start c.args.depth c.in-Some-Number.v _ c.if-depth-eq0.false
    (ap (λ x. Some (token_view x)) (sym c.in-Some-Number.field-0-is) ∙ c.in-Some-Number.ensures) (ap plain.literal (search (rules, to_z-of_z))) refl refl

pub expression-returns-in-Some-Name : goal.expression-returns-in-Some-Name
expression-returns-in-Some-Name t c =
    name_step _ _ c.args.start c.args.depth c.in-Some-Name.name.now _ c.if-depth-eq0.false
    (ap (λ x. Some (token_view x)) (sym c.in-Some-Name.field-0-is) ∙ c.in-Some-Name.ensures) c.named.ensures
