use Rattle.load_texts.proofs.Pieces.{four_fields}
use Rattle.load_texts.proofs.table.append_fields.Goals as goal

pub returns-clause-text : goal.returns-clause-text
returns-clause-text c =
    four_fields c.append_field-4.result c.args.generator.now.state _ _ _ _ _ _ _ _
    c.append_field.ensures.state c.append_field-2.ensures.state c.append_field-3.ensures.state
    c.in_ok-append_field.ensures.text c.in_ok-append_field-2.ensures.text c.in_ok-append_field-3.ensures.text
    c.append_field-4.ensures.text
