use Rattle.std.proofs.Common.{codes}
use Rattle.std.specs.Fmt.{decimal}
use Rattle.load_texts.specs.Table.{value_fields}
use Rattle.load_texts.proofs.Pieces.{three_if}
use Rattle.load_texts.proofs.table.append_row.Goals as goal

pub returns-clause-text : goal.returns-clause-text
returns-clause-text c =
    three_if c.append.result (decimal c.args.reaction) (value_fields c.args.generator.now.state) (codes "\n") _ _ _ _
    c.in_ok-append_count.ensures.text c.in_ok-append_fields.ensures.text c.append.ensures.text
