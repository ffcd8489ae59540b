use Rattle.std.proofs.Common.{ap, ◌∙◌, map, arith}
use Rattle.body_text.specs.Cut.{placed_view}
use Rattle.body_text.specs.Answers.{names_of}
use Rattle.body_text.proofs.Whole.{few, answer_bad, answer_known}
use Rattle.body_text.proofs.body.read_body.Goals as goal

pub returns-in-Ok-whole : goal.returns-in-Ok-whole
returns-in-Ok-whole c = answer_known (names_of c.args.ports.now) c.as_slice-placed.result.now c.args.text.now c.in-Ok-whole.read c.with_known_ports.result
    (ap (map placed_view) c.as_slice-placed.ensures.value ∙ c.in-Ok.ensures) (few c.args.text.now c.count-count.result c.count-count.ensures (omega arith))
    c.in-Ok-whole.ensures c.with_known_ports.ensures

pub returns-in-Err-At : goal.returns-in-Err-At
returns-in-Err-At c = answer_bad (names_of c.args.ports.now) c.as_slice-placed.result.now c.args.text.now c.in-Err-At.field-0 c.in-Err-At.at c.place.result c.in-Err-At.field-0-is
    (ap (map placed_view) c.as_slice-placed.ensures.value ∙ c.in-Ok.ensures) (few c.args.text.now c.count-count.result c.count-count.ensures (omega arith))
    c.in-Err-At.ensures c.place.ensures
