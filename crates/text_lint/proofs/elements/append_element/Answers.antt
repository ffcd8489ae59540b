use Rattle.std.proofs.lemmas.Option.{slice_get_past}
use Rattle.text_lint.proofs.Missing.{no_port}
use Rattle.text_lint.proofs.elements.append_element.Goals as goal

pub returns-else-input-ins : goal.returns-else-input-ins
returns-else-input-ins c = no_port _ c.args.def.now _ _ (slice_get_past c.args.ins.now c.args.input c.if-input-ins.false)
