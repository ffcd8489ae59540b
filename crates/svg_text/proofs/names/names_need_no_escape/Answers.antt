use Rattle.svg_text.proofs.Bytes.{name_is_plain}
use Rattle.svg_text.proofs.names.names_need_no_escape.Goals as goal

pub returns : goal.returns
returns c = name_is_plain c.args.name.now c.as_bytes.ensures.name
