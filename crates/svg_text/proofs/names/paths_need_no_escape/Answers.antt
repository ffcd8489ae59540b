use Rattle.svg_text.proofs.Bytes.{paths_are_plain}
use Rattle.svg_text.proofs.names.paths_need_no_escape.Goals as goal

pub returns : goal.returns
returns c = paths_are_plain c.args.flat.now c.vertices.ensures.valid
