use Rattle.std.proofs.Common.{◌∙◌, arith}
use Rattle.archi_reader.proofs.Apart.{apart_place}
use Rattle.archi_reader.proofs.joined.apart.Goals as goal

pub returns-clause-place : goal.returns-clause-place
returns-clause-place c =
    c.first_unset.ensures.place
    ∙ apart_place c.args.operators c.args.media.now c.reached-reached.result c.requires.few (omega arith) c.reached-reached.ensures
