use Rattle.std.proofs.Common.{◌∙◌}
use Rattle.code_lines.proofs.Naming.{place_of_medium}
use Rattle.code_lines.proofs.known.medium_at.Goals as goal

pub returns-clause-place : goal.returns-clause-place
returns-clause-place c = c.medium_named.ensures.place ∙ place_of_medium c.args.word.now c.args.media.now
