use Rattle.flat_laws.proofs.Flatten.{flatten-keeps, flatten-count}
use Rattle.flat_laws.proofs.inlining.inline_keeps.Goals as goal

pub returns-clause-kept : goal.returns-clause-kept
returns-clause-kept c = flatten-keeps

pub returns-clause-count : goal.returns-clause-count
returns-clause-count c = flatten-count
