use Rattle.std.proofs.Common.{[]}
use Rattle.flat_laws.proofs.Guard.{guard_main-keeps}
use Rattle.flat_laws.proofs.Uncased.{no_case, no_repeat}
use Rattle.flat_laws.proofs.guarding.guard_keeps.Goals as goal

pub returns-clause-kept : goal.returns-clause-kept
returns-clause-kept c = guard_main-keeps

pub returns-clause-cases : goal.returns-clause-cases
returns-clause-cases c = no_case [] 0

pub returns-clause-repeats : goal.returns-clause-repeats
returns-clause-repeats c = no_repeat [] 0
