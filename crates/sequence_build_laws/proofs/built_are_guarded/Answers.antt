use Rattle.sequence_build_laws.proofs.built_are_guarded.Goals as goal
use Rattle.sequence_build_laws.proofs.Guarded as guarded

pub returns : goal.returns
returns c = guarded.built_are_guarded
