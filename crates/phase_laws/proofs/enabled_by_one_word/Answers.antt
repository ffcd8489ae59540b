-- The law is the lemma.
use Rattle.phase_laws.proofs.OneWord.{enabled_by_one_word}
use Rattle.phase_laws.proofs.enabled_by_one_word.Goals as goal

pub returns : goal.returns
returns c = enabled_by_one_word
