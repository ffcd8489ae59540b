use Rattle.algo_tree.proofs.Texts.{path_told}
use Rattle.algo_tree.proofs.path_laws.texts_tell_paths.Goals as goal

pub returns : goal.returns
returns c = path_told
