-- The names of operations.
use Rattle.std.specs.Prelude.{ℕ, zero, suc, List, [], ◌++◌, codes}
use Rattle.std.specs.Fmt.{decimal}
use Rattle.flat_laws.specs.Flat.{Operation, Task, runs, gets, sets}
use Rattle.algo_tree.specs.Texts.{path_text}

-- The text of the number of a stage, which is empty for the first.
abbrev pub stage_text : ℕ → List ℕ
stage_text zero = []
stage_text (suc i) = codes "." ++ decimal (suc i)

-- What the name of an operation with this task has after its path: which half of a delay it is and
-- of which stage, since the halves of all stages of a delay have one path; and nothing if it is no
-- half.
abbrev pub half_text : Task → ℕ → List ℕ
half_text (runs k) i = []
half_text (gets v) i = codes ":get" ++ stage_text i
half_text sets i = codes ":set" ++ stage_text i

-- The name of an operation: the text of its path, and for a half of a delay which half it is
-- and of which stage.
abbrev pub name_of : Operation → List ℕ
name_of op = path_text op.path ++ half_text op.task op.stage
