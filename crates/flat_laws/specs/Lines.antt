-- The lines that feed the body of a repetition, in the order in which they stand in the text. A tree has them by the
-- inputs of the body; the outer inputs are numbered line by line, so the lines in order are those by ascending outer
-- input.
use Rattle.std.specs.Prelude.{ℕ, suc, nat_le, List, [], ◌∷◌, if◌then◌else◌}
use Rattle.std.specs.Str.{bytes_eq}
use Rattle.algo_tree.specs.declared.Feed.{Feed}
use Rattle.algo_tree.specs.declared.Feed.TheVariants.{Fork, Diffuse, Iterate}

-- The outer input that a line names.
abbrev pub outer_of : Feed → ℕ
outer_of (Fork name k len) = k
outer_of (Diffuse k) = k
outer_of (Iterate k y) = k

-- A line before the first of these that does not stand before it.
abbrev pub put_line : Feed → List Feed → List Feed
put_line f [] = f ∷ []
put_line f (g ∷ gs) = if nat_le (outer_of f) (outer_of g) then f ∷ g ∷ gs else g ∷ put_line f gs

-- The lines in the order of the text, which is that of the outer inputs that they name.
abbrev pub in_line_order : List Feed → List Feed
in_line_order [] = []
in_line_order (f ∷ fs) = put_line f (in_line_order fs)

-- The number of the fork line of this outer port among the fork lines of these.
abbrev pub fork_place : List ℕ → List Feed → ℕ
fork_place name [] = 0
fork_place name (Fork x k len ∷ fs) = if bytes_eq name x then 0 else suc (fork_place name fs)
fork_place name (Diffuse k ∷ fs) = fork_place name fs
fork_place name (Iterate k y ∷ fs) = fork_place name fs
