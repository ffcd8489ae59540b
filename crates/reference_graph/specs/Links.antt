-- Vertices by number, each with the numbers of those that it refers to: which reach themselves, and how deep each is.
use Rattle.std.specs.Prelude.{ℕ, zero, suc, Bool, ◌||◌, ◌==◌, List, [], length, map, Option, slice_index_or, position}
use Rattle.std.specs.List.{list_any, range_with_len}
use Rattle.syn_base.specs.Numbers.{greatest}

-- For each vertex, by number from 0, the numbers of the vertices to which it refers.
abbrev pub Links : Type 0
Links = List (List ℕ)

-- The vertices to which vertex a refers; none if there is no vertex a.
abbrev pub from : Links → ℕ → List ℕ
from links a = slice_index_or links a []

-- A path of at most this many links and one more leads from a to b.
abbrev pub leads_within : Links → ℕ → ℕ → ℕ → Bool
leads_within links zero a b = list_any (λ c. c == b) (from links a)
leads_within links (suc n) a b = leads_within links n a b || list_any (λ c. leads_within links n c b) (from links a)

-- A vertex reaches itself, on a path no longer than there are vertices and one.
abbrev pub reaches_itself : Links → ℕ → Bool
reaches_itself links a = leads_within links (length links) a a

-- The numbers of all vertices, in order.
abbrev pub numbers : Links → List ℕ
numbers links = range_with_len 0 (length links)

-- The first vertex that reaches itself.
abbrev pub first_recursive : Links → Option ℕ
first_recursive links = position (reaches_itself links) (numbers links)

-- How deep references go below a vertex, followed so often.
abbrev pub depth_within : Links → ℕ → ℕ → ℕ
depth_within links zero a = 0
depth_within links (suc n) a = suc (greatest (map (depth_within links n) (from links a)))

-- Where nothing reaches itself: 1 without references, else one more than the deepest reference.
abbrev pub depth : Links → ℕ → ℕ
depth links a = depth_within links (length links) a

-- The depth of each vertex, in order. It says something only if no vertex reaches itself.
abbrev pub depths : Links → List ℕ
depths links = map (depth links) (numbers links)
