-- Tables of counts of flat operations, in rounds.
use Rattle.std.specs.Prelude.{◌≡◌, ℕ, zero, suc, ◌+◌, ◌*◌, ◌≤◌, List, [], ◌∷◌, length, slice_index, slice_index_or}
use Rattle.std.specs.List.{All, sum_by}
use Rattle.syn_base.specs.Bytes.{Bytes}
use Rattle.algo_check.specs.Linked.{IsLinked}
use Rattle.algo_rules.specs.declared.Def.{Def}
use Rattle.algo_rules.specs.declared.Body.{Body}
use Rattle.algo_rules.specs.declared.Body.TheVariants.{Delay, Graph, Switch, Repeat}
use Rattle.algo_rules.specs.Links.{links_of}
use Rattle.algo_rules.specs.Resolved.{count_within, vertices_of_line}

-- The places of those that the definition at a place names.
abbrev pub row : List Def → ℕ → List ℕ
row ds k = slice_index_or (links_of ds) k []

-- The count of a body, from the count of all together that it names.
abbrev pub count_here : ℕ → Body → ℕ
count_here inner (Delay depth values) = 2 * depth
count_here inner (Graph ins outs references edges) = inner
count_here inner (Switch on ins outs cases otherwise last) = inner + length outs
count_here inner (Repeat copies def lines) = copies * inner + sum_by vertices_of_line lines
count_here inner _ = 1

-- The counts of definitions from a place on, by these counts.
abbrev pub next_from : List Def → List ℕ → ℕ → List Def → List ℕ
next_from ds counts k [] = []
next_from ds counts k (d ∷ rest) =
    count_here (sum_by (slice_index counts) (row ds k)) d.body ∷ next_from ds counts (suc k) rest

-- No definition has a greater count after this many rounds. A round multiplies the greatest count by
-- 200 at most: a definition names at most 65 others, or has at most 64 copies of one, and adds few
-- operations of its own.
abbrev pub count_bound : ℕ → ℕ
count_bound zero = 1
count_bound (suc n) = 200 * count_bound n

-- After this many rounds: the count of each definition, followed so often, which is bounded.
pub record AreCounts (ds : List Def) (round : ℕ) (counts : List ℕ) : Type 0 where
  pub rows : length counts ≡ length ds
  pub bounded : All (λ n. n ≤ count_bound round) counts
  pub within : (k : ℕ) (w : Bytes) → IsLinked ds w k → slice_index counts k ≡ count_within ds round w
