-- Explodes and implodes worked by hand: their parts are equally long, and there are as many as the whole has room for.
use Rattle.std.proofs.Common.{◌≡◌, ℕ, true, false, List, [], ◌∷◌, None, refl, codes}
use Rattle.std.specs.Prelude.{replicate}
use Rattle.flat_graph.specs.declared.vertex.Source.{Source}
use Rattle.flat_graph.specs.declared.vertex.Kind.{Kind}
use Rattle.flat_graph.specs.declared.vertex.Kind.TheVariants.{Sensor, Explode, Implode}
use Rattle.flat_graph.specs.declared.vertex.Vertex.{Vertex}
use Rattle.flat_graph.specs.Graph.{Graph}
use Rattle.flat_graph.specs.Valid.{fits, is_flat}

-- An input of 6 in three parts of 2, in parts of other lengths that add up to as much, in two parts that are too short
-- together, and in two parts of 3.
three_parts : fits [] Explode (6 ∷ []) (2 ∷ 2 ∷ 2 ∷ []) ≡ true
three_parts = refl

unequal_parts : fits [] Explode (6 ∷ []) (1 ∷ 2 ∷ 3 ∷ []) ≡ false
unequal_parts = refl

last_part_longer : fits [] Explode (6 ∷ []) (1 ∷ 1 ∷ 4 ∷ []) ≡ false
last_part_longer = refl

parts_too_short : fits [] Explode (6 ∷ []) (2 ∷ 2 ∷ []) ≡ false
parts_too_short = refl

two_parts : fits [] Explode (6 ∷ []) (3 ∷ 3 ∷ []) ≡ true
two_parts = refl

-- One part is the whole. No part at all would be an input without elements, which no operation has.
one_part : fits [] Explode (6 ∷ []) (6 ∷ []) ≡ true
one_part = refl

no_part : fits [] Explode (6 ∷ []) [] ≡ false
no_part = refl

nothing_in_no_part : fits [] Explode (0 ∷ []) [] ≡ true
nothing_in_no_part = refl

-- Sixty-four parts of one element.
all_apart : fits [] Explode (64 ∷ []) (replicate 64 1) ≡ true
all_apart = refl

-- The same for an implode, whose parts are its inputs.
joins_three : fits [] Implode (2 ∷ 2 ∷ 2 ∷ []) (6 ∷ []) ≡ true
joins_three = refl

joins_unequal : fits [] Implode (1 ∷ 2 ∷ 3 ∷ []) (6 ∷ []) ≡ false
joins_unequal = refl

joins_first_longer : fits [] Implode (4 ∷ 1 ∷ 1 ∷ []) (6 ∷ []) ≡ false
joins_first_longer = refl

joins_one : fits [] Implode (6 ∷ []) (6 ∷ []) ≡ true
joins_one = refl

joins_none : fits [] Implode [] (6 ∷ []) ≡ false
joins_none = refl

joins_all : fits [] Implode (replicate 64 1) (64 ∷ []) ≡ true
joins_all = refl

-- A sensor of 6, an explode of it, and an implode of parts of that.
abbrev at : ℕ → ℕ → Source
at v p = record { vertex = v; port = p }

abbrev operation : List ℕ → Kind → List Source → List ℕ → Vertex
operation name kind ins outs = record { name = name; def = codes "D"; kind = kind; guards = []; ins = ins; outs = outs; twin = None }

abbrev in_parts : List ℕ → List Source → ℕ → Graph
in_parts parts joined whole = record {
  vertices = operation (codes "s") (Sensor 0) [] (6 ∷ []) ∷ operation (codes "x") Explode (at 0 0 ∷ []) parts ∷ operation (codes "y") Implode joined (whole ∷ []) ∷ [];
  bodies = [];
}

cut_and_joined : is_flat (in_parts (2 ∷ 2 ∷ 2 ∷ []) (at 1 2 ∷ at 1 0 ∷ []) 4) ≡ true
cut_and_joined = refl

cut_unequally : is_flat (in_parts (1 ∷ 2 ∷ 3 ∷ []) (at 1 2 ∷ []) 3) ≡ false
cut_unequally = refl

joined_unequally : is_flat (in_parts (2 ∷ 2 ∷ 2 ∷ []) (at 1 2 ∷ at 0 0 ∷ []) 8) ≡ false
joined_unequally = refl

cut_from_nothing : is_flat (in_parts [] (at 0 0 ∷ []) 6) ≡ false
cut_from_nothing = refl
