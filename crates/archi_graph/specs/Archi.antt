-- Architectures, and which of them are valid.
use Rattle.std.specs.Prelude.{
  ℕ,
  zero,
  suc,
  ◌+◌,
  Bool,
  true,
  false,
  ◌&&◌,
  ◌||◌,
  ◌==◌,
  nat_eq,
  nat_le,
  nat_lt,
  List,
  [],
  ◌∷◌,
  ◌++◌,
  length,
  map,
  slice_index_or,
  slice_get,
  Option,
  Some,
  None,
}
use Rattle.std.specs.List.{list_all, list_any, count_by, sum_by, range_with_len}
use Rattle.std.specs.Str.{bytes_eq}
use Rattle.archi_graph.specs.declared.medium.Medium.{Medium}
use Rattle.archi_graph.specs.declared.medium.MediumKind.{MediumKind}
use Rattle.archi_graph.specs.declared.medium.MediumKind.TheVariants.{PointToPoint, Multipoint}

-- the operators' names, the media, and how many places a buffer between sequences has
pub record Architecture : Type 0 where
  pub operators : List (List ℕ)
  pub media : List Medium
  pub depth : ℕ

-- a buffer has 1 to 4 places
abbrev pub is_depth : ℕ → Bool
is_depth depth = nat_le 1 depth && nat_le depth 4

-- each is at least this, and above those before it
abbrev pub ascends_from : ℕ → List ℕ → Bool
ascends_from least [] = true
ascends_from least (x ∷ xs) = nat_le least x && ascends_from (x + 1) xs

-- This many operators may stand at a medium of this kind: exactly two if it is point to point, and
-- two or more if it is multipoint.
abbrev pub may_stand : MediumKind → ℕ → Bool
may_stand PointToPoint n = n == 2
may_stand Multipoint n = nat_le 2 n

-- Both are the same kind of medium.
abbrev pub same_kind : MediumKind → MediumKind → Bool
same_kind PointToPoint PointToPoint = true
same_kind Multipoint Multipoint = true
same_kind _ _ = false

-- a valid medium, where there are this many operators
abbrev pub is_medium : ℕ → Medium → Bool
is_medium operators m =
    may_stand m.kind (length m.stands) && ascends_from 0 m.stands && list_all (λ o. nat_lt o operators) m.stands &&
    nat_le m.fixed 1000000 && nat_le m.per 1000000

-- Exactly one of the names is this one.
abbrev pub occurs_once : List (List ℕ) → List ℕ → Bool
occurs_once names name = count_by (bytes_eq name) names == 1

-- No two of the names are the same.
abbrev pub are_distinct : List (List ℕ) → Bool
are_distinct names = list_all (occurs_once names) names

-- the names of operators and media share one space
abbrev pub names_of : List (List ℕ) → List Medium → List (List ℕ)
names_of operators media = operators ++ map (λ m. m.name) media

-- How many connections the media have together: one for each operator at each medium.
abbrev pub connections_in : List Medium → ℕ
connections_in media = sum_by (λ m. length m.stands) media

-- an operator stands at the medium
abbrev pub stands_at : Medium → ℕ → Bool
stands_at m o = list_any (nat_eq o) m.stands

-- at most this many hops lead from operator 0 to the operator
abbrev pub reached_within : List Medium → ℕ → ℕ → Bool
reached_within media zero o = o == 0
reached_within media (suc hops) o =
    reached_within media hops o || list_any (λ m. stands_at m o && list_any (reached_within media hops) m.stands) media

-- each operator is reached, by at most as many hops as there are operators
abbrev pub are_joined : ℕ → List Medium → Bool
are_joined operators media = list_all (reached_within media operators) (range_with_len 0 operators)

-- 1 to 16 operators, and at most 16 media, with at most 64 stands in all
abbrev pub are_bounded : List (List ℕ) → List Medium → Bool
are_bounded operators media =
    nat_le 1 (length operators) && nat_le (length operators) 16 && nat_le (length media) 16 &&
    nat_le (connections_in media) 64

-- The operators and media are valid: they are within their bounds, each medium is valid, no two of
-- their names are the same, and routes join operator 0 to every operator.
abbrev pub is_archi : List (List ℕ) → List Medium → Bool
is_archi operators media =
    are_bounded operators media && list_all (is_medium (length operators)) media &&
    are_distinct (names_of operators media) && are_joined (length operators) media

-- The name of operator o, and the empty text if there is no operator o.
abbrev pub operator_name : List (List ℕ) → ℕ → List ℕ
operator_name operators o = slice_index_or operators o []

-- The name of a medium, and the empty text if there is no medium.
abbrev pub name_or_none : Option Medium → List ℕ
name_or_none None = []
name_or_none (Some m) = m.name

-- The name of medium m, and the empty text if there is no such medium.
abbrev pub medium_name : List Medium → ℕ → List ℕ
medium_name media m = name_or_none (slice_get media m)
