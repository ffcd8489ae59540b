-- The least route between two operators: the fewest hops, then the least list of media, then the least list of
-- operators.
use Rattle.std.specs.Prelude.{◌≡◌, ℕ, Bool, true, false, ◌&&◌, ◌||◌, ◌==◌, nat_lt, List, [], ◌∷◌, length, map}
use Rattle.archi_graph.specs.declared.medium.Medium.{Medium}
use Rattle.archi_graph.specs.declared.medium.Hop.{Hop}
use Rattle.archi_graph.specs.Routes.{IsRoute}

-- the first list of numbers comes before the second, by the first number in which they differ
abbrev pub comes_before : List ℕ → List ℕ → Bool
comes_before [] [] = false
comes_before [] (y ∷ ys) = true
comes_before (x ∷ xs) [] = false
comes_before (x ∷ xs) (y ∷ ys) = nat_lt x y || ((x == y) && comes_before xs ys)

-- The numbers of the media over which the hops lead, in order.
abbrev pub media_of : List Hop → List ℕ
media_of hops = map (λ h. h.medium) hops

-- The numbers of the operators to which the hops lead, in order.
abbrev pub operators_of : List Hop → List ℕ
operators_of hops = map (λ h. h.to) hops

-- Both lists have the same numbers in the same order.
abbrev pub are_equal : List ℕ → List ℕ → Bool
are_equal [] [] = true
are_equal [] (y ∷ ys) = false
are_equal (x ∷ xs) [] = false
are_equal (x ∷ xs) (y ∷ ys) = (x == y) && are_equal xs ys

-- The first route is less. The whole lists of media are compared before any operator.
abbrev pub is_less : List Hop → List Hop → Bool
is_less a b =
    nat_lt (length a) (length b) || ((length a == length b) && (comes_before (media_of a) (media_of b) ||
    (are_equal (media_of a) (media_of b) && comes_before (operators_of a) (operators_of b))))

-- The hops are a route between these operators, and no route between them is less.
pub record IsLeastRoute (media : List Medium) (from : ℕ) (hops : List Hop) (to : ℕ) : Type 0 where
  pub route : IsRoute media from hops to
  pub least : (other : List Hop) → IsRoute media from other to → is_less other hops ≡ false
