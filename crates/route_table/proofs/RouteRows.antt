-- Least routes computed on worked examples.
use Rattle.std.proofs.Common.{◌≡◌, ℕ, false, List, [], ◌∷◌, refl}
use Rattle.archi_graph.specs.declared.medium.Medium.{Medium}
use Rattle.archi_graph.specs.declared.medium.MediumKind.TheVariants.{PointToPoint}
use Rattle.archi_graph.specs.declared.medium.Hop.{Hop}
use Rattle.route_table.specs.Computed.{least_route, table_of}

abbrev over : ℕ → ℕ → Hop
over m to = record { medium = m; to = to }

abbrev at : List ℕ → Medium
at stands = record { name = 109 ∷ []; kind = PointToPoint; fixed = 1; per = 1; stands = stands }

-- a relay: a medium between operators 0 and 1, and one between 1 and 2
relayed : (table_of (record { operators = (65 ∷ []) ∷ (66 ∷ []) ∷ (67 ∷ []) ∷ []; media = at (0 ∷ 1 ∷ []) ∷ at (1 ∷ 2 ∷ []) ∷ []; depth = 1 })).routes
    ≡ [] ∷ (over 0 1 ∷ []) ∷ (over 0 1 ∷ over 1 2 ∷ []) ∷ (over 0 0 ∷ []) ∷ [] ∷ (over 1 2 ∷ []) ∷ (over 1 1 ∷ over 0 0 ∷ []) ∷ (over 1 1 ∷ []) ∷ [] ∷ []
relayed = refl

-- fewer hops before lesser media
direct : least_route (at (0 ∷ 1 ∷ []) ∷ at (1 ∷ 2 ∷ []) ∷ at (0 ∷ 2 ∷ []) ∷ []) 3 0 2 ≡ over 2 2 ∷ []
direct = refl

-- all media before any operator: medium 0 leads to operators 1 and 2, and from 1 only the greatest medium leads on
media_first : least_route (at (0 ∷ 1 ∷ 2 ∷ []) ∷ at (2 ∷ 3 ∷ []) ∷ at (1 ∷ 3 ∷ []) ∷ []) 3 0 3 ≡ over 0 2 ∷ over 1 3 ∷ []
media_first = refl

back : least_route (at (0 ∷ 1 ∷ 2 ∷ []) ∷ at (2 ∷ 3 ∷ []) ∷ at (1 ∷ 3 ∷ []) ∷ []) 3 3 0 ≡ over 1 2 ∷ over 0 0 ∷ []
back = refl

-- over the same media the lesser operators
lesser_operator : least_route (at (0 ∷ 1 ∷ 2 ∷ []) ∷ at (1 ∷ 2 ∷ 3 ∷ []) ∷ []) 3 0 3 ≡ over 0 1 ∷ over 1 3 ∷ []
lesser_operator = refl
