-- A worked repetition: the lines `fork q w`, `diffuse p v`, `join z z` and `iterate r u y l` over a body with the inputs u, v and w and the
-- outputs y and z. Its tree has them by the inputs of the body.
use Rattle.std.proofs.Common.{◌≡◌, ℕ, List, [], ◌∷◌, map, refl, codes}
use Rattle.syn_base.specs.Bytes.{Bytes}
use Rattle.algo_laws.specs.declared.Port.{Port}
use Rattle.algo_laws.specs.declared.Feed.{Feed}
use Rattle.algo_laws.specs.declared.Feed.TheVariants as feed
use Rattle.algo_laws.specs.declared.Part.TheVariants as part
use Rattle.algo_laws.specs.Tree.{explode}
use Rattle.algo_laws.specs.declared.Frontier.TheVariants.{Fork, Diffuse, Iterate, Join}
use Rattle.algo_laws.specs.declared.FrontierLine.{FrontierLine}
use Rattle.algo_laws.specs.Ports.{outer_ports}
use Rattle.algo_laws.specs.declared.Ports.{Ports}
use Rattle.algo_laws.specs.Resolved.{feed_of}
use Rattle.flat_laws.specs.Lines.{in_line_order}
use Rattle.flat_laws.specs.Flat.{runs}
use Rattle.flat_laws.specs.Origins.{Origin, output_of}
use Rattle.flat_laws.specs.Table.{row}
use Rattle.accepted_laws.specs.TextLines.{text_feeds, text_explodes}

abbrev of : Bytes → ℕ → Port
of x n = record { name = x; len = n }

abbrev body : Ports
body = record { ins = of (codes "u") 2 ∷ of (codes "v") 3 ∷ of (codes "w") 5 ∷ []; outs = of (codes "z") 1 ∷ of (codes "y") 2 ∷ [] }

abbrev lines : List FrontierLine
lines =
    record { frontier = Fork (codes "q") (codes "w"); line = 10 }
    ∷ record { frontier = Diffuse (codes "p") (codes "v"); line = 11 }
    ∷ record { frontier = Join (codes "z") (codes "z"); line = 12 }
    ∷ record { frontier = Iterate (codes "r") (codes "u") (codes "y") (codes "l"); line = 13 } ∷ []

abbrev own : Ports
own = outer_ports 4 body lines

abbrev in_text : List Feed
in_text = feed.Fork (codes "q") 0 5 ∷ feed.Diffuse 1 ∷ feed.Iterate 2 1 ∷ []

of_text : text_feeds body own lines ≡ in_text
of_text = refl

by_inputs : map (λ (p : Port). feed_of body own lines p.name) body.ins ≡ feed.Iterate 2 1 ∷ feed.Diffuse 1 ∷ feed.Fork (codes "q") 0 5 ∷ []
by_inputs = refl

sorted : in_line_order (map (λ (p : Port). feed_of body own lines p.name) body.ins) ≡ in_text
sorted = refl

-- the inputs of the repetition come from the operations i, j and k: the line of q is the first, so its explode takes i
abbrev from : Bytes → Origin
from x = output_of (part.Named x ∷ []) explode 0

explodes : text_explodes (part.Named (codes "r") ∷ []) [] (codes "R") (from (codes "i") ∷ from (codes "j") ∷ from (codes "k") ∷ []) 4 body own lines
    ≡ row (part.Named (codes "r") ∷ part.Port (codes "q") ∷ []) (codes "R") (from (codes "i") ∷ []) [] (5 ∷ 5 ∷ 5 ∷ 5 ∷ []) (runs explode) ∷ []
explodes = refl
