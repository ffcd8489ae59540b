-- The latest end of acts that stand after others.
use Rattle.std.proofs.Common.{◌≡◌, List, [], ◌∷◌, ◌++◌, map, max, arith}
use Rattle.schedule.specs.declared.decision.Decision.{Decision}
use Rattle.schedule.specs.Acts.{Act, carry, run, acts_of, latest}

pub latest-append : (xs ys : List Act) → latest (xs ++ ys) ≡ max (latest xs) (latest ys)
latest-append [] ys = omega arith
latest-append (x ∷ xs) ys = let e = latest-append xs ys in omega arith

pub latest_more : (d : Decision) (ds : List Decision) → latest (acts_of (d ∷ ds)) ≡ max (max d.end (latest (map carry d.transfers))) (latest (acts_of ds))
latest_more d ds = let e = latest-append (map carry d.transfers) (run d ∷ acts_of ds) in omega arith
