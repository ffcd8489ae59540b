-- Counts that stop at a bound.
use Rattle.std.proofs.Common.{◌≡◌, ℕ, zero, suc, ◌*◌, ◌<◌, Bool, true, false, min, nat_lt, refl, arith, suc-mul}
use Rattle.std.proofs.lemmas.Bool.{lt-ltb, le-ltb, ltb-true, ltb-false}
use Rattle.algo_tree.specs.Tree.{Kind, graph, switch, repeat}
use Rattle.algo_tree.specs.Counted.{operations_by}
use Rattle.algo_tree.specs.Size.{made_by}

pub product_capped : (n x y m : ℕ) → min x m ≡ min y m → min (n * x) m ≡ min (n * y) m
product_capped zero x y m h = omega arith
product_capped (suc n) x y m h = omega (arith, h, suc-mul n x, suc-mul n y, product_capped n x y m h)

-- what a vertex counts depends on what is inside it only up to the bound
pub capped : (k : Kind) (x y m : ℕ) → min x m ≡ min y m → min (operations_by k x) m ≡ min (operations_by k y) m
capped (graph outs) x y m h = h
capped (switch values names) x y m h = omega (arith, h)
capped (repeat n feeds gives) x y m h = omega (arith, product_capped n x y m h)
capped _ x y m h = refl

-- the same of the vertices that it becomes
pub made_capped : (k : Kind) (x y m : ℕ) → min x m ≡ min y m → min (made_by k x) m ≡ min (made_by k y) m
made_capped (repeat n feeds gives) x y m h = omega (arith, product_capped n x y m h)
made_capped _ x y m h = omega (arith, h)

-- whether a bound below the cap is passed
pub passed : (b x m : ℕ) → b < m → nat_lt b (min x m) ≡ nat_lt b x
passed b x m low = by (nat_lt b x) refl
  where
    by : (t : Bool) → nat_lt b x ≡ t → nat_lt b (min x m) ≡ t
    by true e = lt-ltb b (min x m) (omega (arith, ltb-true b x e, low))
    by false e = le-ltb b (min x m) (omega (arith, ltb-false b x e))
