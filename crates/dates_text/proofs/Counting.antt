-- How many transfers there are.
use Rattle.std.proofs.Common.{◌≡◌, suc, ◌+◌, cond, List, [], ◌∷◌, ◌++◌, map, length, arith}
use Rattle.std.specs.List.{count_by}
use Rattle.std.proofs.lemmas.List.Sums.{sum_by-cons, sum_by-append}
use Rattle.self_timed.specs.declared.Transfer.{Transfer}
use Rattle.self_timed.specs.declared.Decision.{Decision}
use Rattle.self_timed.specs.Acts.{Act, carry, run}
use Rattle.self_timed.specs.Entries.{is_transfer}

pub count_carry : (t : Transfer) (xs : List Act) → count_by is_transfer (carry t ∷ xs) ≡ suc (count_by is_transfer xs)
count_carry t xs = let z = sum_by-cons (λ (x : Act). cond (is_transfer x) 1 0) (carry t) xs in omega arith

pub count_run : (d : Decision) (xs : List Act) → count_by is_transfer (run d ∷ xs) ≡ count_by is_transfer xs
count_run d xs = let z = sum_by-cons (λ (x : Act). cond (is_transfer x) 1 0) (run d) xs in omega arith

pub count_more : (xs ys : List Act) → count_by is_transfer (xs ++ ys) ≡ count_by is_transfer xs + count_by is_transfer ys
count_more xs ys = sum_by-append (λ (x : Act). cond (is_transfer x) 1 0) xs ys

-- those of a decision come first
pub counted : (ts : List Transfer) (rest : List Act) → count_by is_transfer (map carry ts ++ rest) ≡ length ts + count_by is_transfer rest
counted [] rest = omega arith
counted (t ∷ ts) rest = let z = counted ts rest in let c = count_carry t (map carry ts ++ rest) in omega arith
