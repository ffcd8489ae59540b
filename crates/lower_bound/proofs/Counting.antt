-- Transfers, one decision or one transfer more; there are few.
use Rattle.std.proofs.Common.{◌≡◌, ℕ, zero, suc, ◌+◌, ◌<◌, ◌≤◌, Bool, true, false, cond, List, [], ◌∷◌, ◌++◌, map, length, drop, get_or, ap, arith, ◌∙◌, length-append}
use Rattle.std.specs.Prelude.{All}
use Rattle.std.specs.List.{count_by}
use Rattle.std.proofs.lemmas.List.{length-map}
use Rattle.std.proofs.lemmas.List.Sums.{sum_by-append, sum_by-cons}
use Rattle.self_timed.specs.Graph.{Graph}
use Rattle.self_timed.specs.FlatValid.{is_flat}
use Rattle.self_timed.specs.Archi.{Architecture, is_archi}
use Rattle.self_timed.specs.Table.{Table, IsRow, entry_in}
use Rattle.self_timed.specs.declared.Schedule.{Schedule}
use Rattle.self_timed.specs.ScheduleValid.{is_valid}
use Rattle.self_timed.specs.declared.Transfer.{Transfer}
use Rattle.self_timed.specs.declared.Decision.{Decision}
use Rattle.self_timed.specs.Acts.{acts_of, carry, run, transfers_of}
use Rattle.self_timed.proofs.Low.{few_acts}
use Rattle.lower_bound.specs.Transfers.{most_transfers}
use Rattle.lower_bound.proofs.Steps.{first_of}

pub all_step : (ds : List Decision) (i : ℕ) (d : Decision) → i < length ds → d ≡ get_or ds i d → length (transfers_of (drop i ds)) ≡ length d.transfers + length (transfers_of (drop (i + 1) ds))
all_step ds i d l is =
    ap (λ (es : List Decision). length (transfers_of es)) (first_of ds i d l is) ∙ length-append d.transfers (transfers_of (drop (i + 1) ds))

pub sort_step : (test : Transfer → Bool) (ds : List Decision) (i : ℕ) (d : Decision) → i < length ds → d ≡ get_or ds i d
    → count_by test (transfers_of (drop i ds)) ≡ count_by test d.transfers + count_by test (transfers_of (drop (i + 1) ds))
sort_step test ds i d l is =
    ap (λ (es : List Decision). count_by test (transfers_of es)) (first_of ds i d l is) ∙ sum_by-append (λ x. cond (test x) 1 0) d.transfers (transfers_of (drop (i + 1) ds))

pub one_step : (test : Transfer → Bool) (ts : List Transfer) (i : ℕ) (t : Transfer) → i < length ts → t ≡ get_or ts i t
    → count_by test (drop i ts) ≡ cond (test t) 1 0 + count_by test (drop (i + 1) ts)
one_step test ts i t l is = ap (count_by test) (first_of ts i t l is) ∙ sum_by-cons (λ x. cond (test x) 1 0) t (drop (i + 1) ts)

pub no_more : (test : Transfer → Bool) (ts : List Transfer) → count_by test ts ≤ length ts
no_more test [] = omega arith
no_more test (t ∷ ts) = by (test t) (sum_by-cons (λ x. cond (test x) 1 0) t ts) (no_more test ts)
  where
    by : (b : Bool) → count_by test (t ∷ ts) ≡ cond b 1 0 + count_by test ts → count_by test ts ≤ length ts → count_by test (t ∷ ts) ≤ length (t ∷ ts)
    by true e z = omega arith
    by false e z = omega arith

-- no more are left than there are
pub fewer : (ds : List Decision) (i : ℕ) → length (transfers_of (drop i ds)) ≤ length (transfers_of ds)
fewer [] i = by i
  where
    by : (i : ℕ) → length (transfers_of (drop i [])) ≤ length (transfers_of [])
    by zero = omega arith
    by (suc i) = omega arith
fewer (d ∷ ds) zero = omega arith
fewer (d ∷ ds) (suc i) = let z = fewer ds i in let l = length-append d.transfers (transfers_of ds) in omega arith

-- each transfer is an act
pub no_more_than_acts : (ds : List Decision) → length (transfers_of ds) ≤ length (acts_of ds)
no_more_than_acts [] = omega arith
no_more_than_acts (d ∷ ds) =
    let l = length-append d.transfers (transfers_of ds) in
    let m = length-append (map carry d.transfers) (run d ∷ acts_of ds) in
    let n = length-map d.transfers carry in
    let z = no_more_than_acts ds in
    omega arith

pub few_transfers : (g : Graph) (a : Architecture) (t : Table) (s : Schedule) → is_flat g ≡ true → is_archi a.operators a.media ≡ true
    → All (IsRow t.operators) t.rows → is_valid g a (entry_in t) s ≡ true → (ds : List Decision) → ds ≡ s.decisions → length (transfers_of ds) ≤ most_transfers
few_transfers g a t s flat archi rows valid ds is =
    let same = ap (λ (es : List Decision). length (transfers_of es)) is in
    let less = no_more_than_acts s.decisions in
    let few = few_acts g a t s flat archi rows valid in
    omega arith
