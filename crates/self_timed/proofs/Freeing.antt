-- For each entry, the greatest end of the acts that read what it made.
use Rattle.std.proofs.Common.{◌≡◌, ℕ, zero, suc, ◌<◌, ◌≤◌, Bool, true, false, cond, List, [], ◌∷◌, length, max, replicate, Some, refl, ap, arith, ◌∙◌}
use Rattle.std.specs.Prelude.{slice_get, slice_index_or, slice_set, nat_le, ◌-◌}
use Rattle.std.proofs.lemmas.List.{length-set, get_or-set_same, length-replicate}
use Rattle.std.proofs.lemmas.Option.{same_Some}
use Rattle.self_timed.specs.declared.dates.Span.{Span}
use Rattle.self_timed.specs.declared.layout.Step.{Step}
use Rattle.self_timed.specs.declared.layout.Plan.{Plan}
use Rattle.self_timed.specs.Running.{end_in, free, free_all, freed_in}

abbrev date_at : List ℕ → ℕ → ℕ
date_at freed e = slice_index_or freed e 0

pub zeros_at : (n e : ℕ) → slice_index_or (replicate {A = ℕ} n 0) e 0 ≡ 0
zeros_at zero e = refl
zeros_at (suc n) zero = refl
zeros_at (suc n) (suc e) = zeros_at n e

pub free_length : (es : List ℕ) (date : ℕ) (freed : List ℕ) → length (free es date freed) ≡ length freed
free_length [] date freed = refl
free_length (e ∷ es) date freed = free_length es date (slice_set freed e (max (date_at freed e) date)) ∙ length-set freed e (max (date_at freed e) date)

pub free_all_length : (row : List Span) (sts : List Step) (freed : List ℕ) → length (free_all row sts freed) ≡ length freed
free_all_length row [] freed = refl
free_all_length row (st ∷ sts) freed = free_all_length row sts (free st.sources (end_in row st.entry) freed) ∙ free_length st.sources (end_in row st.entry) freed

pub freed_length : (p : Plan) (depth : ℕ) (past : List (List Span)) → length (freed_in p depth past) ≡ p.entries
freed_length p depth past = by (nat_le depth (length past))
  where
    by : (b : Bool) → length (cond b (free_all (slice_index_or past (length past - depth) []) p.steps.items (replicate p.entries 0)) (replicate p.entries 0)) ≡ p.entries
    by true = free_all_length (slice_index_or past (length past - depth) []) p.steps.items (replicate p.entries 0) ∙ length-replicate p.entries 0
    by false = length-replicate p.entries 0

-- one entry more
set_rises : (freed : List ℕ) (e date d : ℕ) → date_at freed d ≤ date_at (slice_set freed e (max (date_at freed e) date)) d
set_rises [] e date d = omega arith
set_rises (x ∷ freed) zero date zero = omega arith
set_rises (x ∷ freed) zero date (suc d) = omega arith
set_rises (x ∷ freed) (suc e) date zero = omega arith
set_rises (x ∷ freed) (suc e) date (suc d) = set_rises freed e date d

set_below : (freed : List ℕ) (e date d bound : ℕ) → date_at freed d ≤ bound → (e ≡ d → date ≤ bound) → date_at (slice_set freed e (max (date_at freed e) date)) d ≤ bound
set_below [] e date d bound h l = h
set_below (x ∷ freed) zero date zero bound h l = let z = l refl in omega arith
set_below (x ∷ freed) zero date (suc d) bound h l = h
set_below (x ∷ freed) (suc e) date zero bound h l = h
set_below (x ∷ freed) (suc e) date (suc d) bound h l = set_below freed e date d bound h (λ q. l (ap (λ (n : ℕ). suc n) q))

set_above : (freed : List ℕ) (e date : ℕ) → e < length freed → date ≤ date_at (slice_set freed e (max (date_at freed e) date)) e
set_above freed e date l = let z = get_or-set_same freed e (max (date_at freed e) date) 0 l in omega arith

-- one act
free_rises : (es : List ℕ) (date d : ℕ) (freed : List ℕ) → date_at freed d ≤ date_at (free es date freed) d
free_rises [] date d freed = omega arith
free_rises (e ∷ es) date d freed = let a = set_rises freed e date d in let b = free_rises es date d (slice_set freed e (max (date_at freed e) date)) in omega arith

free_below : (es : List ℕ) (date d bound : ℕ) (freed : List ℕ) → date_at freed d ≤ bound → ((r : ℕ) → slice_get es r ≡ Some d → date ≤ bound) → date_at (free es date freed) d ≤ bound
free_below [] date d bound freed h l = h
free_below (e ∷ es) date d bound freed h l =
    free_below es date d bound (slice_set freed e (max (date_at freed e) date)) (set_below freed e date d bound h (λ q. l 0 (ap (λ (n : ℕ). Some n) q))) (λ r s. l (suc r) s)

free_above : (es : List ℕ) (date d r : ℕ) (freed : List ℕ) → d < length freed → slice_get es r ≡ Some d → date ≤ date_at (free es date freed) d
free_above [] date d r freed l s = absurd cc
free_above (e ∷ es) date d zero freed l s =
    let same : e ≡ d = same_Some e d s in
    let up = free_rises es date d (slice_set freed e (max (date_at freed e) date)) in
    let here = set_above freed d date l in
    let z = ap (λ (n : ℕ). date_at (slice_set freed n (max (date_at freed n) date)) d) same in
    omega arith
free_above (e ∷ es) date d (suc r) freed l s =
    let z = length-set freed e (max (date_at freed e) date) in
    free_above es date d r (slice_set freed e (max (date_at freed e) date)) (omega arith) s

-- all acts
all_rise : (row : List Span) (sts : List Step) (d : ℕ) (freed : List ℕ) → date_at freed d ≤ date_at (free_all row sts freed) d
all_rise row [] d freed = omega arith
all_rise row (st ∷ sts) d freed = let a = free_rises st.sources (end_in row st.entry) d freed in let b = all_rise row sts d (free st.sources (end_in row st.entry) freed) in omega arith

pub all_below : (row : List Span) (sts : List Step) (d bound : ℕ) (freed : List ℕ) → date_at freed d ≤ bound
    → ((j r : ℕ) (st : Step) → slice_get sts j ≡ Some st → slice_get st.sources r ≡ Some d → end_in row st.entry ≤ bound) → date_at (free_all row sts freed) d ≤ bound
all_below row [] d bound freed h l = h
all_below row (st ∷ sts) d bound freed h l =
    all_below row sts d bound (free st.sources (end_in row st.entry) freed) (free_below st.sources (end_in row st.entry) d bound freed h (λ r q. l 0 r st refl q)) (λ j r z q m. l (suc j) r z q m)

pub all_above : (row : List Span) (sts : List Step) (d j r : ℕ) (st : Step) (freed : List ℕ) → d < length freed → slice_get sts j ≡ Some st
    → slice_get st.sources r ≡ Some d → end_in row st.entry ≤ date_at (free_all row sts freed) d
all_above row [] d j r st freed l s m = absurd cc
all_above row (z ∷ sts) d zero r st freed l s m =
    let same : z ≡ st = same_Some z st s in
    let up = all_rise row sts d (free z.sources (end_in row z.entry) freed) in
    let here = free_above z.sources (end_in row z.entry) d r freed l (ap (λ (w : Step). slice_get w.sources r) same ∙ m) in
    let e = ap (λ (w : Step). end_in row w.entry) same in
    omega arith
all_above row (z ∷ sts) d (suc j) r st freed l s m =
    let n = free_length z.sources (end_in row z.entry) freed in
    all_above row sts d j r st (free z.sources (end_in row z.entry) freed) (omega arith) s m
