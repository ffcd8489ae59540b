-- The table of a valid schedule can be searched, and what is found over it is the exact rate of its acts.
use Rattle.std.proofs.Common.{◌≡◌, ℕ, zero, suc, ◌^◌, ◌≤◌, true, List, [], ◌∷◌, length, map, Option, Some, None, refl, sym, ap, subst, inl, inr, arith, ◌∙◌}
use Rattle.std.specs.Prelude.{slice_get, nat_le, All}
use Rattle.std.proofs.lemmas.Bool.{and_parts, cases_lt, leb-true}
use Rattle.self_timed.specs.declared.Schedule.{Schedule}
use Rattle.self_timed.specs.declared.layout.Plan.{Plan}
use Rattle.self_timed.specs.Acts.{Act, acts}
use Rattle.self_timed.specs.Archi.{Architecture, is_archi, is_depth}
use Rattle.self_timed.specs.Dates.{with_act}
use Rattle.self_timed.specs.Entries.{stated}
use Rattle.self_timed.specs.FlatValid.{HasFewOutputs, is_flat}
use Rattle.self_timed.specs.Graph.{Graph}
use Rattle.self_timed.specs.Laid.{IsDecided, after_all, started}
use Rattle.self_timed.specs.Running.{AreSized}
use Rattle.self_timed.specs.Told.{IsValidForSome}
use Rattle.self_timed.proofs.Dated.{Asked, all_decided, at_least, few_outputs_all, given, laid, places_of_archi, sized}
use Rattle.self_timed.proofs.Lists.{get_some}
use Rattle.self_timed.proofs.Low.{few_acts, stated_low}
use Rattle.rates.specs.declared.table.Arc.{Arc}
use Rattle.rates.specs.declared.exact_rate.ExactRate.{ExactRate}
use Rattle.rates.specs.ExactRates.{IsExactIn, IsExactRateOf}
use Rattle.rates.specs.Rates.{Precedes, stated_at}
use Rattle.rates.specs.Search.{IsInRow, IsSearchable}
use Rattle.rates.specs.Tables.{IsTableOf, at, row_of}
use Rattle.rates.proofs.Cycles.{up}
use Rattle.rates.proofs.Exact.{lag_low}
use Rattle.rates.proofs.Exceeded.{act_there}
use Rattle.rates.proofs.Tabled.{critical_tested, rows_tested}
use Rattle.rates.proofs.Tested.{tested}
use Rattle.rates.proofs.Walked.{critical}
use Rattle.schedule_rate.specs.Filling.{IsFilled}
use Rattle.schedule_rate.proofs.Filled.{is_table}

row_past : (table : List (List Arc)) (i : ℕ) → length table ≤ i → row_of table i ≡ []
row_past [] i l = refl
row_past (row ∷ table) zero l = absurd (omega arith)
row_past (row ∷ table) (suc i) l = row_past table i (omega arith)

-- of each act how long it lasts
pub stated_is : (xs : List Act) (i : ℕ) → at (map stated xs) i ≡ stated_at xs i
stated_is [] i = refl
stated_is (x ∷ xs) zero = refl
stated_is (x ∷ xs) (suc i) = stated_is xs i

module _ (g : Graph) (a : Architecture) (s : Schedule) (flat : is_flat g ≡ true) (archi : is_archi a.operators a.media ≡ true) (deep : is_depth a.depth ≡ true) (valid : IsValidForSome g a s) where
  asked : Asked g a s a.depth []
  asked = record {
    flat = flat;
    archi = archi;
    deep = deep;
    valid = valid;
    depth = places_of_archi g a s a.depth deep refl;
    few = omega arith;
    within = λ k row e. absurd cc;
  }

  pub few_outputs : All HasFewOutputs g.vertices
  few_outputs = few_outputs_all g a s a.depth [] asked

  pub decisions : All (IsDecided g.vertices) s.decisions
  decisions = all_decided g a s a.depth [] asked

  few : length (acts s) ≤ 2099200
  few = few_acts g a valid.durations s flat archi valid.rows valid.valid

  module _ (plan : Plan) (entries : plan.entries ≡ (after_all (started g.vertices) (acts s)).next) (steps : plan.steps.items ≡ (after_all (started g.vertices) (acts s)).steps) where
    pub steps_few : length plan.steps.items ≤ 2 ^ 22
    steps_few = let count = (laid g a s a.depth [] asked plan entries steps).count in let z = few in omega arith

    pub steps_sized : AreSized plan.entries plan.steps.items
    steps_sized = sized g a s a.depth [] asked plan entries steps

    pub filled : (table : List (List Arc)) → IsFilled a.depth plan.entries plan.steps.items table → IsTableOf a.depth g.vertices (acts s) table
    filled table f =
        let all = given g a s a.depth [] asked plan entries steps in
        is_table a.depth g.vertices (acts s) plan.entries plan.steps.items (laid g a s a.depth [] asked plan entries steps) all.apart all.low all.lined table f

  module _ (table : List (List Arc)) (is : IsTableOf a.depth g.vertices (acts s) table) where
    precedes : (b : Arc) (i : ℕ) → IsInRow table b i → Precedes a.depth g.vertices (acts s) b i
    precedes b i r = elim (cases_lt i (length table)) [
      | inl l ↦ (
          let count = is.count in
          let x = get_some (acts s) i (omega arith) in
          let o = is.only i x.0 x.1 r.place b r.is in
          record { it = x.0; there = x.1; at = o.0; is = o.1 })
      | inr l ↦ (let none = ap (λ (w : List Arc). slice_get w r.place) (row_past table i l) in let z : None ≡ Some b = sym none ∙ r.is in absurd cc)
    ]

    short : (i : ℕ) → at (map stated (acts s)) i ≤ 2 ^ 30
    short i = let same = stated_is (acts s) i in let z = by (slice_get (acts s) i) refl in omega arith
      where
        by : (o : Option Act) → slice_get (acts s) i ≡ o → with_act o stated ≤ 2 ^ 30
        by None e = omega arith
        by (Some x) e = let z = stated_low g a valid.durations s flat archi valid.rows valid.valid i x e in omega arith

    pub searchable : (long : List ℕ) → long ≡ map stated (acts s) → IsSearchable table long
    searchable long e = record {
      few = (let count = is.count in let z = few in omega arith);
      short = λ i. (let same = ap (λ (w : List ℕ). at w i) e in let z = short i in omega arith);
      low = λ b i r. (
          let z = lag_low a.depth (at_least a deep) g.vertices (acts s) b i (precedes b i r) in
          let top = leb-true a.depth 4 (and_parts (nat_le 1 a.depth) (nat_le a.depth 4) deep).1 in
          omega arith);
      there = λ b i r. (let count = is.count in let z = act_there a.depth (at_least a deep) g.vertices (acts s) (λ k. 0) 0 0 b i (precedes b i r) in omega arith);
      up = λ b i r z. up a.depth (at_least a deep) g.vertices (acts s) b i (precedes b i r) z;
    }

    pub found_is : (long : List ℕ) → long ≡ map stated (acts s) → (found : ExactRate) → IsExactIn table (at long) found → IsExactRateOf a.depth g.vertices (acts s) (stated_at (acts s)) found
    found_is long e found f = subst (λ (h : ℕ → ℕ). IsExactRateOf a.depth g.vertices (acts s) h found) (λ n i. same i n) (record {
      some = f.some;
      lowest = f.lowest;
      sustained = tested a.depth g.vertices (acts s) (at long) found.rate.ticks found.rate.reactions (at found.offsets) (sym (rows_tested a.depth g.vertices (acts s) table is (at long) found.rate.ticks found.rate.reactions (at found.offsets)) ∙ f.sustained);
      exact = elim f.exact [
        | inl z ↦ inl z
        | inr z ↦ inr (critical a.depth g.vertices (acts s) found.act found.way (at long) found.rate.ticks found.rate.reactions (sym (critical_tested a.depth g.vertices (acts s) table is (at long) found.rate.ticks found.rate.reactions found.act found.way) ∙ z))
      ];
    })
      where
        same : (i : ℕ) → at long i ≡ stated_at (acts s) i
        same i = ap (λ (w : List ℕ). at w i) e ∙ stated_is (acts s) i
