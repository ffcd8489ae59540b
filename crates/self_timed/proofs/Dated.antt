-- What is given of a schedule, its program and the ticks makes the dates of reaction after reaction right.
use Rattle.std.proofs.Common.{◌≡◌, ℕ, zero, suc, ◌+◌, ◌^◌, ◌<◌, ◌≤◌, Bool, true, false, not, cond, List, [], ◌∷◌, ◌++◌, length, take, Option, Some, None, refl, sym, ap, subst, arith, ◌∙◌}
use Rattle.std.specs.Prelude.{slice_get, slice_index_or, nat_le, All}
use Rattle.std.specs.List.{list_any, count_by}
use Rattle.std.proofs.lemmas.Bool.{and_parts, leb-true, not-true}
use Rattle.std.proofs.lemmas.List.{take_all, get_or_default}
use Rattle.std.proofs.lemmas.Option.{same_Some, slice_get_within}
use Rattle.sequence_build_laws.specs.declared.Vertex.{Vertex}
use Rattle.sequence_build_laws.specs.Graph.{Graph, len_of}
use Rattle.sequence_build_laws.specs.FlatValid.{is_flat, HasFewOutputs}
use Rattle.sequence_build_laws.specs.Archi.{Architecture, is_archi, is_depth}
use Rattle.sequence_build_laws.specs.Table.{entry_in}
use Rattle.sequence_build_laws.specs.declared.Schedule.{Schedule}
use Rattle.sequence_build_laws.specs.declared.Decision.{Decision}
use Rattle.sequence_build_laws.specs.Acts.{Act, carry, run, acts, acts_of, Copy, same_copy, read_by, made_by}
use Rattle.sequence_build_laws.specs.Tight.{same_line, reads_from}
use Rattle.sequence_build_laws.specs.declared.Buffer.{Buffer}
use Rattle.sequence_build_laws.specs.declared.Program.{Program}
use Rattle.sequence_build_laws.specs.Instructions.{number_or, depth_in}
use Rattle.sequence_build_laws.proofs.Reading.{any_of}
use Rattle.sequence_build_laws.proofs.Copies.{few_outputs, copy_is}
use Rattle.sequence_build_laws.specs.Serial.{copies, buffer_for}
use Rattle.sequence_build_laws.specs.Built.{buffers_from, program_of, is_guarded}
use Rattle.sequence_build_laws.proofs.Lists.{get_some, tally, tally_grows, counts_tally}
use Rattle.sequence_build_laws.proofs.Works.{of_run}
use Rattle.self_timed.specs.Dates.{AreDates, has_reader}
use Rattle.self_timed.specs.Entries.{stated, is_transfer, entry_at, entry_of, row_in, lasting, AreWithin}
use Rattle.self_timed.proofs.Solution.{are_dates}
use Rattle.self_timed.proofs.InTime.{none_longer}
use Rattle.self_timed.proofs.Entered.{is_entry, one}
use Rattle.self_timed.proofs.Whole.{buffers_have_depth, no_later_than_stated, first_reaction_is_stated}
use Rattle.self_timed.specs.declared.dates.Span.{Span}
use Rattle.self_timed.specs.declared.layout.Plan.{Plan}
use Rattle.self_timed.specs.declared.layout.Step.{Step}
use Rattle.self_timed.specs.declared.line.Line.{Line}
use Rattle.self_timed.specs.declared.line.Ends.{Ends}
use Rattle.self_timed.specs.Depths.{deepest}
use Rattle.self_timed.specs.Laid.{IsDecided, started, after_all}
use Rattle.self_timed.specs.Lines.{IsLine}
use Rattle.self_timed.specs.Running.{Running, AreSized, FitSteps, IsLong, IsSized, after_steps, at_start, freed_in, span}
use Rattle.self_timed.specs.Told.{AreDatesOf, EndInTime, HaveDepth, IsValidForSome, StartsAsStated, entries_of, end_at, start_at, span_at}
use Rattle.self_timed.proofs.Deepest.{deepest_one, deepest_above, deepest_below}
use Rattle.self_timed.proofs.Held.{all_from, decided, lined}
use Rattle.self_timed.proofs.Laying.{AreStepsOf, are_steps, entries_are}
use Rattle.self_timed.proofs.Low.{dates_low}
use Rattle.self_timed.proofs.Reacting.{Given}
use Rattle.self_timed.proofs.Following.{SoFar, fits, so_far_more}

-- no buffer of a program has more places than its depth
places_below : (depth : ℕ) → 1 ≤ depth → (g : Graph) (a : Architecture) (s : Schedule) (n k : ℕ) (cs : List Copy) (b : Buffer) → slice_get (buffers_from depth g a s n cs) k ≡ Some b → b.depth ≤ depth
places_below depth l g a s n k [] b e = absurd cc
places_below depth l g a s n zero (c ∷ cs) b e = by (is_guarded g a s n) (same_Some (record { operator = c.operator; len = len_of g.vertices c.source; depth = cond (is_guarded g a s n) depth 1 }) b e)
  where
    by : (t : Bool) → ◌≡◌ {A = Buffer} (record { operator = c.operator; len = len_of g.vertices c.source; depth = cond t depth 1 }) b → b.depth ≤ depth
    by true q = let z = ap (λ (x : Buffer). x.depth) q in omega arith
    by false q = let z = ap (λ (x : Buffer). x.depth) q in omega arith
places_below depth l g a s n (suc k) (c ∷ cs) b e = places_below depth l g a s (suc n) k cs b e

depth_there : (bs : List Buffer) (k : ℕ) → depth_in (slice_get bs k) ≤ deepest bs
depth_there bs k = by (slice_get bs k) refl
  where
    by : (o : Option Buffer) → slice_get bs k ≡ o → depth_in o ≤ deepest bs
    by None e = deepest_one bs
    by (Some b) e = deepest_above bs k b e

tick_is : (row : List ℕ) (e : ℕ) → number_or 0 (slice_get row e) ≡ slice_index_or row e 0
tick_is [] e = refl
tick_is (t ∷ row) zero = refl
tick_is (t ∷ row) (suc e) = tick_is row e

row_there : (ticks : List (List ℕ)) (k : ℕ) → row_in (slice_get ticks k) ≡ slice_index_or ticks k []
row_there [] k = refl
row_there (row ∷ ticks) zero = refl
row_there (row ∷ ticks) (suc k) = row_there ticks k

-- the row of ticks that is read
pub row_read : (items actual : List (List ℕ)) (k : ℕ) (item row : List ℕ) → items ≡ actual → row ≡ item → item ≡ slice_index_or items k item → k < length items → row ≡ slice_index_or actual k []
row_read items actual k item row same is at l = is ∙ at ∙ get_or_default items k item [] l ∙ ap (λ (w : List (List ℕ)). slice_index_or w k []) same

-- what the code lays out is what the acts lay out
pub next_from : (g : Graph) (s : Schedule) (vs : List Vertex) (ds : List Decision) (n : ℕ) → vs ≡ g.vertices → ds ≡ s.decisions → n
    ≡ (after_all (started vs) (acts_of ds)).next → n ≡ (after_all (started g.vertices) (acts s)).next
next_from g s vs ds n v d e = e ∙ (λ i. (after_all (started (v i)) (acts_of (d i))).next)

pub steps_from : (g : Graph) (s : Schedule) (vs : List Vertex) (ds : List Decision) (sts : List Step) → vs ≡ g.vertices → ds ≡ s.decisions
    → sts ≡ (after_all (started vs) (acts_of ds)).steps → sts ≡ (after_all (started g.vertices) (acts s)).steps
steps_from g s vs ds sts v d e = e ∙ (λ i. (after_all (started (v i)) (acts_of (d i))).steps)

pub at_least : (a : Architecture) → is_depth a.depth ≡ true → 1 ≤ a.depth
at_least a deep = leb-true 1 a.depth (and_parts (nat_le 1 a.depth) (nat_le a.depth 4) deep).0

-- the greatest depth of a program's buffers is the architecture's, where some act reads in another sequence what an act makes
pub places_of_program : (g : Graph) (a : Architecture) (s : Schedule) (program : Program) → is_archi a.operators a.media ≡ true
    → is_depth a.depth ≡ true → IsValidForSome g a s → program ≡ program_of g a s → HaveDepth g a s (deepest program.buffers)
places_of_program g a s program archi deep valid built = record { least = deepest_one program.buffers; same = same }
  where
    same : (i j : ℕ) (x y : Act) → slice_get (acts s) i ≡ Some x → slice_get (acts s) j ≡ Some y → has_reader g.vertices x y ≡ true → deepest program.buffers ≡ a.depth
    same i j x y e h r =
        let parts = and_parts (not (same_line x y)) (reads_from g.vertices y x) r in
        let c = any_of (λ c. list_any (same_copy c) (made_by g.vertices x)) (read_by g.vertices y) parts.1 in
        let m = any_of (same_copy c.1) (made_by g.vertices x) c.3 in
        let made : slice_get (made_by g.vertices x) m.0 ≡ Some c.1 = m.2 ∙ ap (λ (w : Copy). Some w) (sym (copy_is c.1 m.1 m.3)) in
        let depth = buffers_have_depth a.depth g a (entry_in valid.durations) s archi valid.valid i j m.0 c.0 x y c.1 e h made c.2 (not-true (same_line x y) parts.0) in
        let up = depth_there (program_of g a s).buffers (buffer_for g a s c.1) in
        let down = deepest_below (program_of g a s).buffers a.depth (at_least a deep) (λ k b q. places_below a.depth (at_least a deep) g a s 0 k (copies g a s) b q) in
        let same = ap (λ (p : Program). deepest p.buffers) built in
        omega arith

pub places_of_archi : (g : Graph) (a : Architecture) (s : Schedule) (depth : ℕ) → is_depth a.depth ≡ true → depth ≡ a.depth → HaveDepth g a s depth
places_of_archi g a s depth deep is = let least = at_least a deep in record { least = omega arith; same = λ i j x y e h r. is }

pub record Asked (g : Graph) (a : Architecture) (s : Schedule) (places : ℕ) (actual : List (List ℕ)) : Type 0 where
  pub flat : is_flat g ≡ true
  pub archi : is_archi a.operators a.media ≡ true
  pub deep : is_depth a.depth ≡ true
  pub valid : IsValidForSome g a s
  pub depth : HaveDepth g a s places
  pub few : length actual ≤ 1000
  pub within : AreWithin g.vertices (acts s) actual

module _ (g : Graph) (a : Architecture) (s : Schedule) (places : ℕ) (actual : List (List ℕ)) (asked : Asked g a s places actual) where
  abbrev long : ℕ → ℕ → ℕ
  long = lasting g.vertices (acts s) actual

  abbrev ends : ℕ → ℕ → ℕ
  ends = end_at a.depth g s actual

  are : AreDates a.depth g.vertices (acts s) (lasting g.vertices (acts s) actual) (end_at a.depth g s actual)
  are = are_dates a.depth (at_least a asked.deep) g.vertices (acts s) (lasting g.vertices (acts s) actual)

  short : (k i : ℕ) (x : Act) → slice_get (acts s) i ≡ Some x → lasting g.vertices (acts s) actual k i ≤ stated x
  short = none_longer g s actual asked.within

  entry_low : (i : ℕ) (x : Act) → slice_get (acts s) i ≡ Some x → entry_of g.vertices (acts s) i < entries_of g s
  entry_low i x e = let z = is_entry g a (entry_in asked.valid.durations) s asked.valid.valid i x e in let w = by x e in omega arith
    where
      by : (x : Act) → slice_get (acts s) i ≡ Some x → entry_at (length g.vertices) (count_by is_transfer (take i (acts s))) x < length g.vertices + count_by is_transfer (acts s)
      by (run d) e =
          let r = of_run g a (entry_in asked.valid.durations) s asked.valid.valid i d e in
          let l = slice_get_within g.vertices d.op r.vertex r.there in
          omega arith
      by (carry t) e =
          let l = slice_get_within (acts s) i (carry t) e in
          let grows = tally_grows is_transfer (acts s) i (length (acts s)) (carry t) e refl l in
          let all = ap (tally is_transfer) (take_all (length (acts s)) (acts s) (omega arith)) in
          let c = counts_tally is_transfer (take i (acts s)) in
          let d = counts_tally is_transfer (acts s) in
          omega arith

  pub few_outputs_all : All HasFewOutputs g.vertices
  few_outputs_all = all_from HasFewOutputs g.vertices (λ v x e. few_outputs g asked.flat v x e)

  pub all_decided : All (IsDecided g.vertices) s.decisions
  all_decided = decided g a (entry_in asked.valid.durations) s asked.flat asked.archi asked.valid.valid

  module _ (plan : Plan) (entries : plan.entries ≡ (after_all (started g.vertices) (acts s)).next) (steps : plan.steps.items ≡ (after_all (started g.vertices) (acts s)).steps) where
    pub count_is : plan.entries ≡ entries_of g s
    count_is = entries ∙ entries_are g a (entry_in asked.valid.durations) s asked.flat asked.archi asked.valid.valid

    pub laid : AreStepsOf g.vertices (acts s) plan.steps.items
    laid = subst (λ (w : List _). AreStepsOf g.vertices (acts s) w) (sym steps) (are_steps g a (entry_in asked.valid.durations) s asked.flat asked.archi asked.valid.valid)

    pub given : Given a.depth g.vertices (acts s) (lasting g.vertices (acts s) actual) (end_at a.depth g s actual) plan.entries places
    given = record {
      are = are;
      deep = asked.depth.least;
      same = asked.depth.same;
      low = λ i x e. (let l = entry_low i x e in let c = count_is in omega arith);
      apart = one g a (entry_in asked.valid.durations) s asked.valid.valid;
      lined = lined g a (entry_in asked.valid.durations) s asked.flat asked.archi asked.valid.valid;
    }

    -- entries, lines and sources of the steps are there
    pub sized : AreSized plan.entries plan.steps.items
    sized = all_from (IsSized plan.entries) plan.steps.items (λ j st e. sized_at j st e)
      where
        sized_at : (j : ℕ) (st : Step) → slice_get plan.steps.items j ≡ Some st → IsSized plan.entries st
        sized_at j st e =
            let within = slice_get_within plan.steps.items j st e in
            let count = laid.count in
            let y = get_some (acts s) j (omega arith) in
            let f = laid.each j y.0 y.1 in
            let same : f.0 ≡ st = same_Some f.0 st (sym f.1 ∙ e) in
            subst (λ (w : Step). IsSized plan.entries w) same (record {
              entry = (let z = f.2.entry in let l = given.low j y.0 y.1 in omega arith);
              line = subst (λ (w : Line). IsLine w) (sym f.2.line) (given.lined j y.0 y.1);
              sources = all_from (λ e. e < plan.entries) f.0.sources (λ r n q. (let o = f.2.from r n q in let l = given.low o.at o.it o.stands in let z = o.is in omega arith));
            })

  pub lasts : (k i : ℕ) (x : Act) → slice_get (acts s) i ≡ Some x → (row : List ℕ) → row ≡ slice_index_or actual k []
      → slice_index_or row (entry_of g.vertices (acts s) i) 0 ≡ lasting g.vertices (acts s) actual k i
  lasts k i x e row is =
      ap (λ (r : List ℕ). slice_index_or r (entry_of g.vertices (acts s) i) 0) (is ∙ sym (row_there actual k))
      ∙ sym (tick_is (row_in (slice_get actual k)) (entry_of g.vertices (acts s) i))

  pub fit : (k i : ℕ) (x : Act) → k < length actual → slice_get (acts s) i ≡ Some x → end_at a.depth g s actual k i < 2 ^ 64
  fit k i x l e =
      let few = asked.few in
      let z = dates_low g a asked.valid.durations s asked.flat asked.archi asked.valid.rows asked.valid.valid a.depth
      (at_least a asked.deep) (lasting g.vertices (acts s) actual) (end_at a.depth g s actual) are short k i x (omega arith) e in
      omega arith

  -- One reaction more. The code's values are equal to these.
  module _ (plan : Plan) (entries : plan.entries ≡ (after_all (started g.vertices) (acts s)).next) (steps : plan.steps.items ≡ (after_all (started g.vertices) (acts s)).steps)
      (k : ℕ) (l : k < length actual) (rows : List (List Span)) (lines : Ends) (so : SoFar a.depth g.vertices (acts s) (end_at a.depth g s actual) plan.entries k rows lines)
      (past : List (List Span)) (same_rows : past ≡ rows) (used : ℕ) (same_depths : used ≡ places) (row : List ℕ) (same_row : row ≡ slice_index_or actual k []) where
    freed_same : freed_in plan used past ≡ freed_in plan places rows
    freed_same = λ i. freed_in plan (same_depths i) (same_rows i)

    pub step_fits : FitSteps (freed_in plan used past) row plan.steps.items (at_start plan lines)
    step_fits = subst (λ (w : List ℕ). FitSteps w row plan.steps.items (at_start plan lines)) (sym freed_same)
        (fits a.depth g.vertices (acts s) (lasting g.vertices (acts s) actual) (end_at a.depth g s actual) plan places (given plan entries steps) (laid plan entries steps) k rows lines so row
        (λ i x e. lasts k i x e row same_row) (λ i x e. fit k i x l e))

    pub step_more : (r : Running) → r ≡ after_steps (freed_in plan used past) row plan.steps.items (at_start plan lines) → (n : ℕ) → n ≡ k + 1 → (more : List (List Span)) → more ≡ rows ++ r.row ∷ []
        → SoFar a.depth g.vertices (acts s) (end_at a.depth g s actual) plan.entries n more r.ends
    step_more r is n next more all =
        let z : n ≡ suc k = omega arith in
        let now = so_far_more a.depth g.vertices (acts s) (lasting g.vertices (acts s) actual) (end_at a.depth g s actual) plan places
        (given plan entries steps) (laid plan entries steps) k rows lines so row
        (λ i x e. lasts k i x e row same_row) (λ i x e. fit k i x l e) r (is ∙ ap (λ (w : List ℕ). after_steps w row plan.steps.items (at_start plan lines)) freed_same) in
        subst (λ (w : List (List Span)). SoFar a.depth g.vertices (acts s) (end_at a.depth g s actual) plan.entries n w r.ends) (sym all)
        (subst (λ (w : ℕ). SoFar a.depth g.vertices (acts s) (end_at a.depth g s actual) plan.entries w (rows ++ r.row ∷ []) r.ends) (sym z) now)

  -- what is told of all reactions
  module _ (plan : Plan) (entries : plan.entries ≡ (after_all (started g.vertices) (acts s)).next) (k : ℕ) (l : k ≡ length actual) (before rows : List (List Span)) (lines : Ends)
      (so : SoFar a.depth g.vertices (acts s) (end_at a.depth g s actual) plan.entries k before lines) (is : rows ≡ before) where
    count : length rows ≡ length actual
    count = ap length is ∙ so.count ∙ l

    each : (k i : ℕ) (x : Act) → k < length actual → slice_get (acts s) i ≡ Some x → span_at rows k (entry_of g.vertices (acts s) i)
        ≡ span (start_at a.depth g s actual k i x) (end_at a.depth g s actual k i)
    each j i x h e = ap (λ (w : List (List Span)). span_at w j (entry_of g.vertices (acts s) i)) is ∙ so.each j i x (omega arith) e

    pub are_told : AreDatesOf a.depth g s actual rows
    are_told = record {
      count = count;
      entries = subst (λ (w : List (List Span)). All (IsLong (entries_of g s)) w) (sym is)
          (subst (λ (n : ℕ). All (IsLong n) before) (entries ∙ entries_are g a (entry_in asked.valid.durations) s asked.flat asked.archi asked.valid.valid) so.sized);
      each = each;
    }

    pub told_in_time : EndInTime g s rows
    told_in_time k i x h e =
        let c = count in
        let z = each k i x (omega arith) e in
        let b = no_later_than_stated a.depth g a (entry_in asked.valid.durations) s (lasting g.vertices (acts s) actual)
        (end_at a.depth g s actual) (at_least a asked.deep) asked.valid.valid short are k i x e in
        let w = ap (λ (p : Span). p.end) z in
        omega arith

    pub told_first : StartsAsStated g s actual rows
    told_first first tight i x h e =
        let c = count in
        let f = (first_reaction_is_stated a.depth g a (entry_in asked.valid.durations) s (lasting g.vertices (acts s) actual)
        (end_at a.depth g s actual) (at_least a asked.deep) asked.valid.valid first are).0 tight i x e in
        each 0 i x (omega arith) e ∙ (λ n. span (f.0 n) (f.1 n))
