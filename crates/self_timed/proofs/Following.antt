-- Reaction after reaction.
use Rattle.std.proofs.Common.{◌≡◌, ℕ, suc, ◌+◌, ◌^◌, ◌<◌, ◌≤◌, Bool, true, false, cond, List, [], ◌∷◌, ◌++◌, length, replicate, Some, refl, sym, ap, subst, inl, inr, arith, ◌∙◌}
use Rattle.std.specs.Prelude.{slice_get, slice_index_or, nat_le, ◌-◌, All}
use Rattle.std.proofs.lemmas.Bool.{false≢true, cases_eq, cases_lt, le-leb, leb-true}
use Rattle.std.proofs.lemmas.List.{length-append, length-replicate, take_all, get_or_append_left, get_or_at}
use Rattle.std.proofs.lemmas.List.Elements.{All-nil, All-push}
use Rattle.std.proofs.lemmas.Option.{same_Some, slice_get_within}
use Rattle.sequence_build_laws.specs.declared.Vertex.{Vertex}
use Rattle.sequence_build_laws.specs.Acts.{Act}
use Rattle.sequence_build_laws.specs.Tight.{reads_from}
use Rattle.sequence_build_laws.proofs.Lists.{get_some}
use Rattle.self_timed.specs.Dates.{start_by}
use Rattle.self_timed.specs.Entries.{entry_of}
use Rattle.self_timed.specs.declared.dates.Span.{Span}
use Rattle.self_timed.specs.declared.layout.Step.{Step}
use Rattle.self_timed.specs.declared.layout.Plan.{Plan}
use Rattle.self_timed.specs.declared.line.Ends.{Ends}
use Rattle.self_timed.specs.Lines.{AreTables, AreStarted, line_of, last_in}
use Rattle.self_timed.specs.Running.{Running, span, span_in, no_span, end_in, free_all, freed_in, at_start, after_steps, FitSteps, IsLong}
use Rattle.self_timed.specs.Told.{span_at}
use Rattle.self_timed.proofs.Laying.{AreStepsOf, IsStepOf}
use Rattle.self_timed.proofs.Freeing.{zeros_at, all_above, all_below}
use Rattle.self_timed.proofs.Lining.{last_end, last_end_over}
use Rattle.self_timed.proofs.Reacting.{Given, IsFreed, At, goes}

module _ (depth : ℕ) (vertices : List Vertex) (xs : List Act) (ends : ℕ → ℕ → ℕ) (entries : ℕ) where
  -- after k reactions
  pub record SoFar (k : ℕ) (rows : List (List Span)) (lines : Ends) : Type 0 where
    pub count : length rows ≡ k
    pub sized : All (IsLong entries) rows
    pub each : (j i : ℕ) (x : Act) → j < k → slice_get xs i ≡ Some x → span_at rows j (entry_of vertices xs i) ≡ span (start_by depth vertices xs ends j i x) (ends j i)
    pub tables : AreTables lines
    pub ended : (h : ℕ) (z : Act) → slice_get xs h ≡ Some z → last_in lines (line_of z) ≡ last_end xs ends k 0 z

  pub so_far_none : (lines : Ends) → AreStarted lines → SoFar 0 [] lines
  so_far_none lines s = record { count = refl; sized = All-nil (IsLong entries); each = λ j i x l e. absurd (omega arith); tables = s.tables; ended = λ h z e. s.none (line_of z) }

module _ (depth : ℕ) (vertices : List Vertex) (xs : List Act) (long ends : ℕ → ℕ → ℕ) (p : Plan) (used : ℕ)
    (given : Given depth vertices xs long ends p.entries used) (laid : AreStepsOf vertices xs p.steps.items) where
  module _ (k : ℕ) (rows : List (List Span)) (lines : Ends) (so : SoFar depth vertices xs ends p.entries k rows lines) where
    -- the freed dates are right
    frees : (i : ℕ) (x : Act) → slice_get xs i ≡ Some x → IsFreed vertices xs ends used k i x (slice_index_or (freed_in p used rows) (entry_of vertices xs i) 0)
    frees i x e = by (nat_le used (length rows)) refl
      where
        row : List Span
        row = slice_index_or rows (length rows - used) []

        none : k < used → IsFreed vertices xs ends used k i x (slice_index_or (replicate p.entries 0) (entry_of vertices xs i) 0)
        none l = let z = zeros_at p.entries (entry_of vertices xs i) in record { above = λ j y m h r. absurd (omega arith); below = λ bound h. omega arith }

        some : used ≤ k → IsFreed vertices xs ends used k i x (slice_index_or (free_all (slice_index_or rows (length rows - used) []) p.steps.items (replicate p.entries 0)) (entry_of vertices xs i) 0)
        some l = record { above = above; below = below }
          where
            back : length rows - used ≡ k - used
            back = let c = so.count in omega arith

            past : (j : ℕ) (y : Act) → slice_get xs j ≡ Some y → end_in (slice_index_or rows (length rows - used) []) (entry_of vertices xs j) ≡ ends (k - used) j
            past j y h =
                let deep = given.deep in
                ap (λ (n : ℕ). end_in (slice_index_or rows n []) (entry_of vertices xs j)) back ∙ ap (λ (w : Span). w.end) (so.each (k - used) j y (omega arith) h)

            above : (j : ℕ) (y : Act) → used ≤ k → slice_get xs j ≡ Some y → reads_from vertices y x ≡ true
                → ends (k - used) j ≤ slice_index_or (free_all (slice_index_or rows (length rows - used) []) p.steps.items (replicate p.entries 0)) (entry_of vertices xs i) 0
            above j y m h r =
                let st = laid.each j y h in
                let t = st.2.to i x e r in
                let low = given.low i x e in
                let size : length (replicate {A = ℕ} p.entries 0) ≡ p.entries = length-replicate p.entries 0 in
                let z = all_above (slice_index_or rows (length rows - used) []) p.steps.items (entry_of vertices xs i) j t.0 st.0 (replicate p.entries 0) (omega arith) st.1 t.1 in
                let w = ap (end_in (slice_index_or rows (length rows - used) [])) st.2.entry in
                let v = past j y h in
                omega arith

            below : (bound : ℕ) → ((j : ℕ) (y : Act) → used ≤ k → slice_get xs j ≡ Some y → reads_from vertices y x ≡ true → ends (k - used) j ≤ bound)
                → slice_index_or (free_all (slice_index_or rows (length rows - used) []) p.steps.items (replicate p.entries 0)) (entry_of vertices xs i) 0 ≤ bound
            below bound h = all_below (slice_index_or rows (length rows - used) []) p.steps.items (entry_of vertices xs i) bound
                (replicate p.entries 0) (let z = zeros_at p.entries (entry_of vertices xs i) in omega arith) each
              where
                each : (j r : ℕ) (st : Step) → slice_get p.steps.items j ≡ Some st → slice_get st.sources r ≡ Some (entry_of vertices xs i)
                    → end_in (slice_index_or rows (length rows - used) []) st.entry ≤ bound
                each j r st q m =
                    let within = slice_get_within p.steps.items j st q in
                    let count = laid.count in
                    let y = get_some xs j (omega arith) in
                    let f = laid.each j y.0 y.1 in
                    let same : f.0 ≡ st = same_Some f.0 st (sym f.1 ∙ q) in
                    let source = f.2.from r (entry_of vertices xs i) (ap (λ (w : Step). slice_get w.sources r) same ∙ m) in
                    let at = given.apart i source.at x source.it e source.stands source.is in
                    let it : source.it ≡ x = same_Some source.it x (sym source.stands ∙ ap (slice_get xs) (sym at) ∙ e) in
                    let b = h j y.0 (omega arith) y.1 (ap (reads_from vertices y.0) (sym it) ∙ source.reads) in
                    let w = ap (λ (w : Step). end_in (slice_index_or rows (length rows - used) []) w.entry) (sym same) in
                    let u = ap (end_in (slice_index_or rows (length rows - used) [])) f.2.entry in
                    let v = past j y.0 y.1 in
                    omega arith

        by : (b : Bool) → nat_le used (length rows) ≡ b
            → IsFreed vertices xs ends used k i x
            (slice_index_or (cond b (free_all (slice_index_or rows (length rows - used) []) p.steps.items (replicate p.entries 0))
            (replicate p.entries 0)) (entry_of vertices xs i) 0)
        by true h = some (let l = leb-true used (length rows) h in let c = so.count in omega arith)
        by false h = none (elim (cases_lt k used) [ inl l ↦ l | inr l ↦ absurd (false≢true (sym h ∙ le-leb used (length rows) (let c = so.count in omega arith))) ])

    -- one reaction more
    module _ (ticks : List ℕ) (lasts : (i : ℕ) (x : Act) → slice_get xs i ≡ Some x → slice_index_or ticks (entry_of vertices xs i) 0
        ≡ long k i) (fit : (i : ℕ) (x : Act) → slice_get xs i ≡ Some x → ends k i < 2 ^ 64) where
      begun : At depth vertices xs long ends p.entries used given k 0 (at_start p lines)
      begun = record { tables = so.tables; size = length-replicate p.entries no_span; row = λ j y l h. absurd (omega arith); lines = so.ended }

      run : FitSteps (freed_in p used rows) ticks p.steps.items (at_start p lines)
          × At depth vertices xs long ends p.entries used given k (length xs) (after_steps (freed_in p used rows) ticks p.steps.items (at_start p lines))
      run = goes depth vertices xs long ends p.entries used given k (freed_in p used rows) ticks frees lasts fit p.steps.items 0 (at_start p lines)
          (let c = laid.count in omega arith)
          (λ j y h. (let q : 0 + j ≡ j = omega arith in let f = laid.each j y (ap (slice_get xs) (sym q) ∙ h) in (f.0, f.1, subst (λ (n : ℕ). IsStepOf vertices xs n y f.0) (sym q) f.2)))
          begun

      pub fits : FitSteps (freed_in p used rows) ticks p.steps.items (at_start p lines)
      fits = run.0

      pub so_far_more : (r : Running) → r ≡ after_steps (freed_in p used rows) ticks p.steps.items (at_start p lines) → SoFar depth vertices xs ends p.entries (suc k) (rows ++ r.row ∷ []) r.ends
      so_far_more r is = after r (subst (λ (w : Running). At depth vertices xs long ends p.entries used given k (length xs) w) (sym is) run.1)
        where
          after : (r : Running) → At depth vertices xs long ends p.entries used given k (length xs) r → SoFar depth vertices xs ends p.entries (suc k) (rows ++ r.row ∷ []) r.ends
          after r at = record {
            count = length-append rows (r.row ∷ []) ∙ (let c = so.count in omega arith);
            sized = All-push (IsLong p.entries) rows r.row so.sized at.size;
            each = λ j i x l e. each j i x l e;
            tables = at.tables;
            ended = λ h z e. at.lines h z e ∙ last_end_over xs ends k z (take_all (length xs) xs (omega arith));
          }
            where
              each : (j i : ℕ) (x : Act) → j < suc k → slice_get xs i ≡ Some x → span_at (rows ++ r.row ∷ []) j (entry_of vertices xs i) ≡ span (start_by depth vertices xs ends j i x) (ends j i)
              each j i x l e = elim (cases_eq j k) [
                | inl z ↦ (
                    let count = so.count in
                    ap (λ (w : List Span). span_in w (entry_of vertices xs i)) (get_or_at rows r.row [] [] j (omega arith))
                    ∙ at.row i x (slice_get_within xs i x e) e
                    ∙ (λ n. span (start_by depth vertices xs ends (sym z n) i x) (ends (sym z n) i)))
                | inr n ↦ (
                    let count = so.count in
                    ap (λ (w : List Span). span_in w (entry_of vertices xs i)) (get_or_append_left rows (r.row ∷ []) [] j (omega arith))
                    ∙ so.each j i x (omega arith) e)
              ]
