-- One reaction of steps gives its dates, and none is too large.
use Rattle.std.proofs.Common.{◌≡◌, ◌≢◌, ℕ, suc, ◌+◌, ◌^◌, ◌<◌, ◌≤◌, true, cond, List, [], ◌∷◌, length, Some, sym, ap, subst, inl, inr, arith, ◌∙◌}
use Rattle.std.specs.Prelude.{slice_get, slice_index_or, slice_set, ◌-◌}
use Rattle.std.proofs.lemmas.Bool.{cases_eq}
use Rattle.std.proofs.lemmas.List.{length-set, get_or-set_same, get_or-set_other}
use Rattle.std.proofs.lemmas.Option.{same_Some}
use Rattle.sequence_build_laws.specs.declared.Vertex.{Vertex}
use Rattle.sequence_build_laws.specs.Acts.{Act}
use Rattle.sequence_build_laws.specs.Tight.{same_line, reads_from}
use Rattle.sequence_build_laws.proofs.Lists.{get_some}
use Rattle.self_timed.specs.Dates.{has_reader, start_by, AreDates}
use Rattle.self_timed.specs.Entries.{entry_of}
use Rattle.self_timed.specs.declared.dates.Span.{Span}
use Rattle.self_timed.specs.declared.layout.Step.{Step}
use Rattle.self_timed.specs.Lines.{AreTables, IsLine, line_of, last_in, noted}
use Rattle.self_timed.specs.Running.{Running, span, span_in, no_span, start_in, ended_in, after_step, after_steps, FitSteps}
use Rattle.self_timed.proofs.Laying.{IsStepOf}
use Rattle.self_timed.proofs.Lining.{tables_kept, noted_line, last_end, last_end_next}
use Rattle.self_timed.proofs.Starting.{starts}

-- All that is given of the acts, of their steps and of the entries.
pub record Given (depth : ℕ) (vertices : List Vertex) (xs : List Act) (long ends : ℕ → ℕ → ℕ) (entries used : ℕ) : Type 0 where
  pub are : AreDates depth vertices xs long ends
  pub deep : 1 ≤ used
  pub same : (i j : ℕ) (x y : Act) → slice_get xs i ≡ Some x → slice_get xs j ≡ Some y → has_reader vertices x y ≡ true → used ≡ depth
  pub low : (i : ℕ) (x : Act) → slice_get xs i ≡ Some x → entry_of vertices xs i < entries
  pub apart : (i j : ℕ) (x y : Act) → slice_get xs i ≡ Some x → slice_get xs j ≡ Some y → entry_of vertices xs i ≡ entry_of vertices xs j → i ≡ j
  pub lined : (i : ℕ) (x : Act) → slice_get xs i ≡ Some x → IsLine (line_of x)

-- What acts that read what act i, which is x, made have freed when reaction k starts: the greatest of their ends.
pub record IsFreed (vertices : List Vertex) (xs : List Act) (ends : ℕ → ℕ → ℕ) (used k i : ℕ) (x : Act) (date : ℕ) : Type 0 where
  pub above : (j : ℕ) (y : Act) → used ≤ k → slice_get xs j ≡ Some y → reads_from vertices y x ≡ true → ends (k - used) j ≤ date
  pub below : (bound : ℕ) → ((j : ℕ) (y : Act) → used ≤ k → slice_get xs j ≡ Some y → reads_from vertices y x ≡ true → ends (k - used) j ≤ bound) → date ≤ bound

module _ (depth : ℕ) (vertices : List Vertex) (xs : List Act) (long ends : ℕ → ℕ → ℕ) (entries used : ℕ) (given : Given depth vertices xs long ends entries used) where
  -- after i acts of reaction k
  pub record At (k i : ℕ) (r : Running) : Type 0 where
    pub tables : AreTables r.ends
    pub size : length r.row ≡ entries
    pub row : (j : ℕ) (y : Act) → j < i → slice_get xs j ≡ Some y → span_in r.row (entry_of vertices xs j) ≡ span (start_by depth vertices xs ends k j y) (ends k j)
    pub lines : (h : ℕ) (z : Act) → slice_get xs h ≡ Some z → last_in r.ends (line_of z) ≡ last_end xs ends k i z

  module _ (k : ℕ) (freed ticks : List ℕ) (frees : (i : ℕ) (x : Act) → slice_get xs i ≡ Some x → IsFreed vertices xs ends used k i x (slice_index_or freed (entry_of vertices xs i) 0))
      (lasts : (i : ℕ) (x : Act) → slice_get xs i ≡ Some x → slice_index_or ticks (entry_of vertices xs i) 0 ≡ long k i)
      (fit : (i : ℕ) (x : Act) → slice_get xs i ≡ Some x → ends k i < 2 ^ 64) where
    module _ (i : ℕ) (x : Act) (e : slice_get xs i ≡ Some x) (st : Step) (is : IsStepOf vertices xs i x st) (r : Running) (at : At k i r) where
      start_is : start_in freed ticks st r ≡ start_by depth vertices xs ends k i x
      start_is = starts depth vertices xs long ends given.are k i x e st is used given.deep (λ j y h reads. given.same i j x y e h reads) freed ticks r
          (at.lines i x e) (λ j y l h. ap (λ (w : Span). w.end) (at.row j y l h)) (frees i x e).above (frees i x e).below

      pub ended_is : ended_in freed ticks st r ≡ ends k i
      ended_is =
          let z = start_is in
          let w = ap (λ (n : ℕ). slice_index_or ticks n 0) is.entry in
          let v = lasts i x e in
          let u = given.are k i x e in
          omega arith

      pub next_at : At k (suc i) (after_step freed ticks st r)
      next_at = record {
        tables = tables_kept r.ends st.line (ended_in freed ticks st r) at.tables;
        size = length-set r.row st.entry (span (start_in freed ticks st r) (ended_in freed ticks st r)) ∙ at.size;
        row = rows;
        lines = λ h z q.
            ap (λ (l : _). last_in (noted r.ends l (ended_in freed ticks st r)) (line_of z)) is.line
            ∙ noted_line r.ends at.tables z x (given.lined i x e) (ended_in freed ticks st r)
            ∙ (λ n. cond (same_line z x) (ended_is n) (at.lines h z q n))
            ∙ sym (last_end_next xs ends k i x z e);
      }
        where
          here : slice_set r.row st.entry (span (start_in freed ticks st r) (ended_in freed ticks st r))
              ≡ slice_set r.row (entry_of vertices xs i) (span (start_by depth vertices xs ends k i x) (ends k i))
          here n = slice_set r.row (is.entry n) (span (start_is n) (ended_is n))

          rows : (j : ℕ) (y : Act) → j < suc i → slice_get xs j ≡ Some y
              → span_in (slice_set r.row st.entry (span (start_in freed ticks st r) (ended_in freed ticks st r))) (entry_of vertices xs j) ≡ span (start_by depth vertices xs ends k j y) (ends k j)
          rows j y l h = elim (cases_eq j i) [
            | inl z ↦ (
                let same : x ≡ y = same_Some x y (sym e ∙ ap (slice_get xs) (sym z) ∙ h) in
                let size = at.size in
                let low = given.low i x e in
                let fits : entry_of vertices xs i < length r.row = omega arith in
                ap (λ (w : List Span). span_in w (entry_of vertices xs j)) here
                ∙ ap (λ (m : ℕ). span_in (slice_set r.row (entry_of vertices xs i) (span (start_by depth vertices xs ends k i x) (ends k i))) (entry_of vertices xs m)) z
                ∙ get_or-set_same r.row (entry_of vertices xs i) (span (start_by depth vertices xs ends k i x) (ends k i)) no_span fits
                ∙ (λ n. span (start_by depth vertices xs ends k (sym z n) (same n)) (ends k (sym z n))))
            | inr n ↦ (
                let other : entry_of vertices xs j ≢ entry_of vertices xs i = λ q. n (given.apart j i y x h e q) in
                ap (λ (w : List Span). span_in w (entry_of vertices xs j)) here
                ∙ get_or-set_other r.row (entry_of vertices xs i) (entry_of vertices xs j) (span (start_by depth vertices xs ends k i x) (ends k i)) no_span other
                ∙ at.row j y (omega arith) h)
          ]

    -- the acts from act i on
    pub goes : (sts : List Step) (i : ℕ) (r : Running) → i + length sts ≡ length xs
        → ((j : ℕ) (y : Act) → slice_get xs (i + j) ≡ Some y → (st : Step) × (slice_get sts j ≡ Some st) × IsStepOf vertices xs (i + j) y st)
        → At k i r → FitSteps freed ticks sts r × At k (length xs) (after_steps freed ticks sts r)
    goes [] i r size each at = (tt, (let q : i ≡ length xs = omega arith in subst (λ (n : ℕ). At k n r) q at))
    goes (st ∷ sts) i r size each at =
        let x = get_some xs i (omega arith) in
        let zeroth : i + 0 ≡ i = omega arith in
        let found = each 0 x.0 (ap (slice_get xs) zeroth ∙ x.1) in
        let same : found.0 ≡ st = sym (same_Some st found.0 found.1) in
        let step : IsStepOf vertices xs i x.0 st = subst (λ (w : Step). IsStepOf vertices xs i x.0 w) same (subst (λ (n : ℕ). IsStepOf vertices xs n x.0 found.0) zeroth found.2) in
        let more = goes sts (suc i) (after_step freed ticks st r) (omega arith) (λ j y h. later j y h) (next_at i x.0 x.1 st step r at) in
        let ended = ended_is i x.0 x.1 st step r at in
        let fits = fit i x.0 x.1 in
        (((omega arith), more.0), more.1)
      where
        later : (j : ℕ) (y : Act) → slice_get xs (suc i + j) ≡ Some y → (z : Step) × (slice_get sts j ≡ Some z) × IsStepOf vertices xs (suc i + j) y z
        later j y h =
            let q : i + suc j ≡ suc i + j = omega arith in
            let f = each (suc j) y (ap (slice_get xs) q ∙ h) in
            (f.0, f.1, subst (λ (n : ℕ). IsStepOf vertices xs n y f.0) q f.2)
