-- An act starts at the greatest of its line's last end, of the ends of what makes what it reads, and of the ends of those that read what it made.
use Rattle.std.proofs.Common.{◌≡◌, ℕ, zero, suc, ◌+◌, ◌<◌, ◌≤◌, Bool, true, false, not, List, [], ◌∷◌, ◌++◌, map, take, Some, refl, sym, ap, arith, ◌∙◌}
use Rattle.std.specs.Prelude.{slice_get, slice_index_or, nat_le, ◌-◌, cond}
use Rattle.std.specs.Cmp.Derive.{both_true}
use Rattle.std.proofs.lemmas.Bool.{and_parts, le-leb, leb-true}
use Rattle.std.proofs.lemmas.Option.{same_Some}
use Rattle.sequence_build_laws.specs.declared.Vertex.{Vertex}
use Rattle.sequence_build_laws.specs.Acts.{Act}
use Rattle.sequence_build_laws.specs.Tight.{same_line, reads_from}
use Rattle.sequence_build_laws.specs.Serial.{numbers_where}
use Rattle.sequence_build_laws.proofs.Lists.{tally, from_map, get_before, map_at, number_at, from_numbers, get_take, take_get}
use Rattle.self_timed.specs.Dates.{Event, event, has_reader, in_line, brought, emptied, start_by, AreDates}
use Rattle.self_timed.specs.Entries.{entry_of}
use Rattle.self_timed.proofs.Needs.{greatest_below}
use Rattle.self_timed.proofs.Charted.{greatest-append}
use Rattle.self_timed.proofs.Lined.{greatest_above, across}
use Rattle.self_timed.specs.declared.dates.Span.{Span}
use Rattle.self_timed.specs.declared.layout.Step.{Step}
use Rattle.self_timed.specs.Lines.{line_of, last_in}
use Rattle.self_timed.specs.Running.{Running, end_in, latest_in, start_in}
use Rattle.self_timed.proofs.Laying.{IsStepOf}
use Rattle.syn_base.specs.Numbers.{greatest}

-- of no entries above a bound, and of an entry that is there
latest_below : (row : List Span) (es : List ℕ) (bound : ℕ) → ((r e : ℕ) → slice_get es r ≡ Some e → end_in row e ≤ bound) → latest_in row es ≤ bound
latest_below row [] bound h = omega arith
latest_below row (e ∷ es) bound h = let x = h 0 e refl in let y = latest_below row es bound (λ r d m. h (suc r) d m) in omega arith

latest_above : (row : List Span) (es : List ℕ) (r e : ℕ) → slice_get es r ≡ Some e → end_in row e ≤ latest_in row es
latest_above row [] r e h = absurd cc
latest_above row (d ∷ es) zero e h = let z = ap (end_in row) (same_Some d e h) in omega arith
latest_above row (d ∷ es) (suc r) e h = let z = latest_above row es r e h in omega arith

module _ (depth : ℕ) (vertices : List Vertex) (xs : List Act) (long ends : ℕ → ℕ → ℕ) (are : AreDates depth vertices xs long ends) where
  abbrev of_event : Event → ℕ
  of_event e = ends e.reaction e.act

  -- acts of one line, any number of reactions apart
  pub reactions_apart : (n k i j : ℕ) (x y : Act) → slice_get xs i ≡ Some x → slice_get xs j ≡ Some y → same_line x y ≡ true → ends k j ≤ start_by depth vertices xs ends (suc n + k) i x
  reactions_apart zero k i j x y e h l = let q : suc zero + k ≡ suc k = omega arith in
      let z = across depth vertices xs long ends are k i x e j y h l in let w = ap (λ (m : ℕ). start_by depth vertices xs ends m i x) q in omega arith
  reactions_apart (suc n) k i j x y e h l =
      let up = reactions_apart n k j j y y h h (own x y l) in
      let lasts = are (suc n + k) j y h in
      let z = across depth vertices xs long ends are (suc n + k) i x e j y h l in
      let q : suc (suc n) + k ≡ suc (suc n + k) = omega arith in
      let w = ap (λ (m : ℕ). start_by depth vertices xs ends m i x) q in
      omega arith
    where
      own : (x y : Act) → same_line x y ≡ true → same_line y y ≡ true
      own x y l = Rattle.self_timed.proofs.Lined.same_both x y y l l

  module _ (k i : ℕ) (x : Act) (e : slice_get xs i ≡ Some x) where
    -- what must precede it ends no later than it starts
    above_line : greatest (map of_event (in_line xs k i x)) ≤ start_by depth vertices xs ends k i x
    above_line = let z = greatest-append of_event (in_line xs k i x) (brought vertices xs k i x ++ emptied depth vertices xs k x) in omega arith

    above_brought : (j : ℕ) (y : Act) → j < i → slice_get xs j ≡ Some y → reads_from vertices x y ≡ true → ends k j ≤ start_by depth vertices xs ends k i x
    above_brought j y l h r =
        let at = number_at (reads_from vertices x) 0 (take i xs) j y (take_get xs i j y l h) r in
        let number = map_at (event k) (numbers_where (reads_from vertices x) 0 (take i xs)) (tally (reads_from vertices x) (take j (take i xs))) (0 + j) at in
        let there = get_before (brought vertices xs k i x) (emptied depth vertices xs k x) (tally (reads_from vertices x) (take j (take i xs))) (event k (0 + j)) number in
        let z = greatest_above of_event (brought vertices xs k i x ++ emptied depth vertices xs k x) (tally (reads_from vertices x) (take j (take i xs))) (event k (0 + j)) there in
        let w = greatest-append of_event (in_line xs k i x) (brought vertices xs k i x ++ emptied depth vertices xs k x) in
        let q : 0 + j ≡ j = omega arith in
        let v = ap (ends k) q in
        omega arith

    above_emptied : (j : ℕ) (y : Act) → depth ≤ k → slice_get xs j ≡ Some y → has_reader vertices x y ≡ true → ends (k - depth) j ≤ start_by depth vertices xs ends k i x
    above_emptied j y l h r =
        let at = number_at (has_reader vertices x) 0 xs j y h r in
        let number = map_at (event (k - depth)) (numbers_where (has_reader vertices x) 0 xs) (tally (has_reader vertices x) (take j xs)) (0 + j) at in
        let there : slice_get (emptied depth vertices xs k x) (tally (has_reader vertices x) (take j xs)) ≡ Some (event (k - depth) (0 + j)) =
        ap (λ (b : Bool). slice_get (cond b (map (event (k - depth)) (numbers_where (has_reader vertices x) 0 xs)) []) (tally (has_reader vertices x) (take j xs))) (le-leb depth k l) ∙ number in
        let z = greatest_above of_event (emptied depth vertices xs k x) (tally (has_reader vertices x) (take j xs)) (event (k - depth) (0 + j)) there in
        let v = greatest-append of_event (brought vertices xs k i x) (emptied depth vertices xs k x) in
        let w = greatest-append of_event (in_line xs k i x) (brought vertices xs k i x ++ emptied depth vertices xs k x) in
        let q : 0 + j ≡ j = omega arith in
        let u = ap (ends (k - depth)) q in
        omega arith

    -- it starts no later than a date by which all of it has ended
    starts_below : (bound : ℕ) → greatest (map of_event (in_line xs k i x)) ≤ bound
        → ((j : ℕ) (y : Act) → j < i → slice_get xs j ≡ Some y → reads_from vertices x y ≡ true → ends k j ≤ bound)
        → ((j : ℕ) (y : Act) → depth ≤ k → slice_get xs j ≡ Some y → has_reader vertices x y ≡ true → ends (k - depth) j ≤ bound)
        → start_by depth vertices xs ends k i x ≤ bound
    starts_below bound line before past =
        let p = greatest_below of_event (brought vertices xs k i x) bound each_brought in
        let q = greatest_below of_event (emptied depth vertices xs k x) bound each_emptied in
        let v = greatest-append of_event (brought vertices xs k i x) (emptied depth vertices xs k x) in
        let w = greatest-append of_event (in_line xs k i x) (brought vertices xs k i x ++ emptied depth vertices xs k x) in
        omega arith
      where
        each_brought : (r : ℕ) (d : Event) → slice_get (brought vertices xs k i x) r ≡ Some d → of_event d ≤ bound
        each_brought r d m =
            let f = from_map (event k) (numbers_where (reads_from vertices x) 0 (take i xs)) r d m in
            let n = from_numbers (reads_from vertices x) 0 (take i xs) r f.it f.stands in
            let t = get_take xs i n.at n.it n.stands in
            let is = n.is in
            let z = before n.at n.it t.0 t.1 n.passes in
            let same : f.it ≡ n.at = omega arith in
            let u = ap of_event (sym f.is) in
            let v = ap (ends k) same in
            omega arith

        each_emptied : (r : ℕ) (d : Event) → slice_get (emptied depth vertices xs k x) r ≡ Some d → of_event d ≤ bound
        each_emptied r d m = by (nat_le depth k) refl m
          where
            by : (b : Bool) → nat_le depth k ≡ b → slice_get (cond b (map (event (k - depth)) (numbers_where (has_reader vertices x) 0 xs)) []) r ≡ Some d → of_event d ≤ bound
            by false h m = absurd cc
            by true h m =
                let f = from_map (event (k - depth)) (numbers_where (has_reader vertices x) 0 xs) r d m in
                let n = from_numbers (has_reader vertices x) 0 xs r f.it f.stands in
                let is = n.is in
                let z = past n.at n.it (leb-true depth k h) n.stands n.passes in
                let same : f.it ≡ n.at = omega arith in
                let u = ap of_event (sym f.is) in
                let v = ap (ends (k - depth)) same in
                omega arith

    -- The same of a step, where buffers that are in use have the depth that is counted with.
    module _ (st : Step) (is : IsStepOf vertices xs i x st) (used : ℕ) (deep : 1 ≤ used) (same : (j : ℕ) (y : Act) → slice_get xs j ≡ Some y → has_reader vertices x y ≡ true → used ≡ depth)
        (freed ticks : List ℕ) (r : Running) where
      pub starts : last_in r.ends (line_of x) ≡ greatest (map of_event (in_line xs k i x))
          → ((j : ℕ) (y : Act) → j < i → slice_get xs j ≡ Some y → end_in r.row (entry_of vertices xs j) ≡ ends k j)
          → ((j : ℕ) (y : Act) → used ≤ k → slice_get xs j ≡ Some y → reads_from vertices y x ≡ true → ends (k - used) j ≤ slice_index_or freed (entry_of vertices xs i) 0)
          → ((bound : ℕ) → ((j : ℕ) (y : Act) → used ≤ k → slice_get xs j ≡ Some y → reads_from vertices y x ≡ true → ends (k - used) j
          ≤ bound) → slice_index_or freed (entry_of vertices xs i) 0 ≤ bound)
          → start_in freed ticks st r ≡ start_by depth vertices xs ends k i x
      starts line row above below =
          let down = no_later in
          let up = no_earlier in
          omega arith
        where
          here : last_in r.ends st.line ≡ greatest (map of_event (in_line xs k i x))
          here = ap (last_in r.ends) is.line ∙ line

          entry : slice_index_or freed st.entry 0 ≡ slice_index_or freed (entry_of vertices xs i) 0
          entry = ap (λ (n : ℕ). slice_index_or freed n 0) is.entry

          readers : (j : ℕ) (y : Act) → used ≤ k → slice_get xs j ≡ Some y → reads_from vertices y x ≡ true → ends (k - used) j ≤ start_by depth vertices xs ends k i x
          readers j y l h reads = by (same_line x y) refl
            where
              by : (b : Bool) → same_line x y ≡ b → ends (k - used) j ≤ start_by depth vertices xs ends k i x
              by true q =
                  let z = reactions_apart (used - 1) (k - used) i j x y e h q in
                  let n : suc (used - 1) + (k - used) ≡ k = omega arith in
                  let w = ap (λ (m : ℕ). start_by depth vertices xs ends m i x) n in
                  omega arith
              by false q =
                  let has = both_true (ap not q) reads in
                  let d = same j y h has in
                  let z = above_emptied j y (omega arith) h has in
                  let w = ap (λ (m : ℕ). ends (k - m) j) d in
                  omega arith

          made : (n s : ℕ) → slice_get st.sources n ≡ Some s → end_in r.row s ≤ start_by depth vertices xs ends k i x
          made n s m =
              let f = is.from n s m in
              let z = above_brought f.at f.it f.less f.stands f.reads in
              let w = row f.at f.it f.less f.stands in
              let v = ap (end_in r.row) f.is in
              omega arith

          no_later : start_in freed ticks st r ≤ start_by depth vertices xs ends k i x
          no_later =
              let p = above_line in
              let q = latest_below r.row st.sources (start_by depth vertices xs ends k i x) made in
              let w = below (start_by depth vertices xs ends k i x) readers in
              let h = here in
              let n = entry in
              omega arith

          no_earlier : start_by depth vertices xs ends k i x ≤ start_in freed ticks st r
          no_earlier = starts_below (start_in freed ticks st r)
              (let h = here in omega arith)
              (λ j y l h reads. (let t = is.to j y h reads in let z = latest_above r.row st.sources t.0 (entry_of vertices xs j) t.1 in let w = row j y l h in omega arith))
              (λ j y l h reads.
              (let d = same j y h reads in
              let z = above j y (omega arith) h (and_parts (not (same_line x y)) (reads_from vertices y x) reads).1 in
              let w = ap (λ (m : ℕ). ends (k - m) j) d in
              let n = entry in
              omega arith))
