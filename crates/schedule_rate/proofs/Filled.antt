-- The table that is filled from the steps of a schedule's acts is their table of arcs.
use Rattle.std.proofs.Common.{◌≡◌, ℕ, zero, suc, ◌+◌, ◌<◌, ◌≤◌, ◌⊎◌, Bool, true, false, cond, not, ◌&&◌, nat_eq, List, [], ◌∷◌, ◌++◌, length, map, replicate, take, Option, Some, None, refl, sym, ap, ap₂, subst, inl, inr, arith, ◌∙◌, eq-eqb, ne_eqb}
use Rattle.std.specs.Prelude.{slice_get, slice_set, ◌-◌}
use Rattle.std.proofs.lemmas.Bool.{and_parts, cases_eq, true≢false}
use Rattle.std.proofs.lemmas.List.{length-set, get_or-set_same, get_or-set_other, length-replicate, take_all}
use Rattle.std.proofs.lemmas.Option.{same_Some, slice_get_within}
use Rattle.self_timed.specs.declared.Vertex.{Vertex}
use Rattle.self_timed.specs.Acts.{Act, carry, run}
use Rattle.self_timed.specs.Tight.{same_line, reads_from}
use Rattle.self_timed.specs.Serial.{numbers_where}
use Rattle.self_timed.specs.Dates.{Event, has_reader, last_where, latest_of}
use Rattle.self_timed.specs.Entries.{entry_of}
use Rattle.self_timed.specs.declared.layout.Step.{Step}
use Rattle.self_timed.specs.declared.line.Line.{Line}
use Rattle.self_timed.specs.declared.line.Ends.{Ends}
use Rattle.self_timed.specs.Lines.{AreStarted, AreTables, IsLine, last_in, line_of, noted}
use Rattle.self_timed.proofs.Laying.{AreStepsOf, IsStepOf}
use Rattle.self_timed.proofs.Lining.{last_end, last_end_next, noted_line, tables_kept}
use Rattle.self_timed.proofs.Lined.{last_there}
use Rattle.self_timed.proofs.Lists.{Past, from_append, from_map, from_numbers, get_before, get_past, get_some, get_take, map_at, number_at, take_get, tally}
use Rattle.syn_base.specs.Numbers.{greatest}
use Rattle.rates.specs.declared.table.Arc.{Arc}
use Rattle.rates.specs.Arcs.{arc, arcs, latest_arc}
use Rattle.rates.specs.Tables.{IsTableOf, at, row_of}
use Rattle.schedule_rate.specs.Filling.{IsFilled, entered, full_row, is_same_line, is_step_in, lasts, line_arc, readers_at, rows_from, with_reader, with_sources, with_steps}

-- The numbers of acts by entry.
entered_other : (n : ℕ) (sts : List Step) (acts : List ℕ) (e : ℕ) → ((r : ℕ) (st : Step) → slice_get sts r ≡ Some st → st.entry ≡ e → ⊥) → at (entered n sts acts) e ≡ at acts e
entered_other n [] acts e f = refl
entered_other n (st ∷ sts) acts e f = entered_other (n + 1) sts (slice_set acts st.entry n) e (λ r s q z. f (suc r) s q z) ∙ get_or-set_other acts st.entry e n 0 (λ z. f 0 st refl (sym z))

entered_here : (n : ℕ) (sts : List Step) (acts : List ℕ) (i : ℕ) (st : Step) → slice_get sts i ≡ Some st → st.entry < length acts
    → ((r : ℕ) (other : Step) → i < r → slice_get sts r ≡ Some other → other.entry ≡ st.entry → ⊥) → at (entered n sts acts) st.entry ≡ n + i
entered_here n [] acts i st e l f = absurd cc
entered_here n (s ∷ sts) acts zero st e l f =
    let same : s ≡ st = same_Some s st e in
    entered_other (n + 1) sts (slice_set acts s.entry n) st.entry (λ r o q z. f (suc r) o (omega arith) q z)
    ∙ ap (λ (w : Step). at (slice_set acts w.entry n) st.entry) same ∙ get_or-set_same acts st.entry n 0 l ∙ (let z : n ≡ n + 0 = omega arith in z)
entered_here n (s ∷ sts) acts (suc i) st e l f =
    let size = length-set acts s.entry n in
    entered_here (n + 1) sts (slice_set acts s.entry n) i st e (omega arith) (λ r o b q z. f (suc r) o (omega arith) q z) ∙ (let z : n + 1 + i ≡ n + suc i = omega arith in z)

-- The act is among the readers of act i.
abbrev Has : List (List ℕ) → ℕ → ℕ → Type 0
Has readers i h = (q : ℕ) × (slice_get (readers_at readers i) q ≡ Some h)

step_there : (steps : List Step) (m : ℕ) (line : Line) (o : Option Step) → slice_get steps m ≡ o → is_step_in o line ≡ false → m < length steps
step_there steps m line None e h = absurd (true≢false h)
step_there steps m line (Some st) e h = slice_get_within steps m st e

module _ (readers : List (List ℕ)) (i j : ℕ) (l : i < length readers) where
  reader_new : Has (with_reader readers i j) i j
  reader_new = (
    length (readers_at readers i) + 0,
    ap (λ (w : List ℕ). slice_get w (length (readers_at readers i) + 0)) (get_or-set_same readers i (readers_at readers i ++ j ∷ []) [] l) ∙ get_past (readers_at readers i) (j ∷ []) 0,
  )

  reader_kept : (k h : ℕ) → Has readers k h → Has (with_reader readers i j) k h
  reader_kept k h r = elim (cases_eq k i) [
    | inl e ↦ (
      r.0,
      ap (λ (w : List ℕ). slice_get w r.0) (ap (readers_at (with_reader readers i j)) e ∙ get_or-set_same readers i (readers_at readers i ++ j ∷ []) [] l)
          ∙ get_before (readers_at readers i) (j ∷ []) r.0 h (ap (λ (m : ℕ). slice_get (readers_at readers m) r.0) (sym e) ∙ r.1),
    )
    | inr n ↦ (r.0, ap (λ (w : List ℕ). slice_get w r.0) (get_or-set_other readers i k (readers_at readers i ++ j ∷ []) [] n) ∙ r.1)
  ]

  reader_only : (k h : ℕ) → Has (with_reader readers i j) k h → Has readers k h ⊎ ((k ≡ i) × (h ≡ j))
  reader_only k h r = elim (cases_eq k i) [
    | inl e ↦ elim (from_append (readers_at readers i) (j ∷ []) r.0 h (ap (λ (w : List ℕ). slice_get w r.0) (sym (ap (readers_at (with_reader readers i j)) e ∙ get_or-set_same readers i (readers_at readers i ++ j ∷ []) [] l)) ∙ r.1)) [
      | inl b ↦ inl (r.0, ap (λ (m : ℕ). slice_get (readers_at readers m) r.0) e ∙ b)
      | inr b ↦ inr (e, last b.at b.stands)
    ]
    | inr n ↦ inl (r.0, ap (λ (w : List ℕ). slice_get w r.0) (sym (get_or-set_other readers i k (readers_at readers i ++ j ∷ []) [] n)) ∙ r.1)
  ]
    where
      last : (p : ℕ) → slice_get (j ∷ []) p ≡ Some h → h ≡ j
      last zero q = sym (same_Some j h q)
      last (suc p) q = absurd cc

module _ (steps : List Step) (acts : List ℕ) where
  -- an entry of these leads from act i, which is in another line
  pub record Reads (i : ℕ) (line : Line) (es : List ℕ) : Type 0 where
    pub place : ℕ
    pub entry : ℕ
    pub stands : slice_get es place ≡ Some entry
    pub act : at acts entry ≡ i
    pub apart : is_step_in (slice_get steps i) line ≡ false

  module _ (j : ℕ) (line : Line) where
    sources_length : (es : List ℕ) (readers : List (List ℕ)) → length (with_sources steps acts j line es readers) ≡ length readers
    sources_length [] readers = refl
    sources_length (e ∷ es) readers = sources_length es (cond (is_step_in (slice_get steps (at acts e)) line) readers (with_reader readers (at acts e) j)) ∙ by (is_step_in (slice_get steps (at acts e)) line)
      where
        by : (b : Bool) → length (cond b readers (with_reader readers (at acts e) j)) ≡ length readers
        by true = refl
        by false = length-set readers (at acts e) (readers_at readers (at acts e) ++ j ∷ [])

    sources_keep : (es : List ℕ) (readers : List (List ℕ)) → length readers ≡ length steps → (i h : ℕ) → Has readers i h → Has (with_sources steps acts j line es readers) i h
    sources_keep [] readers l i h r = r
    sources_keep (e ∷ es) readers l i h r = by (is_step_in (slice_get steps (at acts e)) line) refl (λ rs q k. sources_keep es rs q i h k)
      where
        by : (b : Bool) → is_step_in (slice_get steps (at acts e)) line ≡ b → ((rs : List (List ℕ)) → length rs ≡ length steps → Has rs i h → Has (with_sources steps acts j line es rs) i h)
            → Has (with_sources steps acts j line es (cond b readers (with_reader readers (at acts e) j))) i h
        by true q again = again readers l r
        by false q again =
            let there = step_there steps (at acts e) line (slice_get steps (at acts e)) refl q in
            again (with_reader readers (at acts e) j) (length-set readers (at acts e) (readers_at readers (at acts e) ++ j ∷ []) ∙ l) (reader_kept readers (at acts e) j (omega arith) i h r)

    sources_add : (es : List ℕ) (readers : List (List ℕ)) → length readers ≡ length steps → (i p e : ℕ) → slice_get es p ≡ Some e → at acts e ≡ i → is_step_in (slice_get steps i) line ≡ false
        → Has (with_sources steps acts j line es readers) i j
    sources_add [] readers l i p e s a f = absurd cc
    sources_add (d ∷ es) readers l i zero e s a f = by (is_step_in (slice_get steps (at acts d)) line) refl
      where
        same : at acts d ≡ i
        same = ap (at acts) (same_Some d e s) ∙ a

        by : (b : Bool) → is_step_in (slice_get steps (at acts d)) line ≡ b → Has (with_sources steps acts j line es (cond b readers (with_reader readers (at acts d) j))) i j
        by true q = absurd (true≢false (sym q ∙ ap (λ (m : ℕ). is_step_in (slice_get steps m) line) same ∙ f))
        by false q =
            let there = step_there steps (at acts d) line (slice_get steps (at acts d)) refl q in
            sources_keep es (with_reader readers (at acts d) j) (length-set readers (at acts d) (readers_at readers (at acts d) ++ j ∷ []) ∙ l) i j
            (subst (λ (m : ℕ). Has (with_reader readers (at acts d) j) m j) same (reader_new readers (at acts d) j (omega arith)))
    sources_add (d ∷ es) readers l i (suc p) e s a f = by (is_step_in (slice_get steps (at acts d)) line) refl (λ rs q. sources_add es rs q i p e s a f)
      where
        by : (b : Bool) → is_step_in (slice_get steps (at acts d)) line ≡ b → ((rs : List (List ℕ)) → length rs ≡ length steps → Has (with_sources steps acts j line es rs) i j)
            → Has (with_sources steps acts j line es (cond b readers (with_reader readers (at acts d) j))) i j
        by true q again = again readers l
        by false q again = again (with_reader readers (at acts d) j) (length-set readers (at acts d) (readers_at readers (at acts d) ++ j ∷ []) ∙ l)

    sources_only : (es : List ℕ) (readers : List (List ℕ)) → length readers ≡ length steps → (i h : ℕ) → Has (with_sources steps acts j line es readers) i h
        → Has readers i h ⊎ ((h ≡ j) × Reads i line es)
    sources_only [] readers l i h r = inl r
    sources_only (d ∷ es) readers l i h r = by (is_step_in (slice_get steps (at acts d)) line) refl r (λ rs q k. sources_only es rs q i h k)
      where
        later : Reads i line es → Reads i line (d ∷ es)
        later w = record { place = suc w.place; entry = w.entry; stands = w.stands; act = w.act; apart = w.apart }

        by : (b : Bool) → is_step_in (slice_get steps (at acts d)) line ≡ b → Has (with_sources steps acts j line es (cond b readers (with_reader readers (at acts d) j))) i h
            → ((rs : List (List ℕ)) → length rs ≡ length steps → Has (with_sources steps acts j line es rs) i h → Has rs i h ⊎ ((h ≡ j) × Reads i line es))
            → Has readers i h ⊎ ((h ≡ j) × Reads i line (d ∷ es))
        by true q r again = elim (again readers l r) [
          | inl b ↦ inl b
          | inr b ↦ inr (b.0, later b.1)
        ]
        by false q r again = elim (again (with_reader readers (at acts d) j) (length-set readers (at acts d) (readers_at readers (at acts d) ++ j ∷ []) ∙ l) r) [
          | inl b ↦ elim (reader_only readers (at acts d) j (let there = step_there steps (at acts d) line (slice_get steps (at acts d)) refl q in omega arith) i h b) [
            | inl c ↦ inl c
            | inr c ↦ inr (c.1, record { place = 0; entry = d; stands = refl; act = sym c.0; apart = ap (λ (m : ℕ). is_step_in (slice_get steps m) line) c.0 ∙ q })
          ]
          | inr b ↦ inr (b.0, later b.1)
        ]

  steps_length : (n : ℕ) (sts : List Step) (readers : List (List ℕ)) → length (with_steps steps acts n sts readers) ≡ length readers
  steps_length n [] readers = refl
  steps_length n (st ∷ sts) readers = steps_length (n + 1) sts (with_sources steps acts n st.line st.sources readers) ∙ sources_length n st.line st.sources readers

  steps_keep : (n : ℕ) (sts : List Step) (readers : List (List ℕ)) → length readers ≡ length steps → (i h : ℕ) → Has readers i h → Has (with_steps steps acts n sts readers) i h
  steps_keep n [] readers l i h r = r
  steps_keep n (st ∷ sts) readers l i h r =
      steps_keep (n + 1) sts (with_sources steps acts n st.line st.sources readers) (sources_length n st.line st.sources readers ∙ l) i h (sources_keep n st.line st.sources readers l i h r)

  steps_add : (n : ℕ) (sts : List Step) (readers : List (List ℕ)) → length readers ≡ length steps → (i r : ℕ) (st : Step) → slice_get sts r ≡ Some st → Reads i st.line st.sources
      → Has (with_steps steps acts n sts readers) i (n + r)
  steps_add n [] readers l i r st e w = absurd cc
  steps_add n (s ∷ sts) readers l i zero st e w =
      let same : s ≡ st = same_Some s st e in
      let v : Reads i s.line s.sources = subst (λ (z : Step). Reads i z.line z.sources) (sym same) w in
      let q : n ≡ n + 0 = omega arith in
      subst (λ (h : ℕ). Has (with_steps steps acts (n + 1) sts (with_sources steps acts n s.line s.sources readers)) i h) q
      (steps_keep (n + 1) sts (with_sources steps acts n s.line s.sources readers) (sources_length n s.line s.sources readers ∙ l) i n
      (sources_add n s.line s.sources readers l i v.place v.entry v.stands v.act v.apart))
  steps_add n (s ∷ sts) readers l i (suc r) st e w =
      let q : n + 1 + r ≡ n + suc r = omega arith in
      subst (λ (h : ℕ). Has (with_steps steps acts (n + 1) sts (with_sources steps acts n s.line s.sources readers)) i h) q
      (steps_add (n + 1) sts (with_sources steps acts n s.line s.sources readers) (sources_length n s.line s.sources readers ∙ l) i r st e w)

  -- one of these steps reads from act i
  pub record StepReads (n : ℕ) (sts : List Step) (i h : ℕ) : Type 0 where
    pub place : ℕ
    pub it : Step
    pub stands : slice_get sts place ≡ Some it
    pub is : h ≡ n + place
    pub reads : Reads i it.line it.sources

  steps_only : (n : ℕ) (sts : List Step) (readers : List (List ℕ)) → length readers ≡ length steps → (i h : ℕ) → Has (with_steps steps acts n sts readers) i h → Has readers i h ⊎ StepReads n sts i h
  steps_only n [] readers l i h r = inl r
  steps_only n (s ∷ sts) readers l i h r = elim (steps_only (n + 1) sts (with_sources steps acts n s.line s.sources readers) (sources_length n s.line s.sources readers ∙ l) i h r) [
    | inl b ↦ elim (sources_only n s.line s.sources readers l i h b) [
      | inl c ↦ inl c
      | inr c ↦ inr (record { place = 0; it = s; stands = refl; is = (let z = c.0 in omega arith); reads = c.1 })
    ]
    | inr b ↦ inr (record { place = suc b.place; it = b.it; stands = b.stands; is = (let z = b.is in omega arith); reads = b.reads })
  ]

no_readers : (n i q h : ℕ) → slice_get (readers_at (replicate n []) i) q ≡ Some h → ⊥
no_readers zero i q h e = absurd cc
no_readers (suc n) zero q h e = absurd cc
no_readers (suc n) (suc i) q h e = no_readers n i q h e

lines_same : (x y : Act) → is_same_line (line_of x) (line_of y) ≡ same_line x y
lines_same (run d) (run b) = refl
lines_same (run d) (carry t) = refl
lines_same (carry t) (run d) = refl
lines_same (carry t) (carry u) = refl

same_as_itself : (x : Act) → same_line x x ≡ true
same_as_itself (run d) = eq-eqb d.operator d.operator refl
same_as_itself (carry t) = eq-eqb t.medium t.medium refl

-- The acts xs, and their steps.
module _ (depth : ℕ) (vertices : List Vertex) (xs : List Act) (entries : ℕ) (steps : List Step) (laid : AreStepsOf vertices xs steps)
    (apart : (i j : ℕ) (x y : Act) → slice_get xs i ≡ Some x → slice_get xs j ≡ Some y → entry_of vertices xs i ≡ entry_of vertices xs j → i ≡ j)
    (low : (i : ℕ) (x : Act) → slice_get xs i ≡ Some x → entry_of vertices xs i < entries)
    (lined : (i : ℕ) (x : Act) → slice_get xs i ≡ Some x → IsLine (line_of x)) where
  -- the step of an act, and the act of a step
  step_of : (i : ℕ) (x : Act) (st : Step) → slice_get xs i ≡ Some x → slice_get steps i ≡ Some st → IsStepOf vertices xs i x st
  step_of i x st e q = let f = laid.each i x e in subst (λ (w : Step). IsStepOf vertices xs i x w) (same_Some f.0 st (sym f.1 ∙ q)) f.2

  act_of : (i : ℕ) (st : Step) → slice_get steps i ≡ Some st → (x : Act) × (slice_get xs i ≡ Some x)
  act_of i st e = let within = slice_get_within steps i st e in let count = laid.count in get_some xs i (omega arith)

  act_is : (i : ℕ) (x : Act) → slice_get xs i ≡ Some x → at (entered 0 steps (replicate entries 0)) (entry_of vertices xs i) ≡ i
  act_is i x e =
      let f = laid.each i x e in
      let entry = f.2.entry in
      let size = length-replicate {A = ℕ} entries 0 in
      let less = low i x e in
      ap (at (entered 0 steps (replicate entries 0))) (sym entry) ∙ entered_here 0 steps (replicate entries 0) i f.0 f.1 (omega arith) others ∙ (let z : 0 + i ≡ i = omega arith in z)
    where
      others : (r : ℕ) (other : Step) → i < r → slice_get steps r ≡ Some other → other.entry ≡ (laid.each i x e).0.entry → ⊥
      others r other l q same =
          let y = act_of r other q in
          let one = (step_of r y.0 other y.1 q).entry in
          let two = (laid.each i x e).2.entry in
          let z = apart r i y.0 x y.1 e (sym one ∙ same ∙ two) in
          omega arith

  -- The number of the last act before act n in the line of z, plus 1, and 0 if there is none.
  abbrev coded : ℕ → Act → ℕ
  coded n z = last_end xs (λ k h. suc h) 0 n z

  record Knows (n : ℕ) (ends : Ends) : Type 0 where
    tables : AreTables ends
    each : (z : Act) → last_in ends (line_of z) ≡ coded n z

  knows_none : (ends : Ends) → AreStarted ends → Knows 0 ends
  knows_none ends s = record { tables = s.tables; each = λ z. s.none (line_of z) }

  knows_more : (n : ℕ) (ends : Ends) (st : Step) → slice_get steps n ≡ Some st → Knows n ends → Knows (n + 1) (noted ends st.line (n + 1))
  knows_more n ends st e k = by (act_of n st e)
    where
      by : (x : Act) × (slice_get xs n ≡ Some x) → Knows (n + 1) (noted ends st.line (n + 1))
      by x =
          let is = (step_of n x.0 st x.1 e).line in
          subst (λ (w : Line). Knows (n + 1) (noted ends w (n + 1))) (sym is) (record {
            tables = tables_kept ends (line_of x.0) (n + 1) k.tables;
            each = λ z.
                noted_line ends k.tables z x.0 (lined n x.0 x.1) (n + 1)
                ∙ ap₂ (λ (a b : ℕ). cond (same_line z x.0) a b) (let q : n + 1 ≡ suc n = omega arith in q) (k.each z)
                ∙ sym (last_end_next xs (λ k h. suc h) 0 n x.0 z x.1)
                ∙ ap (λ (m : ℕ). coded m z) (let q : suc n ≡ n + 1 = omega arith in q);
          })

  -- these steps are those from act n on
  abbrev AreFrom : ℕ → List Step → Type 0
  AreFrom n sts = (r : ℕ) (st : Step) → slice_get sts r ≡ Some st → slice_get steps (n + r) ≡ Some st

  first_of : (n : ℕ) (s : Step) (sts : List Step) → AreFrom n (s ∷ sts) → slice_get steps n ≡ Some s
  first_of n s sts f = ap (slice_get steps) (let q : n ≡ n + 0 = omega arith in q) ∙ f 0 s refl

  rest_of : (n : ℕ) (s : Step) (sts : List Step) → AreFrom n (s ∷ sts) → AreFrom (n + 1) sts
  rest_of n s sts f r st e = ap (slice_get steps) (let q : n + 1 + r ≡ n + suc r = omega arith in q) ∙ f (suc r) st e

  lasts_know : (n : ℕ) (sts : List Step) (ends : Ends) → AreFrom n sts → Knows n ends → Knows (n + length sts) (lasts ends n sts)
  lasts_know n [] ends f k = subst (λ (m : ℕ). Knows m ends) (let q : n ≡ n + 0 = omega arith in q) k
  lasts_know n (s ∷ sts) ends f k =
      subst (λ (m : ℕ). Knows m (lasts (noted ends s.line (n + 1)) (n + 1) sts)) (let q : n + 1 + length sts ≡ n + suc (length sts) = omega arith in q)
      (lasts_know (n + 1) sts (noted ends s.line (n + 1)) (rest_of n s sts f) (knows_more n ends s (first_of n s sts f) k))

  module _ (acts : List ℕ) (readers : List (List ℕ)) (last : Ends) where
    rows_length : (n : ℕ) (sts : List Step) (before : Ends) → length (rows_from depth acts readers last before n sts) ≡ length sts
    rows_length n [] before = refl
    rows_length n (s ∷ sts) before = let z = rows_length (n + 1) sts (noted before s.line (n + 1)) in omega arith

    -- the row of a step, with the last acts before it
    record RowAt (i : ℕ) (st : Step) (row : List Arc) : Type 0 where
      before : Ends
      knows : Knows i before
      is : row ≡ full_row depth acts (line_arc before last st.line) st.sources (readers_at readers i)

    rows_at : (n : ℕ) (sts : List Step) (before : Ends) → AreFrom n sts → Knows n before → (r : ℕ) (st : Step) → slice_get sts r ≡ Some st → RowAt (n + r) st (row_of (rows_from depth acts readers last before n sts) r)
    rows_at n [] before f k r st e = absurd cc
    rows_at n (s ∷ sts) before f k zero st e =
        let same : s ≡ st = same_Some s st e in
        let q : n ≡ n + 0 = omega arith in
        subst (λ (m : ℕ). RowAt m st (full_row depth acts (line_arc before last s.line) s.sources (readers_at readers n))) q (record {
          before = before;
          knows = k;
          is = ap (λ (w : Step). full_row depth acts (line_arc before last w.line) w.sources (readers_at readers n)) same;
        })
    rows_at n (s ∷ sts) before f k (suc r) st e =
        let q : n + 1 + r ≡ n + suc r = omega arith in
        subst (λ (m : ℕ). RowAt m st (row_of (rows_from depth acts readers last (noted before s.line (n + 1)) (n + 1) sts) r)) q
        (rows_at (n + 1) sts (noted before s.line (n + 1)) (rest_of n s sts f) (knows_more n before s (first_of n s sts f) k) r st e)

  -- the arc of the line is that of the definition
  line_arc_is : (i : ℕ) (x : Act) (before last : Ends) → slice_get xs i ≡ Some x → Knows i before → Knows (length xs) last
      → line_arc before last (line_of x) ∷ [] ≡ latest_arc (last_where (same_line x) 0 (take i xs)) (last_where (same_line x) 0 xs)
  line_arc_is i x before last e k m =
      ap₂ (λ (b l : ℕ). cond (nat_eq b 0) (arc 1 (l - 1)) (arc 0 (b - 1)) ∷ []) (k.each x) (m.each x)
      ∙ by (last_where (same_line x) 0 (take i xs)) refl (last_there (same_line x) 0 xs i x e (same_as_itself x))
    where
      all : coded (length xs) x ≡ greatest (map (λ (v : Event). suc v.act) (latest_of 0 (last_where (same_line x) 0 xs) (last_where (same_line x) 0 xs)))
      all = ap (λ (ys : List Act). greatest (map (λ (v : Event). suc v.act) (latest_of 0 (last_where (same_line x) 0 ys) (last_where (same_line x) 0 xs)))) (take_all (length xs) xs (omega arith))

      by : (o : Option ℕ) → last_where (same_line x) 0 (take i xs) ≡ o → (q : ℕ) × (last_where (same_line x) 0 xs ≡ Some q) × (0 + i ≤ q)
          → cond (nat_eq (coded i x) 0) (arc 1 (coded (length xs) x - 1)) (arc 0 (coded i x - 1)) ∷ [] ≡ latest_arc (last_where (same_line x) 0 (take i xs)) (last_where (same_line x) 0 xs)
      by (Some b) h q =
          let here : coded i x ≡ suc b = ap (λ (o : Option ℕ). greatest (map (λ (v : Event). suc v.act) (latest_of 0 o (last_where (same_line x) 0 xs)))) h ∙ (let z : greatest (suc b ∷ []) ≡ suc b = omega arith in z) in
          let back : suc b - 1 ≡ b = omega arith in
          ap (λ (c : ℕ). cond (nat_eq c 0) (arc 1 (coded (length xs) x - 1)) (arc 0 (c - 1)) ∷ []) here
          ∙ ap (λ (t : Bool). cond t (arc 1 (coded (length xs) x - 1)) (arc 0 (suc b - 1)) ∷ []) (ne_eqb (suc b) 0 (λ z. absurd (omega arith))) ∙ ap (λ (c : ℕ). arc 0 c ∷ []) back ∙ ap (λ (o : Option ℕ). latest_arc o (last_where (same_line x) 0 xs)) (sym h)
      by None h q =
          let here : coded i x ≡ 0 = ap (λ (o : Option ℕ). greatest (map (λ (v : Event). suc v.act) (latest_of 0 o (last_where (same_line x) 0 xs)))) h in
          let there : coded (length xs) x ≡ suc q.0 = all ∙ ap (λ (o : Option ℕ). greatest (map (λ (v : Event). suc v.act) (latest_of 0 o o))) q.1 ∙ (let z : greatest (suc q.0 ∷ []) ≡ suc q.0 = omega arith in z) in
          let back : suc q.0 - 1 ≡ q.0 = omega arith in
          ap (λ (c : ℕ). cond (nat_eq c 0) (arc 1 (coded (length xs) x - 1)) (arc 0 (c - 1)) ∷ []) here ∙ ap (λ (c : ℕ). arc 1 (c - 1) ∷ []) there ∙ ap (λ (c : ℕ). arc 1 c ∷ []) back
          ∙ ap₂ latest_arc (sym h) (sym q.1)

  module _ (table : List (List Arc)) (f : IsFilled depth entries steps table) where
    abbrev readers : List (List ℕ)
    readers = with_steps steps f.acts 0 steps (replicate (length steps) [])

    act_at : (i : ℕ) (x : Act) → slice_get xs i ≡ Some x → at f.acts (entry_of vertices xs i) ≡ i
    act_at i x e = ap (λ (w : List ℕ). at w (entry_of vertices xs i)) f.acts_are ∙ act_is i x e

    all_from : AreFrom 0 steps
    all_from r st e = ap (slice_get steps) (let q : 0 + r ≡ r = omega arith in q) ∙ e

    size : length (replicate {A = List ℕ} (length steps) []) ≡ length steps
    size = length-replicate {A = List ℕ} (length steps) []

    last_knows : Knows (length xs) f.last
    last_knows =
        let last = f.last_are in
        subst (λ (w : Ends). Knows (length xs) w) (sym last.is)
        (subst (λ (m : ℕ). Knows m (lasts last.first 0 steps)) (let c = laid.count in let q : 0 + length steps ≡ length xs = omega arith in q) (lasts_know 0 steps last.first all_from (knows_none last.first last.started)))

    -- the row of an act: the arcs of the definition, with what it reads and its readers in the code's order
    row_is : (i : ℕ) (x : Act) (st : Step) → slice_get xs i ≡ Some x → slice_get steps i ≡ Some st
        → row_of table i ≡ latest_arc (last_where (same_line x) 0 (take i xs)) (last_where (same_line x) 0 xs) ++ (map (λ e. arc 0 (at f.acts e)) st.sources ++ map (λ j. arc depth j) (readers_at readers i))
    row_is i x st e q =
        let r = rows_at f.acts readers f.last 0 steps f.before all_from (knows_none f.before f.before_started) i st q in
        let zero_add : 0 + i ≡ i = omega arith in
        let k = subst (λ (m : ℕ). Knows m r.before) zero_add r.knows in
        let line = (step_of i x st e q).line in
        ap (λ (w : List (List Arc)). row_of w i) f.rows ∙ r.is
        ∙ ap₂ (λ (l : Line) (m : ℕ). full_row depth f.acts (line_arc r.before f.last l) st.sources (readers_at readers m)) line zero_add
        ∙ ap (λ (w : List Arc). w ++ (map (λ e. arc 0 (at f.acts e)) st.sources ++ map (λ j. arc depth j) (readers_at readers i))) (line_arc_is i x r.before f.last e k last_knows)

    -- act j reads from act i, in another line
    reads_is : (i j : ℕ) (x y : Act) (sti stj : Step) → slice_get xs i ≡ Some x → slice_get xs j ≡ Some y → slice_get steps i ≡ Some sti → slice_get steps j ≡ Some stj
        → has_reader vertices x y ≡ true → Reads steps f.acts i stj.line stj.sources
    reads_is i j x y sti stj e h p q r =
        let parts = and_parts (not (same_line x y)) (reads_from vertices y x) r in
        let to = (step_of j y stj h q).to i x e parts.1 in
        record {
          place = to.0;
          entry = entry_of vertices xs i;
          stands = to.1;
          act = act_at i x e;
          apart = ap (λ (o : Option Step). is_step_in o stj.line) p ∙ lines ∙ not_false (same_line x y) parts.0;
        }
      where
        not_false : (b : Bool) → not b ≡ true → b ≡ false
        not_false false n = refl
        not_false true n = absurd (true≢false (sym n))

        lines : is_same_line sti.line stj.line ≡ same_line x y
        lines = ap₂ is_same_line (step_of i x sti e p).line (step_of j y stj h q).line ∙ lines_same x y

    reader_is : (i j : ℕ) (x y : Act) (sti stj : Step) → slice_get xs i ≡ Some x → slice_get xs j ≡ Some y → slice_get steps i ≡ Some sti → slice_get steps j ≡ Some stj
        → Reads steps f.acts i stj.line stj.sources → has_reader vertices x y ≡ true
    reader_is i j x y sti stj e h p q r =
        let from = (step_of j y stj h q).from r.place r.entry r.stands in
        let same : from.at ≡ i = sym (act_at from.at from.it from.stands) ∙ ap (at f.acts) (sym from.is) ∙ r.act in
        let it : from.it ≡ x = same_Some from.it x (sym from.stands ∙ ap (slice_get xs) same ∙ e) in
        let apart : same_line x y ≡ false = sym lines ∙ ap (λ (o : Option Step). is_step_in o stj.line) (sym p) ∙ r.apart in
        ap (λ (b : Bool). not b && reads_from vertices y x) apart ∙ (ap (reads_from vertices y) (sym it) ∙ from.reads)
      where
        lines : is_same_line sti.line stj.line ≡ same_line x y
        lines = ap₂ is_same_line (step_of i x sti e p).line (step_of j y stj h q).line ∙ lines_same x y

    pub is_table : IsTableOf depth vertices xs table
    is_table = record {
      count = ap (λ (w : List (List Arc)). length w) f.rows ∙ rows_length f.acts readers f.last 0 steps f.before ∙ laid.count;
      listed = λ i x e r a q. (let s = laid.each i x e in listed i x s.0 e s.1 r a q);
      only = λ i x e r a q. (let s = laid.each i x e in only i x s.0 e s.1 r a q);
    }
      where
        listed : (i : ℕ) (x : Act) (st : Step) → slice_get xs i ≡ Some x → slice_get steps i ≡ Some st → (r : ℕ) (a : Arc) → slice_get (arcs depth vertices xs i x) r ≡ Some a → (q : ℕ) × (slice_get (row_of table i) q ≡ Some a)
        listed i x st e s r a h = by (from_append line (map (arc 0) makers ++ map (arc depth) users) r a h)
          where
            line : List Arc
            line = latest_arc (last_where (same_line x) 0 (take i xs)) (last_where (same_line x) 0 xs)

            makers : List ℕ
            makers = numbers_where (reads_from vertices x) 0 (take i xs)

            users : List ℕ
            users = numbers_where (has_reader vertices x) 0 xs

            first : List Arc
            first = map (λ e. arc 0 (at f.acts e)) st.sources

            second : List Arc
            second = map (λ j. arc depth j) (readers_at readers i)

            row : (q : ℕ) → slice_get (line ++ (first ++ second)) q ≡ Some a → (q : ℕ) × (slice_get (row_of table i) q ≡ Some a)
            row q z = (q, ap (λ (w : List Arc). slice_get w q) (row_is i x st e s) ∙ z)

            of_makers : (k : ℕ) → slice_get (map (arc 0) makers) k ≡ Some a → (q : ℕ) × (slice_get (row_of table i) q ≡ Some a)
            of_makers k z =
                let m = from_map (arc 0) makers k a z in
                let n = from_numbers (reads_from vertices x) 0 (take i xs) k m.it m.stands in
                let t = get_take xs i n.at n.it n.stands in
                let to = (step_of i x st e s).to n.at n.it t.1 n.passes in
                let same : at f.acts (entry_of vertices xs n.at) ≡ m.it = act_at n.at n.it t.1 ∙ (let w = n.is in let v : n.at ≡ m.it = omega arith in v) in
                let there : slice_get first to.0 ≡ Some a = map_at (λ e. arc 0 (at f.acts e)) st.sources to.0 (entry_of vertices xs n.at) to.1 ∙ ap (λ (b : ℕ). Some (arc 0 b)) same ∙ ap (λ (b : Arc). Some b) m.is in
                row (length line + to.0) (get_past line (first ++ second) to.0 ∙ get_before first second to.0 a there)

            of_users : (k : ℕ) → slice_get (map (arc depth) users) k ≡ Some a → (q : ℕ) × (slice_get (row_of table i) q ≡ Some a)
            of_users k z =
                let m = from_map (arc depth) users k a z in
                let n = from_numbers (has_reader vertices x) 0 xs k m.it m.stands in
                let stj = laid.each n.at n.it n.stands in
                let has = steps_add steps f.acts 0 steps (replicate (length steps) []) size i n.at stj.0 stj.1 (reads_is i n.at x n.it st stj.0 e n.stands s stj.1 n.passes) in
                let same : 0 + n.at ≡ m.it = (let w = n.is in omega arith) in
                let there : slice_get second has.0 ≡ Some a = map_at (λ j. arc depth j) (readers_at readers i) has.0 (0 + n.at) has.1 ∙ ap (λ (b : ℕ). Some (arc depth b)) same ∙ ap (λ (b : Arc). Some b) m.is in
                row (length line + (length first + has.0)) (get_past line (first ++ second) (length first + has.0) ∙ get_past first second has.0 ∙ there)

            by : (slice_get line r ≡ Some a) ⊎ Past line (map (arc 0) makers ++ map (arc depth) users) r a → (q : ℕ) × (slice_get (row_of table i) q ≡ Some a)
            by (inl z) = row r (get_before line (first ++ second) r a z)
            by (inr z) = elim (from_append (map (arc 0) makers) (map (arc depth) users) z.at a z.stands) [
              | inl w ↦ of_makers z.at w
              | inr w ↦ of_users w.at w.stands
            ]

        only : (i : ℕ) (x : Act) (st : Step) → slice_get xs i ≡ Some x → slice_get steps i ≡ Some st → (r : ℕ) (a : Arc) → slice_get (row_of table i) r ≡ Some a → (q : ℕ) × (slice_get (arcs depth vertices xs i x) q ≡ Some a)
        only i x st e s r a h = by (from_append line (first ++ second) r a (ap (λ (w : List Arc). slice_get w r) (sym (row_is i x st e s)) ∙ h))
          where
            line : List Arc
            line = latest_arc (last_where (same_line x) 0 (take i xs)) (last_where (same_line x) 0 xs)

            makers : List ℕ
            makers = numbers_where (reads_from vertices x) 0 (take i xs)

            users : List ℕ
            users = numbers_where (has_reader vertices x) 0 xs

            first : List Arc
            first = map (λ e. arc 0 (at f.acts e)) st.sources

            second : List Arc
            second = map (λ j. arc depth j) (readers_at readers i)

            of_first : (k : ℕ) → slice_get first k ≡ Some a → (q : ℕ) × (slice_get (arcs depth vertices xs i x) q ≡ Some a)
            of_first k z =
                let m = from_map (λ e. arc 0 (at f.acts e)) st.sources k a z in
                let from = (step_of i x st e s).from k m.it m.stands in
                let number = number_at (reads_from vertices x) 0 (take i xs) from.at from.it (take_get xs i from.at from.it from.less from.stands) from.reads in
                let place : ℕ = tally (reads_from vertices x) (take from.at (take i xs)) in
                let same : 0 + from.at ≡ at f.acts m.it = (let v = act_at from.at from.it from.stands in let w = ap (at f.acts) from.is in omega arith) in
                let there : slice_get (map (arc 0) makers) place ≡ Some a = map_at (arc 0) makers place (0 + from.at) number ∙ ap (λ (b : ℕ). Some (arc 0 b)) same ∙ ap (λ (b : Arc). Some b) m.is in
                (length line + place, get_past line (map (arc 0) makers ++ map (arc depth) users) place ∙ get_before (map (arc 0) makers) (map (arc depth) users) place a there)

            of_second : (k : ℕ) → slice_get second k ≡ Some a → (q : ℕ) × (slice_get (arcs depth vertices xs i x) q ≡ Some a)
            of_second k z =
                let m = from_map (λ j. arc depth j) (readers_at readers i) k a z in
                elim (steps_only steps f.acts 0 steps (replicate (length steps) []) size i m.it (k, m.stands)) [
                  | inl none ↦ absurd (no_readers (length steps) i none.0 m.it none.1)
                  | inr w ↦ (
                      let y = act_of w.place w.it w.stands in
                      let reader = reader_is i w.place x y.0 st w.it e y.1 s w.stands w.reads in
                      let number = number_at (has_reader vertices x) 0 xs w.place y.0 y.1 reader in
                      let place : ℕ = tally (has_reader vertices x) (take w.place xs) in
                      let same : 0 + w.place ≡ m.it = (let v = w.is in omega arith) in
                      let there : slice_get (map (arc depth) users) place ≡ Some a = map_at (arc depth) users place (0 + w.place) number ∙ ap (λ (b : ℕ). Some (arc depth b)) same ∙ ap (λ (b : Arc). Some b) m.is in
                      (length line + (length (map (arc 0) makers) + place), get_past line (map (arc 0) makers ++ map (arc depth) users) (length (map (arc 0) makers) + place) ∙ get_past (map (arc 0) makers) (map (arc depth) users) place ∙ there))
                ]

            by : (slice_get line r ≡ Some a) ⊎ Past line (first ++ second) r a → (q : ℕ) × (slice_get (arcs depth vertices xs i x) q ≡ Some a)
            by (inl z) = (r, get_before line (map (arc 0) makers ++ map (arc depth) users) r a z)
            by (inr z) = elim (from_append first second z.at a z.stands) [
              | inl w ↦ of_first z.at w
              | inr w ↦ of_second w.at w.stands
            ]
