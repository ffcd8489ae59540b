-- The spans of operations in the dates of a schedule whose entries last as stated are those of their runs, and so are the
-- latencies.
use Rattle.std.proofs.Common.{◌≡◌, ℕ, zero, suc, ◌+◌, ◌<◌, ◌≤◌, ◌-◌, Bool, true, false, List, [], ◌∷◌, ◌++◌, map, length, Option, Some, refl, sym, ap, arith, ◌∙◌, eq-eqb, eqb-true}
use Rattle.std.specs.Prelude.{cond, filter, flat_map, if◌then◌else◌, not, slice_get, slice_index_or}
use Rattle.std.specs.List.{position_or_len, range_with_len}
use Rattle.std.proofs.lemmas.Bool.{false≢true, true≢false}
use Rattle.std.proofs.lemmas.Option.{same_Some, get_or_from_slice_get}
use Rattle.sequence_build_laws.specs.Graph.{Graph}
use Rattle.sequence_build_laws.specs.Archi.{Architecture}
use Rattle.sequence_build_laws.specs.Table.{entry_in}
use Rattle.sequence_build_laws.specs.declared.Schedule.{Schedule}
use Rattle.sequence_build_laws.specs.Acts.{Act, carry, run, acts, runs}
use Rattle.sequence_build_laws.proofs.Lists.{map_at}
use Rattle.sequence_build_laws.proofs.Sequences.{range_there}
use Rattle.sequence_build_laws.proofs.Works.{placed}
use Rattle.self_timed.specs.Dates.{with_act}
use Rattle.self_timed.specs.Entries.{entry_of}
use Rattle.self_timed.proofs.Entered.{is_entry}
use Rattle.self_timed.specs.declared.dates.Span.{Span}
use Rattle.self_timed.specs.Running.{no_span, span, span_in}
use Rattle.self_timed.specs.Told.{IsValidForSome, reaction_at, span_at}
use Rattle.self_timed.specs.Period.{AreStatedDates, stated_end, stated_start}
use Rattle.self_timed.specs.declared.latency.Latency.{Latency}
use Rattle.self_timed.specs.Latency.{is_reached, is_sensor, latencies, latencies_from, latency, ticks_in}
use Rattle.self_timed.specs.StatedLatencies.{act_span, latencies_of_schedule, operation_spans, run_of, stated_spans}
use Rattle.syn_base.specs.Numbers.{greatest}

-- the first element that passes, where one does
module _ {A : Type 0} (p : A → Bool) where
  abbrev PassesAt : List A → ℕ → Type 0
  PassesAt xs n = (y : A) × (slice_get xs n ≡ Some y) × (p y ≡ true)

  later : (y : A) (xs : List A) (n : ℕ) → PassesAt xs n → PassesAt (y ∷ xs) (1 + n)
  later y xs n (z, e, h) = (z, (let one : 1 + n ≡ suc n = omega arith in ap (slice_get (y ∷ xs)) one ∙ e), h)

  first_at : (xs : List A) (i : ℕ) (x : A) → slice_get xs i ≡ Some x → p x ≡ true → PassesAt xs (position_or_len p xs)
  first_at [] i x e h = absurd cc
  first_at (y ∷ xs) zero x e h = by (p y) refl
    where
      by : (b : Bool) → p y ≡ b → PassesAt (y ∷ xs) (cond (not b) (1 + position_or_len p xs) 0)
      by true q = (y, refl, q)
      by false q = absurd (false≢true (sym q ∙ ap p (same_Some y x e) ∙ h))
  first_at (y ∷ xs) (suc i) x e h = by (p y) refl (first_at xs i x e h)
    where
      by : (b : Bool) → p y ≡ b → PassesAt xs (position_or_len p xs) → PassesAt (y ∷ xs) (cond (not b) (1 + position_or_len p xs) 0)
      by true q r = (y, refl, q)
      by false q r = later y xs (position_or_len p xs) r

-- what is the same of each number of a range is the same of all, or of those that pass
chosen_same : {A : Type 0} (f h : ℕ → A) (p : ℕ → Bool) (b n : ℕ) → ((k : ℕ) → b ≤ k → k < b + n → f k ≡ h k) → map f (filter p (range_with_len b n)) ≡ map h (filter p (range_with_len b n))
chosen_same f h p b zero same = refl
chosen_same f h p b (suc n) same = by (p b) (same b (omega arith) (omega arith)) (chosen_same f h p (b + 1) n (λ k l m. same k (omega arith) (omega arith)))
  where
    by : (c : Bool) → f b ≡ h b → map f (filter p (range_with_len (b + 1) n)) ≡ map h (filter p (range_with_len (b + 1) n))
        → map f (cond c (b ∷ filter p (range_with_len (b + 1) n)) (filter p (range_with_len (b + 1) n)))
        ≡ map h (cond c (b ∷ filter p (range_with_len (b + 1) n)) (filter p (range_with_len (b + 1) n)))
    by true d e = λ i. d i ∷ e i
    by false d e = e

flat_same : {A : Type 0} (f h : ℕ → List A) (b n : ℕ) → ((k : ℕ) → b ≤ k → k < b + n → f k ≡ h k) → flat_map f (range_with_len b n) ≡ flat_map h (range_with_len b n)
flat_same f h b zero same = refl
flat_same f h b (suc n) same =
    let here = same b (omega arith) (omega arith) in
    let rest = flat_same f h (b + 1) n (λ k l m. same k (omega arith) (omega arith)) in
    λ i. here i ++ rest i

-- rows that are made by number
rows_same : (f : List Span → ℕ) (make : ℕ → List Span) (rows : List (List Span)) (b : ℕ) → ((k : ℕ) → k < length rows → f (slice_index_or rows k []) ≡ f (make (b + k)))
    → map f rows ≡ map f (map make (range_with_len b (length rows)))
rows_same f make [] b same = refl
rows_same f make (row ∷ rows) b same =
    let none : b + 0 ≡ b = omega arith in
    let here = same 0 (omega arith) ∙ ap (λ (k : ℕ). f (make k)) none in
    let rest = rows_same f make rows (b + 1) (λ k l. same (suc k) (omega arith) ∙ (let on : b + suc k ≡ b + 1 + k = omega arith in ap (λ (m : ℕ). f (make m)) on)) in
    λ i. here i ∷ rest i

module _ (g : Graph) (a : Architecture) (s : Schedule) where
  -- the span of an operation, where they are all listed
  listed : (k v : ℕ) → v < length g.vertices → span_in (operation_spans g a s k) v ≡ act_span g a s k (run_of g a s v)
  listed k v low =
      let none : 0 + v ≡ v = omega arith in
      let made = λ (w : ℕ). act_span g a s k (run_of g a s w) in
      get_or_from_slice_get (operation_spans g a s k) v (made v) no_span
      (map_at made (range_with_len 0 (length g.vertices)) v (0 + v) (range_there 0 (length g.vertices) v low) ∙ ap (λ (w : ℕ). Some (made w)) none)

  module _ (valid : IsValidForSome g a s) (n : ℕ) (rows : List (List Span)) (dated : AreStatedDates g a s n rows) where
    -- the span of an operation is that of its run
    span_is : (k v : ℕ) → k < n → v < length g.vertices → span_at rows k v ≡ act_span g a s k (run_of g a s v)
    span_is k v l low =
        let r = placed g a (entry_in valid.durations) s valid.valid v low in
        let f = first_at (runs v) (acts s) r.0 (run r.1) r.2 (eq-eqb r.1.op v r.3) in
        by f.0 f.1 f.2
      where
        by : (x : Act) → slice_get (acts s) (run_of g a s v) ≡ Some x → runs v x ≡ true → span_at rows k v ≡ act_span g a s k (run_of g a s v)
        by (carry t) e h = absurd (false≢true h)
        by (run d) e h =
            let i = run_of g a s v in
            let is = is_entry g a (entry_in valid.durations) s valid.valid i (run d) e ∙ eqb-true d.op v h in
            ap (span_at rows k) (sym is) ∙ dated.each k i (run d) l e
            ∙ ap (λ (m : ℕ). span m (stated_end g a s k i)) (sym (ap (λ (o : Option Act). with_act o (stated_start g a s k i)) e))

    agree : (k v : ℕ) → k < n → v < length g.vertices → span_in (reaction_at rows k) v ≡ span_in (operation_spans g a s k) v
    agree k v l low = span_is k v l low ∙ sym (listed k v low)

    latency_is : (v w : ℕ) → v < length g.vertices → w < length g.vertices → latency rows v w ≡ latency (stated_spans g a s n) v w
    latency_is v w low high =
        let ticks = ticks_in v w in
        let many = dated.count in
        let same : (k : ℕ) → k < length rows → ticks (slice_index_or rows k []) ≡ ticks (operation_spans g a s (0 + k)) = λ k l.
        let none : k ≡ 0 + k = omega arith in
        let end = agree k w (omega arith) high in
        let start = agree k v (omega arith) low in
        (λ i. (end i).end - (start i).start) ∙ ap (λ (m : ℕ). ticks (operation_spans g a s m)) none
        in
        let all = rows_same ticks (operation_spans g a s) rows 0 same ∙ ap (λ (m : ℕ). map ticks (map (operation_spans g a s) (range_with_len 0 m))) many in
        ap (λ (ts : List ℕ). record { sensor = v; actuator = w; ticks = greatest ts }) all

    from_is : (v : ℕ) → v < length g.vertices → latencies_from g.vertices rows v ≡ latencies_from g.vertices (stated_spans g a s n) v
    from_is v low =
        ap (λ (l : List Latency). if is_sensor g.vertices v then l else [])
        (chosen_same (latency rows v) (latency (stated_spans g a s n) v) (is_reached g.vertices v) 0 (length g.vertices) (λ w l m. latency_is v w low (omega arith)))

    pub latencies_are : latencies g.vertices rows ≡ latencies_of_schedule g a s n
    latencies_are = flat_same (latencies_from g.vertices rows) (latencies_from g.vertices (stated_spans g a s n)) 0 (length g.vertices) (λ v l m. from_is v (omega arith))
