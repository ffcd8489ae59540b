-- The windows that are left, one after another.
use Rattle.std.proofs.Common.{◌≡◌, ℕ, zero, suc, ◌+◌, ◌-◌, ◌<◌, ◌≤◌, List, [], ◌∷◌, map, length, refl, sym, ap, ◌∙◌, arith, add-one, zero-add, ◌++◌, length-append}
use Rattle.compiler.specs.Executions.{Execution, acts_of, one_job}
use Rattle.std.specs.Prelude.{slice_index_or}
use Rattle.std.specs.List.{range_with_len}
use Rattle.std.proofs.lemmas.List.{map-append}
use Rattle.std.proofs.lemmas.List.FromFn.{length-map-range_with_len, map-range_with_len_more}
use Rattle.algo_tree.specs.declared.Source.{Source}
use Rattle.algo_tree.specs.Level.{level_value}
use Rattle.algo_tree.specs.Tree.{Kind, sensor, actuator, constant, delay, function, explode, implode, merge, graph, switch, repeat, Label, Vertex, vertex, Vertices, no_vertices, and_vertex}
use Rattle.algo_tree.specs.Ends.{actuator_length, actuator_lengths_in, actuator_lengths}
use Rattle.algo_tree.specs.Meaning.{act_row, actuator_value, actuator_values, inside, past}
use Rattle.algo_tree.specs.Typed.{outs_of, source_length}
use Rattle.word_rule.specs.Job.{JobData, reactions}
use Rattle.word_rule.specs.Ended.{all_acts}
use Rattle.word_rule.specs.Windows.{window}
use Rattle.self_timed.specs.Meaning.{flat_act_row, initial_cells}
use Rattle.run_laws.specs.Windows.{windows_in, reactions_from, starts, window_text, window_jobs}
use Rattle.top_plans.specs.FlatOf.{flat_of}
use Rattle.top_plans.specs.Flat.{HasFlat}
use Rattle.top_plans.specs.ActNames.{actuator_names}
use Rattle.top_plans.specs.ActText.{text_from}
use Rattle.top_plans.specs.Given.{window_stages}
use Rattle.job_windows.specs.Windowed.{WindowsData, first_of}
use Rattle.syndex_program.specs.Sums.{AreFew}
use Rattle.syndex_program.specs.Left.{starts_left, jobs_left, job_from, stage_from, stages_left}
use Rattle.syn_base.specs.Vectors.{Vector, Values}
use Rattle.syn_base.specs.Numbers.{numbers_below}

-- the window after this one
abbrev pub after_next : WindowsData → WindowsData
after_next w = record w { next = w.next + 1 }

pub one_more : {X : Type 0} (f : ℕ → X) (w : WindowsData) → first_of w.next < reactions w.job → map f (starts_left w) ≡ f (first_of w.next) ∷ map f (starts_left (after_next w))
one_more f w l =
    let n = windows_in (reactions w.job) in
    let e : n - w.next ≡ suc (n - (w.next + 1)) = omega (arith, l) in
    ap (λ m. map f (map first_of (range_with_len w.next m))) e

pub no_more : {X : Type 0} (f : ℕ → X) (w : WindowsData) → reactions w.job ≤ first_of w.next → map f (starts_left w) ≡ []
no_more f w l = let e : windows_in (reactions w.job) - w.next ≡ 0 = omega (arith, l) in ap (λ m. map f (map first_of (range_with_len w.next m))) e

-- all windows are left at first
pub all_starts : (j : JobData) → starts_left (record { job = j; next = 0 }) ≡ starts (reactions j)
all_starts j = let e : windows_in (reactions j) - 0 ≡ windows_in (reactions j) = omega arith in ap (λ m. map first_of (range_with_len 0 m)) e

pub all_jobs : (j : JobData) → jobs_left (record { job = j; next = 0 }) ≡ window_jobs j
all_jobs j = ap (map (job_from j)) (all_starts j)

pub all_stages : (e : Execution) → stages_left e.main (record { job = one_job e; next = 0 }) ≡ window_stages e
all_stages e = ap (map (stage_from e.main (one_job e))) (all_starts (one_job e))

long_acts : (j : JobData) → length (all_acts j) ≡ reactions j
long_acts j = length-map-range_with_len (flat_act_row j.graph j.sensors j.opening) 0 (reactions j)

-- the lines of a window's rows
pub lines_of : (main : Vertex) (j : JobData) (s : ℕ) (rows : List Values) → all_acts j ≡ acts_of main j.sensors → rows ≡ window s (reactions_from (reactions j) s) (all_acts j)
    → text_from s (actuator_names main) rows ≡ window_text (actuator_names main) (acts_of main j.sensors) s
lines_of main j s rows acts is =
    ap (text_from s (actuator_names main)) is
    ∙ ap (λ n. text_from s (actuator_names main) (window s (reactions_from n s) (all_acts j))) (sym (long_acts j))
    ∙ ap (λ (xs : List Values). text_from s (actuator_names main) (window s (reactions_from (length xs) s) xs)) acts

same_numbers : {A : Type 0} (f : ℕ → A) (n : ℕ) → map f (range_with_len 0 n) ≡ map f (numbers_below n)
same_numbers f zero = refl
same_numbers f (suc n) = ap (λ m. map f (range_with_len 0 m)) (sym (add-one n)) ∙ map-range_with_len_more f 0 n n (zero-add n)
    ∙ ap (λ xs. xs ++ f n ∷ []) (same_numbers f n) ∙ sym (map-append f (numbers_below n) (n ∷ []))

same_map : {A B : Type 0} (f g : A → B) → ((x : A) → f x ≡ g x) → (xs : List A) → map f xs ≡ map g xs
same_map f g h [] = refl
same_map f g h (x ∷ xs) = λ i. h x i ∷ same_map f g h xs i

-- what the actuators of the flat graph take is what the tree's take
pub same_acts : (e : Execution) → HasFlat e.main → all_acts (one_job e) ≡ acts_of e.main e.rows.reactions
same_acts e has =
    let rows = e.rows.reactions in
    same_numbers (flat_act_row (flat_of e.main) rows (initial_cells (flat_of e.main).vertices)) (length rows)
    ∙ same_map (flat_act_row (flat_of e.main) rows (initial_cells (flat_of e.main).vertices)) (act_row e.main rows) (has.taken rows) (numbers_below (length rows))

-- no row has more vectors than there are actuators
one_value : (look : Source → Vector) (len : Source → ℕ) (l : Label) (k : Kind) → length (actuator_value look l k) ≡ length (actuator_length k (map len l.ins))
one_value look len l (sensor n) = refl
one_value look len l (actuator n) = refl
one_value look len l (constant v) = refl
one_value look len l (delay v) = refl
one_value look len l (function es) = refl
one_value look len l explode = refl
one_value look len l implode = refl
one_value look len l (merge v) = refl
one_value look len l (graph outs) = refl
one_value look len l (switch values names) = refl
one_value look len l (repeat n feeds gives) = refl

as_many_in : (look : Source → Vector) (len : Source → ℕ) (us : Vertices) → length (actuator_values look us) ≡ length (actuator_lengths_in len us)
as_many_in look len no_vertices = refl
as_many_in look len (and_vertex (vertex l vs) us) =
    length-append (actuator_value look l l.kind) (actuator_values look us)
    ∙ ap (λ (n : ℕ). n + length (actuator_values look us)) (one_value look len l l.kind)
    ∙ ap (λ (n : ℕ). length (actuator_length l.kind (map len l.ins)) + n) (as_many_in look len us)
    ∙ sym (length-append (actuator_length l.kind (map len l.ins)) (actuator_lengths_in len us))

as_many : (main : Vertex) (rows : List Values) (k : ℕ) → length (act_row main rows k) ≡ length (actuator_lengths main)
as_many (vertex l us) rows k = as_many_in (level_value (inside (vertex l us)) (slice_index_or rows k []) (past (vertex l us) rows k) []) (source_length [] (outs_of us)) us

few_in : (main : Vertex) (rows : List Values) (ks : List ℕ) (k : ℕ) → k < length (map (act_row main rows) ks)
    → length (slice_index_or (map (act_row main rows) ks) k []) ≤ length (actuator_lengths main)
few_in main rows [] k l = absurd (omega (arith, l))
few_in main rows (n ∷ ns) zero l = let e = as_many main rows n in omega (arith, e)
few_in main rows (n ∷ ns) (suc k) l = few_in main rows ns k (omega (arith, l))

pub few_acts : (main : Vertex) (rows : List Values) → AreFew (length (actuator_lengths main)) (acts_of main rows)
few_acts main rows k l = few_in main rows (numbers_below (length rows)) k l
