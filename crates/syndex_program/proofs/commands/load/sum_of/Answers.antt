use Rattle.std.proofs.Common.{◌≡◌, ◌∙◌, ◌+◌, ◌+ℤ◌, ◌≤◌, ℕ, ℤ, zero, suc, List, [], ◌∷◌, ◌++◌, length, length-drop, take, drop, min, refl, sym, ap, subst, arith, append_assoc, rules, to_z, of_z, w64}
use Rattle.std.specs.List.{flat_map}
use Rattle.std.proofs.Math.Facts.{to_z-of_z}
use Rattle.std.proofs.lemmas.List.{drop-drop, take_min}
use Rattle.std.proofs.lemmas.List.FromFn.{length-map-range_with_len}
use Rattle.algo_tree.specs.Level.{all_joined}
use Rattle.algo_text.specs.Expr.{total}
use Rattle.word_rule.specs.Ended.{all_acts}
use Rattle.word_rule.specs.Windows.{window}
use Rattle.word_rule.specs.Job.{JobData, reactions}
use Rattle.self_timed.specs.Meaning.{flat_act_row}
use Rattle.self_timed.specs.FlatLaws.{actuator_lens}
use Rattle.run_laws.specs.Windows.{window_bound, reactions_from}
use Rattle.syn_base.specs.Arithmetic.{wrapped}
use Rattle.syn_base.specs.Rows.{Reactions}
use Rattle.job_windows.specs.Windowed.{WindowsData, first_of}
use Rattle.syndex_program.specs.Sums.{AreFew, total_left, total_of}
use Rattle.syndex_program.proofs.Going.{fewer, jobs_after, jobs_some}
use Rattle.syndex_program.proofs.Leaving.{after_next}
use Rattle.syndex_program.proofs.Summing.{one_part, rows_end}
use Rattle.syndex_program.proofs.commands.load.sum_of.Goals as goal
use Rattle.syn_base.specs.Vectors.{Values}

-- the rows of a window are as few as all rows
few_behind : (most s : ℕ) (xs : List Values) → AreFew most xs → AreFew most (drop s xs)
few_behind most zero xs h = h
few_behind most (suc s) [] h = h
few_behind most (suc s) (x ∷ xs) h = few_behind most s xs (λ k l. h (suc k) (omega (arith, l)))

few_first : (most n : ℕ) (xs : List Values) → AreFew most xs → AreFew most (take n xs)
few_first most zero xs h k l = absurd (omega (arith, l))
few_first most (suc n) [] h k l = absurd (omega (arith, l))
few_first most (suc n) (x ∷ xs) h zero l = h zero (omega arith)
few_first most (suc n) (x ∷ xs) h (suc k) l = few_first most n xs (λ m q. h (suc m) (omega (arith, q))) k (omega (arith, l))

few_window : (most s n : ℕ) (acts rows : List Values) (lens : List ℕ) → AreFew most acts → rows ≡ window s n acts → length lens ≡ most → AreFew (length lens) rows
few_window most s n acts rows lens h is long =
    subst (λ m. AreFew m rows) (sym long) (subst (AreFew most) (sym is) (few_first most n (drop s acts) (few_behind most s acts h)))

-- what is joined is joined in two parts
joined_both : (n : ℕ) (xs : List Values) → flat_map all_joined xs ≡ flat_map all_joined (take n xs) ++ flat_map all_joined (drop n xs)
joined_both zero xs = refl
joined_both (suc n) [] = refl
joined_both (suc n) (x ∷ xs) =
    ap (λ v. all_joined x ++ v) (joined_both n xs)
    ∙ sym (append_assoc (all_joined x) (flat_map all_joined (take n xs)) (flat_map all_joined (drop n xs)))

long_acts : (j : JobData) → length (all_acts j) ≡ reactions j
long_acts j = length-map-range_with_len (flat_act_row j.graph j.sensors j.opening) 0 (reactions j)

-- the rows of the window that begins with reaction s
short : (s n : ℕ) (acts : List Values) → length acts ≡ n → window s (reactions_from n s) acts ≡ take window_bound (drop s acts)
short s n acts long =
    let e : reactions_from n s ≡ min window_bound (length (drop s acts)) = let d = length-drop s acts in omega (arith, d, long) in
    ap (λ m. take m (drop s acts)) e ∙ take_min window_bound (drop s acts)

-- one window more
one_window : (start sum : ℤ) (b s t : ℕ) (acts rows : List Values) → t ≡ s + b → rows ≡ take b (drop s acts) → wrapped sum ≡ wrapped (start +ℤ total_of rows)
    → wrapped (sum +ℤ total_of (drop t acts)) ≡ wrapped (start +ℤ total_of (drop s acts))
one_window start sum b s t acts rows at is e =
    ap (λ (n : ℕ). wrapped (sum +ℤ total_of (drop n acts))) at
    ∙ ap (λ (xs : List Values). wrapped (sum +ℤ total_of xs)) (sym (drop-drop b s acts))
    ∙ one_part start sum (flat_map all_joined rows) (flat_map all_joined (drop b (drop s acts))) e
    ∙ ap (λ (xs : List Values). wrapped (start +ℤ total (flat_map all_joined xs ++ flat_map all_joined (drop b (drop s acts))))) is
    ∙ ap (λ (v : List ℤ). wrapped (start +ℤ total v)) (sym (joined_both b (drop s acts)))

sum_next : (start sum : ℤ) (w w' : WindowsData) (rows : List Values) → rows ≡ window (first_of w.next) (reactions_from (reactions w.job) (first_of w.next)) (all_acts w.job)
    → w' ≡ after_next w → wrapped sum ≡ wrapped (start +ℤ total_of rows) → wrapped (sum +ℤ total_left w') ≡ wrapped (start +ℤ total_left w)
sum_next start sum w w' rows is same e =
    let at : first_of (w.next + 1) ≡ first_of w.next + window_bound = omega arith in
    ap (λ (x : WindowsData). wrapped (sum +ℤ total_left x)) same
    ∙ one_window start sum window_bound (first_of w.next) (first_of (w.next + 1)) (all_acts w.job) rows at (is ∙ short (first_of w.next) (reactions w.job) (all_acts w.job) (long_acts w.job)) e

-- no window is left
sum_ends : (sum : ℤ) (w : WindowsData) → reactions w.job ≤ first_of w.next → wrapped (sum +ℤ total_left w) ≡ wrapped sum
sum_ends sum w l = let long = long_acts w.job in rows_end sum (all_acts w.job) (first_of w.next) (omega (arith, l, long))

pub with_rows-sum-requires : goal.with_rows-sum-requires
with_rows-sum-requires g c =
    let w = c.windows.windows in
    let made = rw c.in-Ok-Some.field-0-is at c.in-Ok-Some.ensures in
    let start = c.windows.invariant.0 in
    few_window (length (actuator_lens w.job.graph w.job.graph.vertices)) (first_of w.next) (reactions_from (reactions w.job) (first_of w.next)) (all_acts w.job)
    c.rows.result.now.reactions c.rows.result.now.lens
    (subst (λ (j : JobData). AreFew (length (actuator_lens j.graph j.graph.vertices)) (all_acts j)) (sym start) c.requires)
    (ap (λ (r : Reactions). r.reactions) c.rows.ensures ∙ made.2.rows ∙ made.3)
    (ap (λ (r : Reactions). length r.lens) c.rows.ensures ∙ ap length made.2.lens)

pub windows-smaller : goal.windows-smaller
windows-smaller g c =
    let made = rw c.in-Ok-Some.field-0-is at c.in-Ok-Some.ensures in
    fewer c.windows.windows made.0 c.go_on.new.self c.go_on.ensures

pub windows-preserved : goal.windows-preserved
windows-preserved g c =
    let w = c.windows.windows in
    let w' = c.go_on.new.self in
    let made = rw c.in-Ok-Some.field-0-is at c.in-Ok-Some.ensures in
    let before = c.windows.invariant in
    let s = to_z w64 c.windows.sum-bits in
    let e : to_z w64 (of_z w64 c.with_rows-sum.result) ≡ c.with_rows-sum.result = search (rules, to_z-of_z) in
    let is = ap (λ (r : Reactions). r.reactions) c.rows.ensures ∙ made.2.rows ∙ made.3 in (
      ap (λ (x : WindowsData). x.job) c.go_on.ensures ∙ before.0,
      ap (λ (n : ℤ). wrapped (n +ℤ total_left w')) e ∙ sum_next s c.with_rows-sum.result w w' c.rows.result.now.reactions is c.go_on.ensures c.with_rows-sum.ensures ∙ before.1,
      jobs_after w made.0 w' c.windows.driven c.run_next.new.driven c.go_on.ensures made.1 ∙ before.2,
      λ last h. before.3 last (jobs_some w made.0 w' c.windows.driven c.run_next.new.driven last c.go_on.ensures made.1 h),
    )

pub returns-in-Ok-None-clause-sum : goal.returns-in-Ok-None-clause-sum
returns-in-Ok-None-clause-sum g c =
    let made = rw c.in-Ok-None.field-0-is at c.in-Ok-None.ensures in
    let before = c.windows.invariant in
    sym (sum_ends (to_z w64 c.windows.sum-bits) c.windows.windows made.0) ∙ before.1
