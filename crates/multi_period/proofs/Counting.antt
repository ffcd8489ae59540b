-- How many operations a marked reference becomes.
use Rattle.std.proofs.Common.{◌≡◌, ℕ, zero, suc, ◌+◌, ◌-◌, ◌*◌, ◌≤◌, List, [], ◌∷◌, length, map, replicate, refl, sym, ap, ◌∙◌, arith, Option, Some, None, subst}
use Rattle.algo_tree.specs.Tree.{Label, Vertex, vertex, Vertices, no_vertices, and_vertex}
use Rattle.algo_tree.specs.Meaning.{vertices_in}
use Rattle.algo_tree.specs.Valid.{IsTree}
use Rattle.algo_tree.specs.View.{vertices_of}
use Rattle.algo_tree.specs.Counted.{operations_by, operations, operations_in}
use Rattle.algo_tree.proofs.Appends.{counted-append}
use Rattle.multi_period.specs.declared.mark.Mark.{Mark}
use Rattle.multi_period.specs.Marks.{mark_at, IsMark, MayHave, AreMarked}
use Rattle.multi_period.specs.Periods.{turns, keep, body, period_by, all_periods}
use Rattle.multi_period.specs.Laws.{PeriodCounts, added_by, added, PeriodsCount}
use Rattle.multi_period.proofs.Lists.{long_below}
use Rattle.syn_base.specs.Numbers.{numbers_below}

long_numbers : (n : ℕ) → length (numbers_below n) ≡ n
long_numbers n = sym (long_map_id (numbers_below n)) ∙ long_below (λ i. i) n
  where
    long_map_id : (is : List ℕ) → length (map (λ i. i) is) ≡ length is
    long_map_id [] = refl
    long_map_id (i ∷ is) = ap suc (long_map_id is)

counted-keeps : (l : Label) (is : List ℕ) → operations_in (vertices_of (map (keep l) is)) ≡ 2 * length is
counted-keeps l [] = refl
counted-keeps l (i ∷ is) = let more = counted-keeps l is in omega (arith, more)

long_replicate : {A : Type 0} (n : ℕ) (x : A) → length (replicate n x) ≡ n
long_replicate zero x = refl
long_replicate (suc n) x = ap suc (long_replicate n x)

pub long_turns : (n : ℕ) → 1 ≤ n → length (turns n) ≡ n
long_turns n some = ap suc (long_replicate (n - 1) _) ∙ omega arith

pub counted-period : (m : Mark) (l : Label) (us : Vertices) → IsMark m l → PeriodCounts m l us
counted-period m l us h =
    let keeps = counted-keeps l (numbers_below (length l.outs)) in
    let many = long_numbers (length l.outs) in
    let all = counted-append (map (keep l) (numbers_below (length l.outs))) (body l us ∷ []) in
    let turned = long_turns m.every h.some in
    let named = h.named in
    omega (arith, keeps, many, all, turned, named)

counted-made : (mark : ℕ → Option Mark) (us : Vertices) → AreMarked mark us → operations_in (all_periods mark us) ≡ operations_in us + added mark us
counted-made mark no_vertices may = refl
counted-made mark (and_vertex (vertex l vs) us) may =
    let rest = counted-made (λ r. mark (suc r)) us may.1 in
    let first = here (mark 0) may.0 in
    omega (arith, rest, first)
  where
    here : (o : Option Mark) → MayHave o l → operations (period_by o (vertex l vs)) ≡ operations (vertex l vs) + added_by o l
    here None h = omega arith
    here (Some m) h = counted-period m l vs h

pub counted-periods : (marks : List Mark) (main : Vertex) → IsTree main → AreMarked (mark_at marks) (vertices_in main) → PeriodsCount marks main
counted-periods marks (vertex l us) tree may =
    subst (λ k. operations_by k (operations_in (all_periods (mark_at marks) us)) ≡ operations_by k (operations_in us) + added (mark_at marks) us) (sym tree.portless.kind)
    (counted-made (mark_at marks) us may)
