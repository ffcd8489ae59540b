-- The bound from its parts.
use Rattle.std.proofs.Common.{◌≡◌, ℕ, zero, suc, ◌+◌, ◌<◌, ◌≤◌, List, [], ◌∷◌, map, max, length, Option, refl, sym, ap, subst, arith, ◌∙◌}
use Rattle.std.specs.List.{range_with_len}
use Rattle.self_timed.specs.declared.Vertex.{Vertex}
use Rattle.self_timed.specs.Graph.{Graph}
use Rattle.self_timed.specs.declared.Medium.{Medium}
use Rattle.self_timed.specs.Archi.{Architecture}
use Rattle.self_timed.specs.Table.{Table, entry_in}
use Rattle.self_timed.specs.Fitting.{IsOf}
use Rattle.lower_bound.specs.Bound.{carried_to, longest_carried, shared_work, greatest_work, lower_bound}
use Rattle.lower_bound.specs.Laws.{IsBelowAll}
use Rattle.lower_bound.specs.Turns.{at}
use Rattle.lower_bound.proofs.Below.{no_valid_schedule_is_shorter}
use Rattle.syn_base.specs.Numbers.{greatest}

pub list_is : (f : ℕ → ℕ) (a n : ℕ) (xs : List ℕ) → length xs ≡ n → ((v : ℕ) → v < n → at xs v ≡ f (a + v)) → xs ≡ map f (range_with_len a n)
list_is f a zero [] l h = refl
list_is f a zero (x ∷ xs) l h = absurd (omega arith)
list_is f a (suc n) [] l h = absurd (omega arith)
list_is f a (suc n) (x ∷ xs) l h =
    let z : a + 0 ≡ a = omega arith in
    let first : x ≡ f a = h 0 (omega arith) ∙ ap f z in
    let rest = list_is f (a + 1) n xs (omega arith) (λ v m. h (suc v) (omega arith) ∙ ap f (let e : a + suc v ≡ a + 1 + v = omega arith in e)) in
    λ i. first i ∷ rest i

-- the greatest of the chains to all operations is the longest chain
pub longest_is : (operators : ℕ) (ticks : ℕ → ℕ → Option ℕ) (vertices : List Vertex) (media : List Medium) (ends : List ℕ) → length ends
    ≡ length vertices → ((v : ℕ) → v < length vertices → at ends v ≡ carried_to operators ticks vertices media v)
    → greatest ends ≡ longest_carried operators ticks vertices media
longest_is operators ticks vertices media ends size chains =
    ap greatest (list_is (carried_to operators ticks vertices media) 0 (length vertices) ends size
    (λ v l. chains v l ∙ ap (carried_to operators ticks vertices media) (let e : v ≡ 0 + v = omega arith in e)))

pub bound_is : (g : Graph) (a : Architecture) (d : Table) → IsOf g a d → (chain shared work n : ℕ) → chain
    ≡ longest_carried d.operators (entry_in d) g.vertices a.media → shared ≡ shared_work d.operators (entry_in d) (length d.rows)
    → work ≡ greatest_work d.operators (entry_in d) (length d.rows) → n ≡ max (max chain shared) work → n ≡ lower_bound (length a.operators) (entry_in d) g.vertices a.media
bound_is g a d fits chain shared work n c s w is =
    let x = ap (λ (k : ℕ). longest_carried k (entry_in d) g.vertices a.media) fits.operators in
    let y : shared_work d.operators (entry_in d) (length d.rows)
    ≡ shared_work (length a.operators) (entry_in d) (length g.vertices) = λ i. shared_work (fits.operators i) (entry_in d) (fits.operations i) in
    let z : greatest_work d.operators (entry_in d) (length d.rows)
    ≡ greatest_work (length a.operators) (entry_in d) (length g.vertices) = λ i. greatest_work (fits.operators i) (entry_in d) (fits.operations i) in
    omega arith

pub below_all : (g : Graph) (a : Architecture) (d : Table) (n : ℕ) → n ≡ lower_bound (length a.operators) (entry_in d) g.vertices a.media → IsBelowAll g a (entry_in d) n
below_all g a d n is = subst (IsBelowAll g a (entry_in d)) (sym is) (no_valid_schedule_is_shorter g a (entry_in d))
