-- What the pass answers, seen at the declared main graph.
use Rattle.std.proofs.Common.{◌≡◌, ℕ, ◌+◌, ◌<◌, ◌≤◌, Bool, true, false, List, length, refl, sym, ap, ap₂, subst, ◌∙◌, arith, nat_lt, if◌then◌else◌}
use Rattle.std.specs.Prelude.{Result, Ok, Err}
use Rattle.std.specs.List.{All, sum_by}
use Rattle.std.proofs.lemmas.Bool.{ltb-true, ltb-false}
use Rattle.syn_base.specs.declared.limits.LimitFault.{LimitFault}
use Rattle.syn_base.specs.declared.limits.LimitKind.TheVariants.{Operations}
use Rattle.syn_base.specs.Limits.{bound_of}
use Rattle.algo_tree.specs.Tree.{Vertex, vertex}
use Rattle.algo_tree.specs.Code.{count_of}
use Rattle.algo_tree.specs.Counted.{operations}
use Rattle.algo_tree.specs.Meaning.{vertices_in}
use Rattle.algo_tree.specs.Valid.{IsTree}
use Rattle.algo_tree.specs.View.{view, vertices_view}
use Rattle.algo_tree.specs.declared.vertex.Vertex.{Vertex as Declared, out-Vertex}
use Rattle.algo_tree.proofs.Views.{view_out}
use Rattle.multi_period.specs.declared.mark.Mark.{Mark}
use Rattle.multi_period.specs.Marks.{mark_at, AreMarked, AreOnce, MayHaveMarks}
use Rattle.multi_period.specs.Periods.{all_periods, periods}
use Rattle.multi_period.specs.Seen.{label_seen, inside_seen}
use Rattle.multi_period.specs.Within.{adds, made_within}
use Rattle.multi_period.proofs.Counting.{counted-periods}
use Rattle.multi_period.proofs.Placed.{count_view, each_below}
use Rattle.multi_period.proofs.Sums.{added-sum}

module _ (u : Declared) (main : Vertex) (marks : List Mark) (is : view u ≡ main) where
  inside_is : vertices_in main ≡ inside_seen u
  inside_is = ap vertices_in (sym is ∙ view_out u)

  pub within : MayHaveMarks marks main → All (λ m. m.reference < length (out-Vertex u).inner.items) marks
  within may = each_below (length (out-Vertex u).inner.items) marks (subst (λ n. AreOnce n marks) (ap count_of inside_is ∙ count_view (out-Vertex u).inner.items) may.once)

  pub marked : MayHaveMarks marks main → AreMarked (mark_at marks) (inside_seen u)
  marked may = subst (AreMarked (mark_at marks)) inside_is may.stand

  pub whole : IsTree main → MayHaveMarks marks main → operations (periods marks main) ≡ operations main + sum_by (adds (inside_seen u)) marks
  whole tree may =
      counted-periods marks main tree may.stand
      ∙ ap (λ n. operations main + n) (added-sum (vertices_in main) marks may.once ∙ ap (λ us. sum_by (adds us) marks) inside_is)

  -- what is counted without making anything
  pub total : (a b : ℕ) (us : List Declared) → IsTree main → MayHaveMarks marks main → a ≡ operations main → us ≡ (out-Vertex u).inner.items → b ≡ sum_by (adds (vertices_view us)) marks
      → a + b ≡ operations (periods marks main)
  total a b us tree may a_is us_is b_is = ap₂ (λ x y. x + y) a_is (b_is ∙ ap (λ xs. sum_by (adds (vertices_view xs)) marks) us_is) ∙ sym (whole tree may)

  pub made_is : (w : Declared) (us : List Declared) → vertices_view us ≡ all_periods (mark_at marks) (inside_seen u) → view w ≡ vertex (label_seen u) (vertices_view us) → view w ≡ periods marks main
  made_is w us each seen = seen ∙ ap (vertex (label_seen u)) each ∙ ap (periods marks) (sym (view_out u) ∙ is)

-- so many operations, above this bound
abbrev above : ℕ → ℕ → Result Vertex LimitFault
above count bound = Err (record { which = Operations; count = count; bound = bound })

module _ (marks : List Mark) (main : Vertex) where
  abbrev made : Result Vertex LimitFault
  made = Ok (periods marks main)

  pub gives_made : operations (periods marks main) ≤ 2048 → made_within marks main ≡ Ok (periods marks main)
  gives_made le = by (nat_lt 2048 (operations (periods marks main))) refl
    where
      by : (b : Bool) → nat_lt 2048 (operations (periods marks main)) ≡ b → (if b then above (operations (periods marks main)) (bound_of Operations) else made) ≡ made
      by true e = let lt = ltb-true 2048 (operations (periods marks main)) e in absurd (omega (arith, lt, le))
      by false e = refl

  gives_limit : 2048 < operations (periods marks main) → made_within marks main ≡ above (operations (periods marks main)) (bound_of Operations)
  gives_limit lt = by (nat_lt 2048 (operations (periods marks main))) refl
    where
      by : (b : Bool) → nat_lt 2048 (operations (periods marks main)) ≡ b
          → (if b then above (operations (periods marks main)) (bound_of Operations) else made) ≡ above (operations (periods marks main)) (bound_of Operations)
      by true e = refl
      by false e = let le = ltb-false 2048 (operations (periods marks main)) e in absurd (omega (arith, lt, le))

  pub limit_is : (n bound : ℕ) → n ≡ operations (periods marks main) → bound ≡ bound_of Operations → 2048 < n → made_within marks main
      ≡ Err (record { which = Operations; count = n; bound = bound })
  limit_is n bound n_is bound_is lt = gives_limit (subst (λ x. 2048 < x) n_is lt) ∙ sym (ap₂ above n_is bound_is)
