-- The made tree has the form of a tree.
use Rattle.std.proofs.Common.{◌≡◌, ℕ, zero, suc, ◌+◌, ◌<◌, List, [], ◌∷◌, length, map, Bool, false, ◌&&◌, Option, Some, None, slice_get, refl, sym, ap, ap₂, ◌∙◌, subst, arith}
use mathlib.Core.Path.{fun_ext}
use Rattle.algo_tree.specs.declared.Source.{Source}
use Rattle.algo_tree.specs.declared.Source.TheVariants.{Own, Of}
use Rattle.algo_tree.specs.Level.{with_node}
use Rattle.algo_tree.specs.Order.{guards_ready, sources_ready, is_ready, settled, IsAcyclic, AreBefore}
use Rattle.algo_tree.specs.Parts.{HasDistinctParts}
use Rattle.algo_tree.proofs.InOrder.{acyclic-in_order}
use Rattle.algo_tree.specs.Tree.{Label, Kind, sensor, actuator, constant, delay, function, explode, implode, merge, graph, switch, repeat, vertex, Vertices, no_vertices, and_vertex}
use Rattle.algo_tree.specs.Meaning.{asked_by, node, nodes}
use Rattle.algo_tree.specs.View.{vertices_of}
use Rattle.algo_tree.specs.Well.{AreOwn, IsKindWell, IsWell, AllWell}
use Rattle.algo_tree.proofs.Segments.{OrderFrom, in_order-from, order-append, before-append, before_below, order_below, before-asked}
use Rattle.algo_tree.proofs.Appends.{well-append}
use Rattle.multi_period.specs.declared.mark.Mark.{Mark}
use Rattle.multi_period.specs.Marks.{IsMarkable, IsMark, AreMarked, MayHave}
use Rattle.multi_period.specs.Periods.{keep, inputs_from, run, body, period, period_by, all_periods}
use Rattle.multi_period.proofs.Inner.{kid, heart, level, level-is}
use Rattle.multi_period.proofs.Apart.{level-distinct}
use Rattle.multi_period.proofs.Levels.{long-made}
use Rattle.syn_base.specs.Numbers.{numbers_below}

pub asked-all : (k : Kind) (ss : List Source) → IsMarkable k → asked_by k ss ≡ ss
asked-all (function es) ss h = refl
asked-all (graph outs) ss h = refl
asked-all (switch values names) ss h = refl
asked-all (repeat n feeds gives) ss h = refl
asked-all (sensor n) ss h = absurd h
asked-all (actuator n) ss h = absurd h
asked-all (constant v) ss h = absurd h
asked-all (delay vs) ss h = absurd h
asked-all explode ss h = absurd h
asked-all implode ss h = absurd h
asked-all (merge values) ss h = absurd h

well-keeps : (l : Label) (is : List ℕ) → AllWell (vertices_of (map (keep l) is))
well-keeps l [] = tt
well-keeps l (i ∷ is) = ((tt, tt), well-keeps l is)

own-inputs : (m : ℕ) (is : List ℕ) → AreOwn (map (λ i. Own (m + i)) is)
own-inputs m [] = tt
own-inputs m (i ∷ is) = (tt, own-inputs m is)

own-before : (r m : ℕ) (is : List ℕ) → AreBefore r (map (λ i. Own (m + i)) is)
own-before r m [] = tt
own-before r m (i ∷ is) = (tt, own-before r m is)

module _ (m : Mark) (l : Label) (us : Vertices) (h : IsMark m l) where
  level-order : OrderFrom 0 (level m l us)
  level-order =
      let q = length l.outs in
      let all = order_below 1 q (kid m l us) (λ i lt. (tt, tt)) in
      let long = all.0 in
      let some : 0 < 1 + length (map (kid m l us) (numbers_below q)) = omega arith in (
        (tt, tt),
        order-append 1 (map (kid m l us) (numbers_below q)) (heart m l us ∷ []) all.1 (
          (
            tt,
            (some, before-append _ (inputs_from 0 (length l.ins)) _ (own-before _ 0 (numbers_below (length l.ins))) (before_below _ q (λ i. Of (suc i) 0) (λ i lt. omega (arith, long, lt)))),
          ),
          tt,
        ),
      )

  level-acyclic : IsAcyclic (level m l us)
  level-acyclic = acyclic-in_order (level m l us) (in_order-from (level m l us) level-order)

  run-alone : IsAcyclic (node (run l us) ∷ [])
  run-alone = acyclic-in_order (node (run l us) ∷ [])
      (in_order-from (node (run l us) ∷ []) ((tt, before-asked 0 l.kind (inputs_from 0 (length l.ins)) (own-before 0 0 (numbers_below (length l.ins)))), tt))

  well-run : IsWell (vertex l us) → IsWell (run l us)
  well-run w = (subst (λ gs. IsKindWell l.kind gs us) h.guards w.0, w.1)

  none-alone : IsAcyclic []
  none-alone = acyclic-in_order [] (in_order-from [] tt)

  well-body : IsWell (vertex l us) → IsWell (body l us)
  well-body w = (
    (
      (
        refl,
        (
          refl,
          (
            (((refl, tt), (tt, tt))),
            (
              (own-inputs 1 (numbers_below (length l.ins)), tt),
              ((own-inputs (suc (length l.ins)) (numbers_below (length l.outs)), tt), tt),
            ),
          ),
        ),
      ),
      ((tt, (tt, tt)), h.distinct),
    ),
    (((refl, (run-alone, (tt, tt))), (well-run w, tt)), (((refl, (none-alone, tt)), tt), tt)),
  )

  pub well-period : IsWell (vertex l us) → IsWell (period m l us)
  well-period w = (
    (refl, (subst IsAcyclic (sym (level-is m l us)) level-acyclic, subst HasDistinctParts (sym (level-is m l us)) (level-distinct m l us h))),
    ((tt, tt), well-append (map (keep l) (numbers_below (length l.outs))) (body l us ∷ []) (well-keeps l (numbers_below (length l.outs))) (well-body w, tt)),
  )

pub well-made : (mark : ℕ → Option Mark) (us : Vertices) → AreMarked mark us → AllWell us → AllWell (all_periods mark us)
well-made mark no_vertices may h = tt
well-made mark (and_vertex (vertex l vs) us) may h = (here (mark 0) may.0, well-made (λ r. mark (suc r)) us may.1 h.1)
  where
    here : (o : Option Mark) → MayHave o l → IsWell (period_by o (vertex l vs))
    here None k = h.0
    here (Some m) k = well-period m l vs k h.0

-- the same nodes are ready in each round
made-ready : (done : ℕ → Bool) (o : Option Mark) (l : Label) (vs : Vertices) → MayHave o l → is_ready done (node (period_by o (vertex l vs))) ≡ is_ready done (node (vertex l vs))
made-ready done None l vs h = refl
made-ready done (Some m) l vs h = ap₂ (λ gs ss. guards_ready done gs && sources_ready done ss) (sym h.guards) (sym (asked-all l.kind l.ins h.kind))

made-round : (done : ℕ → Bool) (mark : ℕ → Option Mark) (us : Vertices) → AreMarked mark us → (r : ℕ)
    → with_node (slice_get (nodes (all_periods mark us)) r) false (is_ready done) ≡ with_node (slice_get (nodes us) r) false (is_ready done)
made-round done mark no_vertices may r = refl
made-round done mark (and_vertex (vertex l vs) us) may zero = made-ready done (mark 0) l vs may.0
made-round done mark (and_vertex (vertex l vs) us) may (suc r) = made-round done (λ r. mark (suc r)) us may.1 r

made-settled : (mark : ℕ → Option Mark) (us : Vertices) → AreMarked mark us → (k : ℕ) → settled (nodes (all_periods mark us)) k ≡ settled (nodes us) k
made-settled mark us may zero = refl
made-settled mark us may (suc k) =
    fun_ext (λ r. made-round (settled (nodes (all_periods mark us)) k) mark us may r ∙ ap (λ done. with_node (slice_get (nodes us) r) false (is_ready done)) (made-settled mark us may k))

pub made-acyclic : (mark : ℕ → Option Mark) (us : Vertices) → AreMarked mark us → IsAcyclic (nodes us) → IsAcyclic (nodes (all_periods mark us))
made-acyclic mark us may h r lt =
    ap (λ n. settled (nodes (all_periods mark us)) n r) (long-made mark us) ∙ ap (λ f. f r) (made-settled mark us may (length (nodes us))) ∙ h r (subst (λ n. r < n) (long-made mark us) lt)
