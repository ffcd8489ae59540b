-- A reference before and after: what it gives and keeps in a reaction.
use Rattle.std.proofs.Common.{◌≡◌, ℕ, zero, suc, ◌-◌, ◌%◌, ◌==◌, ◌<◌, List, [], ◌∷◌, length, map, Bool, true, false, cond, Option, Some, None, slice_index_or, codes, refl, sym, ap, ◌∙◌, subst, arith}
use Rattle.algo_tree.specs.declared.Source.{Source}
use Rattle.algo_tree.specs.declared.Source.TheVariants.{Of}
use Rattle.algo_tree.specs.declared.Part.TheVariants.{Named, Numbered}
use Rattle.algo_tree.specs.Level.{State, Node, all_hold, with_node, node_outputs, node_next, graph_outputs, graph_next, graph_initial}
use Rattle.algo_tree.specs.Tree.{Label, vertex, Vertices}
use Rattle.algo_tree.specs.Meaning.{asked_by, kind_outputs, node, nodes}
use Rattle.algo_tree.proofs.Appends.{blind}
use Rattle.multi_period.specs.declared.mark.Mark.{Mark}
use Rattle.multi_period.specs.Marks.{IsMark}
use Rattle.multi_period.specs.Meaning.{held_by, held_in}
use Rattle.multi_period.specs.Periods.{period, period_by}
use Rattle.multi_period.proofs.Lists.{at_below, past_below}
use Rattle.multi_period.proofs.Found.{found_at}
use Rattle.multi_period.proofs.Inner.{kid, heart, level, level-is, Kept, plain_outputs, plain_next, level-gives, level-keeps}
use Rattle.multi_period.proofs.Apart.{level-distinct}
use Rattle.multi_period.proofs.Wide.{long_map}
use Rattle.syn_base.specs.Vectors.{Vector, Values, vector_at, zeros}
use Rattle.syn_base.specs.Numbers.{numbers_below}

-- what is asked of a reference that is marked
abbrev pub Able : Option Mark → Label → Vertices → Type 0
Able None l us = Unit {0}
Able (Some m) l us = IsMark m l × ((row : Values) (st : State) (ins : Values) → length (plain_outputs m l us row st ins) ≡ length l.outs)

-- What stands below a reference before reaction k, as it is and as it is made, where these outputs are kept.
abbrev pub Rel : Option Mark → Label → Vertices → ℕ → Values → State → State → Type 0
Rel None l us k kept st st' = st' ≡ st
Rel (Some m) l us k kept st st' = Kept m l us k kept st st'

convert : (m : Mark) (l : Label) (us : Vertices) (k : ℕ) (a a' : Values) (s s' t t' : State) → Kept m l us k a s t → a ≡ a' → s ≡ s' → t ≡ t' → Kept m l us k a' s' t'
convert m l us k a a' s s' t t' h x y z = subst (λ a. Kept m l us k a s' t') x (subst (λ s. Kept m l us k a s t') y (subst (λ t. Kept m l us k a s t) z h))

zeros-at : (outs : List ℕ) (i : ℕ) → i < length outs → zeros (slice_index_or outs i 0) ≡ vector_at (map zeros outs) i
zeros-at [] i lt = absurd (omega arith)
zeros-at (n ∷ outs) zero lt = refl
zeros-at (n ∷ outs) (suc i) lt = zeros-at outs i (omega arith)

pub rel-first : (o : Option Mark) (l : Label) (us : Vertices) → Able o l us → Rel o l us 0 (map zeros l.outs) (node (vertex l us)).does.initial (node (period_by o (vertex l us))).does.initial
rel-first None l us able = refl
rel-first (Some m) l us able = subst (λ cs. Kept m l us 0 (map zeros l.outs) (node (vertex l us)).does.initial (graph_initial cs)) (sym (level-is m l us)) first
  where
    first : Kept m l us 0 (map zeros l.outs) (node (vertex l us)).does.initial (graph_initial (level m l us))
    first = record {
      long = long_map zeros l.outs;
      counted = refl;
      keeps = λ i lt.
          ap (λ o. with_node o [] (λ c. c.does.initial []))
          (found_at (level m l us) (suc i) (kid m l us i) (level-distinct m l us able.0) (at_below (kid m l us) (length l.outs) (heart m l us ∷ []) i lt))
          ∙ ap (λ v. v ∷ []) (zeros-at l.outs i lt);
      runs = λ p.
          ap (λ o. with_node o [] (λ c. c.does.initial (Numbered 0 ∷ Named (codes "run") ∷ p)))
          (found_at (level m l us) (suc (length l.outs)) (heart m l us) (level-distinct m l us able.0) (past_below (kid m l us) (length l.outs) (heart m l us) []));
    }

module _ (k : ℕ) (gave : ℕ → Values) (kept : Values) (st st' : State) (row : Values) (look : Source → Vector) where
  -- what is held is what is kept
  abbrev pub Holds : Option Mark → Type 0
  Holds None = Unit {0}
  Holds (Some m) = ((k % m.every) == 0) ≡ false → gave (k - (k % m.every)) ≡ kept

  module _ (m : Mark) (l : Label) (us : Vertices) (able : Able (Some m) l us) where
    open-guards : {A : Type 0} (x y : A) → x ≡ cond (all_hold look l.guards) x y
    open-guards x y = ap (λ gs. cond (all_hold look gs) x y) (sym able.0.guards)

    abbrev ins : Values
    ins = map look l.ins

    abbrev now : Bool → Node
    now b = held_by (cond b None (Some (gave (k - (k % m.every))))) (node (vertex l us))

    outputs-by : (b : Bool) → (b ≡ false → gave (k - (k % m.every)) ≡ kept) → cond b (plain_outputs m l us row st ins) kept ≡ node_outputs row st look (now b)
    outputs-by true h = sym (blind l.kind l.outs (nodes us) row st look l.ins) ∙ open-guards (kind_outputs l.kind l.outs (nodes us) row st (map look (asked_by l.kind l.ins))) (map zeros l.outs)
    outputs-by false h = sym (h refl) ∙ open-guards (gave (k - (k % m.every))) (map zeros l.outs)

    next-by : (b : Bool) → cond b (plain_next m l us row st ins) st ≡ node_next row st look (now b)
    next-by true = open-guards (plain_next m l us row st ins) st
    next-by false = open-guards st st

    made-gives : Kept m l us k kept st st' → Holds (Some m) → node_outputs row st' look (node (period m l us)) ≡ node_outputs row st look (now ((k % m.every) == 0))
    made-gives rel holds =
        ap (λ cs. graph_outputs (map (Of (suc (length l.outs))) (numbers_below (length l.outs))) cs row st' ins) (level-is m l us)
        ∙ level-gives m l us able.0 able.1 k kept st st' rel row ins (long_map look l.ins)
        ∙ outputs-by ((k % m.every) == 0) holds

    made-keeps : Kept m l us k kept st st' → Holds (Some m)
        → Kept m l us (suc k) (node_outputs row st look (now ((k % m.every) == 0))) (node_next row st look (now ((k % m.every) == 0))) (node_next row st' look (node (period m l us)))
    made-keeps rel holds =
        convert m l us (suc k) _ _ _ _ _ _ (level-keeps m l us able.0 able.1 k kept st st' rel row ins (long_map look l.ins) (level-distinct m l us able.0))
        (outputs-by ((k % m.every) == 0) holds) (next-by ((k % m.every) == 0)) (ap (λ cs. graph_next cs row st' ins) (sym (level-is m l us)))

  pub rel-outputs : (o : Option Mark) (l : Label) (us : Vertices) → Able o l us → Rel o l us k kept st st' → Holds o
      → node_outputs row st' look (node (period_by o (vertex l us))) ≡ node_outputs row st look (held_by (held_in o k gave) (node (vertex l us)))
  rel-outputs None l us able rel holds = ap (λ s. node_outputs row s look (node (vertex l us))) rel
  rel-outputs (Some m) l us able rel holds = made-gives m l us able rel holds

  pub rel-next : (o : Option Mark) (l : Label) (us : Vertices) → Able o l us → Rel o l us k kept st st' → Holds o
      → Rel o l us (suc k) (node_outputs row st look (held_by (held_in o k gave) (node (vertex l us)))) (node_next row st look (held_by (held_in o k gave) (node (vertex l us))))
      (node_next row st' look (node (period_by o (vertex l us))))
  rel-next None l us able rel holds = ap (λ s. node_next row s look (node (vertex l us))) rel
  rel-next (Some m) l us able rel holds = made-keeps m l us able rel holds
