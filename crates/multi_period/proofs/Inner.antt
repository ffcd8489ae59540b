-- What the graph does that a marked reference becomes.
use Rattle.std.proofs.Common.{◌≡◌, pos, ℕ, suc, ◌%◌, ◌==◌, ◌<◌, List, [], ◌∷◌, ◌++◌, length, map, drop, Bool, true, false, cond, slice_index_or, codes, refl, sym, ap, ap₂, ◌∙◌, append-nil, arith}
use Rattle.std.proofs.lemmas.List.{map-append}
use mathlib.Core.Path.{fun_ext}
use Rattle.algo_tree.specs.declared.Source.{Source}
use Rattle.algo_tree.specs.declared.Source.TheVariants.{Of}
use Rattle.algo_tree.specs.declared.Part.TheVariants.{Named, Numbered}
use Rattle.algo_tree.specs.Level.{
  State,
  Path,
  Node,
  below,
  source_value,
  with_node,
  node_outputs,
  node_next,
  out,
  level_value,
  case_look,
  case_outputs,
  graph_outputs,
  graph_next,
  switch_outputs,
  switch_next,
}
use Rattle.algo_tree.specs.Parts.{HasDistinctParts}
use Rattle.algo_tree.specs.Tree.{Label, Vertices}
use Rattle.algo_tree.specs.Meaning.{kind_outputs, kind_next, node, nodes}
use Rattle.algo_tree.specs.View.{vertices_of}
use Rattle.algo_tree.proofs.LevelViews.{nodes-vertices_of}
use Rattle.algo_tree.proofs.Appends.{blind}
use Rattle.multi_period.specs.declared.mark.Mark.{Mark}
use Rattle.multi_period.specs.Marks.{IsMark}
use Rattle.multi_period.specs.Periods.{count, keep_name, keep, inputs_from, run, when_runs, otherwise, body}
use Rattle.multi_period.proofs.Lists.{map_map, long_append, long_below, map_below, at_below, past_below, all_below, inputs_are}
use Rattle.multi_period.proofs.Turns.{counts, turn, count_first}
use Rattle.multi_period.proofs.Found.{found_at}
use Rattle.syn_base.specs.Vectors.{Vector, Values, vector_at}
use Rattle.syn_base.specs.Numbers.{numbers_below}

module _ (m : Mark) (l : Label) (us : Vertices) where
  abbrev pub q : ℕ
  q = length l.outs

  abbrev pub kid : ℕ → Node
  kid i = node (keep l i)

  abbrev pub heart : Node
  heart = node (body l us)

  abbrev pub kids : List Node
  kids = map kid (numbers_below q) ++ heart ∷ []

  abbrev pub level : List Node
  level = node (count m.every) ∷ kids

  pub level-is : nodes (vertices_of (count m.every ∷ (map (keep l) (numbers_below q) ++ body l us ∷ []))) ≡ level
  level-is =
      nodes-vertices_of (count m.every ∷ (map (keep l) (numbers_below q) ++ body l us ∷ []))
      ∙ ap (λ xs. node (count m.every) ∷ xs) (map-append node (map (keep l) (numbers_below q)) (body l us ∷ []) ∙ ap (λ xs. xs ++ heart ∷ []) (map_map node (keep l) (numbers_below q)))

  pub long-level : length level ≡ suc (suc q)
  long-level = let a = long_append (map kid (numbers_below q)) (heart ∷ []) in let b = long_below kid q in omega (arith, a, b)

  -- What stands below the graph before reaction k, where these outputs are kept and the reference itself would have this state.
  pub record Kept (k : ℕ) (kept : Values) (st st' : State) : Type 0 where
    pub long : length kept ≡ q
    pub counted : st' (Named (codes "count") ∷ []) ≡ counts m.every k
    pub keeps : (i : ℕ) → i < q → st' (Named (keep_name l.names i) ∷ []) ≡ vector_at kept i ∷ []
    pub runs : (p : Path) → st' (Named (codes "body") ∷ Numbered 0 ∷ Named (codes "run") ∷ p) ≡ st p

  -- what the reference itself gives
  abbrev pub plain_outputs : Values → State → Values → Values
  plain_outputs row st ins = kind_outputs l.kind l.outs (nodes us) row st ins

  abbrev pub plain_next : Values → State → Values → State
  plain_next row st ins = kind_next l.kind (nodes us) row st ins

  module _ (mark : IsMark m l) (wide : (row : Values) (st : State) (ins : Values) → length (plain_outputs row st ins) ≡ q) where
    module _ (k : ℕ) (kept : Values) (st st' : State) (h : Kept k kept st st') (row ins : Values) (fed : length ins ≡ length l.ins) where
      abbrev pub runs_now : Bool
      runs_now = (k % m.every) == 0

      abbrev look : ℕ → Source → Vector
      look fuel = source_value ins (out level row st' ins fuel)

      counted-at : (fuel : ℕ) → look (suc fuel) (Of 0 0) ≡ turn runs_now
      counted-at fuel = ap (λ vs. slice_index_or vs 0 []) h.counted ∙ count_first m.every k mark.some

      kept-at : (fuel i : ℕ) → i < q → look (suc fuel) (Of (suc i) 0) ≡ vector_at kept i
      kept-at fuel i lt =
          ap (λ o. vector_at (with_node o [] (λ c. node_outputs row (below c.part st') (look fuel) c)) 0) (at_below kid q (heart ∷ []) i lt)
          ∙ ap (λ vs. slice_index_or vs 0 []) (h.keeps i lt)

      -- the inputs of the switch
      abbrev handed : Bool → Values
      handed b = turn b ∷ (ins ++ kept)

      handed-is : (fuel : ℕ) → map (look (suc fuel)) heart.ins ≡ handed runs_now
      handed-is fuel =
          ap₂ (λ v vs. v ∷ vs) (counted-at fuel)
          (map-append (look (suc fuel)) (inputs_from 0 (length l.ins)) (map (λ i. Of (suc i) 0) (numbers_below q))
          ∙ ap₂ (λ xs ys. xs ++ ys)
          (ap (λ xs. map (source_value xs (out level row st' ins (suc fuel))) (inputs_from 0 (length l.ins))) (sym (append-nil ins))
          ∙ inputs_are [] ins [] (out level row st' ins (suc fuel)) 0 (length l.ins) refl fed)
          (map_map (look (suc fuel)) (λ i. Of (suc i) 0) (numbers_below q) ∙ map_below (λ i. look (suc fuel) (Of (suc i) 0)) (vector_at kept) q (λ i lt. kept-at fuel i lt) ∙ all_below kept q h.long))

      -- where the reference stands
      abbrev deep : State
      deep = below (Named (codes "body")) st'

      abbrev deeper : State
      deeper = below (Numbered 0) deep

      abbrev deepest : State
      deepest = below (Named (codes "run")) deeper

      same-state : deepest ≡ st
      same-state = fun_ext h.runs

      run-inputs : (given : ℕ → Values) → map (source_value ins given) (inputs_from 0 (length l.ins)) ≡ ins
      run-inputs given = ap (λ xs. map (source_value xs given) (inputs_from 0 (length l.ins))) (sym (append-nil ins)) ∙ inputs_are [] ins [] given 0 (length l.ins) refl fed

      case-inputs : (b : Bool) → map (case_look (handed b)) (inputs_from 1 (length l.ins)) ≡ ins
      case-inputs b = inputs_are (turn b ∷ []) ins kept (λ _. []) 1 (length l.ins) refl fed

      kept-inputs : (b : Bool) → map (case_look (handed b)) (inputs_from (suc (length l.ins)) q) ≡ kept
      kept-inputs b =
          ap (λ xs. map (case_look (turn b ∷ (ins ++ xs))) (inputs_from (suc (length l.ins)) q)) (sym (append-nil kept))
          ∙ inputs_are (turn b ∷ ins) kept [] (λ _. []) (suc (length l.ins)) q (ap suc fed) h.long

      level-run : List Node
      level-run = node (run l us) ∷ []

      case-runs : graph_outputs (map (Of 0) (numbers_below q)) (node (run l us) ∷ []) row deeper ins ≡ plain_outputs row st ins
      case-runs =
          map_map (level_value (node (run l us) ∷ []) row deeper ins) (Of 0) (numbers_below q)
          ∙ ap (λ vs. map (vector_at vs) (numbers_below q))
          (blind l.kind l.outs (nodes us) row deepest (source_value ins (out (node (run l us) ∷ []) row deeper ins 0)) (inputs_from 0 (length l.ins))
          ∙ ap (plain_outputs row deepest) (run-inputs (out (node (run l us) ∷ []) row deeper ins 0))
          ∙ ap (λ s. plain_outputs row s ins) same-state)
          ∙ all_below (plain_outputs row st ins) q (wide row st ins)

      case-keeps : (s : State) → graph_outputs (inputs_from 0 q) [] row s kept ≡ kept
      case-keeps s = ap (λ xs. map (source_value xs (out [] row s kept 0)) (inputs_from 0 q)) (sym (append-nil kept)) ∙ inputs_are [] kept [] (out [] row s kept 0) 0 q refl h.long

      -- what the switch gives
      abbrev pub new_outputs : Bool → Values
      new_outputs b = cond b (plain_outputs row st ins) kept

      long-new : (b : Bool) → length (new_outputs b) ≡ q
      long-new true = wide row st ins
      long-new false = h.long

      by-case : (b : Bool) → case_outputs (pos 0 ∷ []) (node (when_runs l us) ∷ node (otherwise l) ∷ []) row deep (handed b) ≡ new_outputs b
      by-case true = ap (graph_outputs (map (Of 0) (numbers_below q)) (node (run l us) ∷ []) row deeper) (case-inputs true) ∙ case-runs
      by-case false = ap (graph_outputs (inputs_from 0 q) [] row (below (Numbered 1) deep)) (kept-inputs false) ∙ case-keeps (below (Numbered 1) deep)

      switched : (b : Bool) → switch_outputs (pos 0 ∷ []) (length l.names) (node (when_runs l us) ∷ node (otherwise l) ∷ []) row deep (handed b) ≡ new_outputs b
      switched b = ap₂ (λ vs n. map (vector_at vs) (numbers_below n)) (by-case b) mark.named ∙ all_below (new_outputs b) q (long-new b)

      heart-gives : (fuel : ℕ) → out level row st' ins (suc (suc fuel)) (suc q) ≡ new_outputs runs_now
      heart-gives fuel =
          ap (λ o. with_node o [] (λ c. node_outputs row (below c.part st') (look (suc fuel)) c)) (past_below kid q heart [])
          ∙ ap (switch_outputs (pos 0 ∷ []) (length l.names) (node (when_runs l us) ∷ node (otherwise l) ∷ []) row deep) (handed-is fuel)
          ∙ switched runs_now

      -- what the graph gives
      pub level-gives : graph_outputs (map (Of (suc q)) (numbers_below q)) level row st' ins ≡ new_outputs runs_now
      level-gives =
          map_map (level_value level row st' ins) (Of (suc q)) (numbers_below q)
          ∙ ap (λ n. map (vector_at (out level row st' ins n (suc q))) (numbers_below q)) long-level
          ∙ ap (λ vs. map (vector_at vs) (numbers_below q)) (heart-gives q)
          ∙ all_below (new_outputs runs_now) q (long-new runs_now)

      -- what it keeps
      pub level-keeps : HasDistinctParts level → Kept (suc k) (new_outputs runs_now) (cond runs_now (plain_next row st ins) st) (graph_next level row st' ins)
      level-keeps distinct = record {
        long = long-new runs_now;
        counted =
            ap (λ v. drop 1 (st' (Named (codes "count") ∷ [])) ++ v ∷ []) (ap (λ n. look n (Of 0 0)) long-level)
            ∙ ap (λ vs. drop 1 vs ++ slice_index_or vs 0 [] ∷ []) h.counted;
        keeps = λ i lt.
            ap (λ o. with_node o (st' (Named (keep_name l.names i) ∷ []))
            (λ c. node_next row (below c.part st') (level_value level row st' ins) c []))
            (found_at level (suc i) (kid i) distinct (at_below kid q (heart ∷ []) i lt))
            ∙ ap (λ vs. drop 1 vs ++ level_value level row st' ins (Of (suc q) i) ∷ []) (h.keeps i lt)
            ∙ ap (λ n. vector_at (out level row st' ins n (suc q)) i ∷ []) long-level
            ∙ ap (λ vs. vector_at vs i ∷ []) (heart-gives q);
        runs = λ p.
            ap (λ o. with_node o (st' (Named (codes "body") ∷ Numbered 0 ∷ Named (codes "run") ∷ p))
            (λ c. node_next row (below c.part st') (level_value level row st' ins) c (Numbered 0 ∷ Named (codes "run") ∷ p)))
            (found_at level (suc q) heart distinct (past_below kid q heart []))
            ∙ ap (λ n. switch_next (pos 0 ∷ []) (node (when_runs l us) ∷ node (otherwise l) ∷ []) row deep (map (look n) heart.ins) (Numbered 0 ∷ Named (codes "run") ∷ p)) long-level
            ∙ ap (λ vs. switch_next (pos 0 ∷ []) (node (when_runs l us) ∷ node (otherwise l) ∷ []) row deep vs (Numbered 0 ∷ Named (codes "run") ∷ p)) (handed-is (suc q))
            ∙ next-by runs_now p;
      }
        where
          next-by : (b : Bool) (p : Path)
              → switch_next (pos 0 ∷ []) (node (when_runs l us) ∷ node (otherwise l) ∷ []) row deep (handed b)
              (Numbered 0 ∷ Named (codes "run") ∷ p) ≡ cond b (plain_next row st ins) st p
          next-by true p =
              ap (λ xs. graph_next (node (run l us) ∷ []) row deeper xs (Named (codes "run") ∷ p)) (case-inputs true)
              ∙ ap (λ xs. plain_next row deepest xs p) (run-inputs (out (node (run l us) ∷ []) row deeper ins 1))
              ∙ ap (λ s. plain_next row s ins p) same-state
          next-by false p = h.runs p
