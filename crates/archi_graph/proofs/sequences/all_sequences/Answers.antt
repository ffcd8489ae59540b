use Rattle.std.proofs.Common.{◌≡◌, ℕ, suc, ◌+◌, ◌-◌, ◌<◌, List, ◌∷◌, ◌++◌, ap, sym, ◌∙◌, arith, append_assoc}
use Rattle.std.specs.List.{flat_map, range_with_len}
use Rattle.std.proofs.lemmas.List.Concat.{flat_map-cons}
use Rattle.archi_graph.specs.declared.medium.Seq.{Seq}
use Rattle.archi_graph.specs.Sequences.{sequences_of}
use Rattle.archi_graph.proofs.sequences.all_sequences.Goals as goal

range_step : (o n : ℕ) → o < n → range_with_len o (n - o) ≡ o ∷ range_with_len (o + 1) (n - (o + 1))
range_step o n l = let e : n - o ≡ suc (n - (o + 1)) = omega arith in ap (range_with_len o) e

one_more : (f : ℕ → List Seq) (done now all : List Seq) (o n : ℕ) → o < n → done ++ flat_map f (range_with_len o (n - o)) ≡ all → now ≡ done ++ f o
    → now ++ flat_map f (range_with_len (o + 1) (n - (o + 1))) ≡ all
one_more f done now all o n l so_far step =
    ap (λ x. x ++ flat_map f (range_with_len (o + 1) (n - (o + 1)))) step
    ∙ append_assoc done (f o) (flat_map f (range_with_len (o + 1) (n - (o + 1))))
    ∙ ap (λ x. done ++ x) (sym (flat_map-cons f o (range_with_len (o + 1) (n - (o + 1)))))
    ∙ ap (λ x. done ++ flat_map f x) (sym (range_step o n l))
    ∙ so_far

pub loop-operator-preserved : goal.loop-operator-preserved
loop-operator-preserved c =
    one_more (sequences_of c.args.media.now) c.loop-operator.sequences.items c.add_sequences.new.sequences.items _ c.loop-operator.operator
    c.args.operators c.loop-operator-test.true c.loop-operator.invariant c.in_ok-add_sequences.ensures
