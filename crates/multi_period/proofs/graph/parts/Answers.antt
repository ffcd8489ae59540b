use Rattle.std.proofs.Common.{◌≡◌, ◌∙◌, ◌+◌, ◌∷◌, [], ◌++◌, ℕ, List, length, map, ap, ap₂, sym, add-one, arith}
use Rattle.std.proofs.lemmas.List.{map_push}
use Rattle.algo_tree.specs.Tree.{Vertex as Plain}
use Rattle.algo_tree.specs.View.{view}
use Rattle.algo_tree.specs.declared.vertex.Vertex.{Vertex}
use Rattle.multi_period.specs.Periods.{body, count, keep}
use Rattle.multi_period.specs.Seen.{inside_seen, label_seen}
use Rattle.multi_period.proofs.graph.parts.Goals as goal
use Rattle.syn_base.specs.Numbers.{numbers_below}

-- one vertex more
one_more : (us : List Vertex) (u : Vertex) (first : Plain) (made : ℕ → Plain) (n : ℕ) → map view us ≡ first ∷ map made (numbers_below n) → view u ≡ made n
    → map view (us ++ u ∷ []) ≡ first ∷ map made (numbers_below (n + 1))
one_more us u first made n e is =
    map_push view us u
    ∙ ap₂ (λ (vs : List Plain) (v : Plain). vs ++ v ∷ []) e is
    ∙ ap (λ (vs : List Plain). first ∷ vs) (sym (map_push made (numbers_below n) n))
    ∙ ap (λ (m : ℕ). first ∷ map made (numbers_below m)) (sym (add-one n))

-- the last vertex
with_last : (us : List Vertex) (u : Vertex) (first last : Plain) (made : ℕ → Plain) (n m : ℕ) → map view us ≡ first ∷ map made (numbers_below n) → n ≡ m → view u ≡ last
    → map view (us ++ u ∷ []) ≡ first ∷ (map made (numbers_below m) ++ last ∷ [])
with_last us u first last made n m e same is =
    map_push view us u
    ∙ ap₂ (λ (vs : List Plain) (v : Plain). vs ++ v ∷ []) e is
    ∙ ap (λ (k : ℕ). first ∷ (map made (numbers_below k) ++ last ∷ [])) same

pub loop-output-init : goal.loop-output-init
loop-output-init c =
    ap (λ (us : List Vertex). map view us) c.in_ok-all.ensures.items ∙ ap (λ (v : Plain). v ∷ []) c.in_ok-count.ensures

pub loop-output-preserved : goal.loop-output-preserved
loop-output-preserved c =
    ap (λ (us : List Vertex). map view us) c.in_ok-push.ensures.items
    ∙ one_more c.loop-output.all.items c.in_ok-keep.field-0 (count c.args.mark.every) (keep (label_seen c.args.vertex.now)) c.loop-output.output
    c.loop-output.invariant c.in_ok-keep.ensures

pub returns : goal.returns
returns c =
    let label = label_seen c.args.vertex.now in
    let all : c.loop-output.output ≡ length label.outs = omega (arith, c.requires.ports.outs) in
    ap (λ (us : List Vertex). map view us) c.in_ok-push-2.ensures.items
    ∙ with_last c.loop-output.all.items c.in_ok-body.field-0 (count c.args.mark.every) (body label (inside_seen c.args.vertex.now)) (keep label)
    c.loop-output.output (length label.outs) c.loop-output.invariant all c.in_ok-body.ensures
