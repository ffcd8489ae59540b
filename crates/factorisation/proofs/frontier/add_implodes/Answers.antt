use Rattle.std.proofs.Common.{◌≡◌, ℕ, suc, ◌+◌, ◌<◌, List, [], ◌∷◌, ◌++◌, length, get_or, map, drop, drop-cons, refl, sym, ap, ap₂, ◌∙◌, arith, append_assoc, append-nil}
use Rattle.std.proofs.lemmas.List.{map_push}
use Rattle.algo_tree.specs.declared.Give.{Give}
use Rattle.algo_tree.specs.declared.Give.TheVariants.{Last, Join}
use Rattle.algo_tree.specs.Tree.{Vertex}
use Rattle.algo_tree.specs.View.{view}
use Rattle.flat_laws.specs.Unrolled.{implode_of, implodes}
use Rattle.factorisation.proofs.frontier.add_implodes.Goals.{in-Join+in_ok-implode+in_ok-push, in_default}
use Rattle.factorisation.proofs.frontier.add_implodes.Goals as goal

-- one line more, which adds these vertices
line_more : (d : List ℕ) (c n : ℕ) (outs : List ℕ) (gs : List Give) (i j : ℕ) (g : Give) (old new more all : List Vertex) → i < length gs → g ≡ get_or gs i g
    → ((rest : List Give) → implodes d c n outs j (g ∷ rest) ≡ more ++ implodes d c n outs (suc j) rest) → new ≡ old ++ more
    → old ++ implodes d c n outs j (drop i gs) ≡ all → new ++ implodes d c n outs (j + 1) (drop (i + 1) gs) ≡ all
line_more d c n outs gs i j g old new more all lt at adds new_is so_far =
    let one : suc i ≡ i + 1 = omega arith in
    let next : suc j ≡ j + 1 = omega arith in
    let rest = drop (i + 1) gs in
    let split : drop i gs ≡ g ∷ rest = drop-cons gs i g lt ∙ ap₂ (λ h k. h ∷ drop k gs) (sym at) one in
    ap (λ vs. vs ++ implodes d c n outs (j + 1) rest) new_is ∙ append_assoc old more (implodes d c n outs (j + 1) rest) ∙ ap (λ k. old ++ (more ++ implodes d c n outs k rest)) (sym next)
    ∙ ap (λ vs. old ++ vs) (sym (adds rest)) ∙ ap (λ hs. old ++ implodes d c n outs j hs) (sym split) ∙ so_far

join_adds : (d : List ℕ) (c n : ℕ) (outs : List ℕ) (j : ℕ) (g : Give) (name text : List ℕ) (y len : ℕ) (v : Vertex) → g ≡ Join name y
    → text ≡ name → len ≡ get_or outs j 0 → v ≡ implode_of d c n text y len
    → (rest : List Give) → implodes d c n outs j (g ∷ rest) ≡ (v ∷ []) ++ implodes d c n outs (suc j) rest
join_adds d c n outs j g name text y len v is text_is len_is made rest =
    ap (λ h. implodes d c n outs j (h ∷ rest)) is ∙ ap (λ u. u ∷ implodes d c n outs (suc j) rest) (sym (made ∙ ap₂ (λ t l. implode_of d c n t y l) text_is len_is))

other_adds : (d : List ℕ) (c n : ℕ) (outs : List ℕ) (j : ℕ) (g : Give) → ((name : List ℕ) (y : ℕ) → g ≡ Join name y → ⊥)
    → (rest : List Give) → implodes d c n outs j (g ∷ rest) ≡ [] ++ implodes d c n outs (suc j) rest
other_adds d c n outs j (Join name y) not rest = absurd (not name y refl)
other_adds d c n outs j (Last y) not rest = refl

pub loop-give-preserved : goal.loop-give-preserved
loop-give-preserved c =
    let d = c.args.definition.now in
    let b = c.args.copies.begin in
    let n = c.args.copies.count in
    let outs = c.args.outs.now in
    let j = c.loop-give.place in
    let g = c.give-item.result in
    let old = map view c.loop-give.all.items in
    record {
      at = omega (arith, c.loop-give.invariant.at);
      so_far =
          elim c.match-give.branch [
            | in-Join+in_ok-implode+in_ok-push w ↦
                line_more d b n outs c.args.gives.now c.loop-give.give-index j g old (map view c.match-give.all.items) (view w.in_ok-implode.field-0 ∷ []) _ c.loop-give-test.true c.give-item.is
                (join_adds d b n outs j g w.in-Join.name w.as_slice-name.result.now w.in-Join.output w.len_at-len.result
                (view w.in_ok-implode.field-0) w.in-Join.is w.as_slice-name.ensures w.len_at-len.ensures w.in_ok-implode.ensures)
                (ap (λ a. map view a.items) w.all-is ∙ ap (map view) w.in_ok-push.ensures.items ∙ map_push view c.loop-give.all.items w.in_ok-implode.field-0) c.loop-give.invariant.so_far
            | in_default w ↦
                line_more d b n outs c.args.gives.now c.loop-give.give-index j g old (map view c.match-give.all.items) [] _ c.loop-give-test.true c.give-item.is
                (other_adds d b n outs j g w.in_default.not-Join)
                (ap (λ a. map view a.items) w.all-is ∙ sym (append-nil old)) c.loop-give.invariant.so_far
          ];
    }
