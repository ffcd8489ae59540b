-- Nothing is laid out for others.
use Rattle.std.proofs.Common.{◌≡◌, ℕ, Bool, false, cond, List, [], ◌∷◌, ◌++◌, map, length, refl, sym, ap, subst, ◌∙◌}
use Rattle.std.specs.Prelude.{replicate, OnOk}
use Rattle.std.proofs.lemmas.List.{length-map}
use Rattle.executive_program.specs.Graph.{len_of, lens_of}
use Rattle.operation_desks.proofs.opening.push_lens_if.Goals as goal

none_of : (xs : List ℕ) → map (λ (l : ℕ). cond false l 0) xs ≡ replicate (length xs) 0
none_of [] = refl
none_of (x ∷ xs) = ap (λ (l : List ℕ). 0 ∷ l) (none_of xs)

pub returns-else-mine : goal.returns-else-mine
returns-else-mine c =
    let vs = c.args.flat.now.vertices in
    let ss = c.args.sources.now in
    let off : c.args.mine ≡ false = c.if-mine.false in
    let e : map (λ (l : ℕ). cond c.args.mine l 0) (lens_of vs ss) ≡ replicate (length ss) 0 =
    ap (λ (b : Bool). map (λ (l : ℕ). cond b l 0) (lens_of vs ss)) off ∙ none_of (lens_of vs ss) ∙ ap (λ (n : ℕ). replicate n 0) (length-map ss (len_of vs)) in
    subst (λ (l : List ℕ). OnOk c.push_empty.result (c.push_empty.new.lens.items ≡ c.args.lens.now.items ++ l)) (sym e) c.push_empty.ensures
