use Rattle.std.proofs.Common.{◌≡◌, ◌+◌, ◌-◌, ◌<◌, length, get_or, take, drop, arith, sym, ap, ap₂, subst, ◌∙◌, [], List, ℤ}
use Rattle.std.proofs.lemmas.List.{get_or_default, length-map}
use Rattle.syn_base.specs.Rows.{Reactions, cut_all, vector_of}
use Rattle.syn_base.proofs.Cut.{vector-at, reaction-at}
use Rattle.syn_base.proofs.rows.Rows.vector.Goals as goal

pub returns-clause-value : goal.returns-clause-value
returns-clause-value c =
    let shape = c.self.inside.shape in
    let rows = c.self.inside.rows.items in
    let v_in : c.args.vector < length shape = subst (λ (r : Reactions). c.args.vector < length r.lens) (sym c.self.view_is) c.requires.vector in
    let k_in : c.args.k < length (cut_all shape rows) = subst (λ (r : Reactions). c.args.k < length r.reactions) (sym c.self.view_is) c.requires.reaction in
    let k_lt : c.args.k < length rows = simp length-map at k_in in
    let row_is : c.as_slice.result.now ≡ get_or rows c.args.k [] = c.as_slice.ensures ∙ c.index.ensures ∙ get_or_default rows c.args.k c.index.result.now [] k_lt in
    let len : c.start-start.result + c.len_of-len.result - c.start-start.result ≡ get_or shape c.args.vector 0 = omega (arith, c.len_of-len.ensures) in
    let start = ap₂ drop c.start-start.ensures.start row_is in
    ap₂ take len start ∙ sym (vector-at shape (get_or rows c.args.k []) c.args.vector v_in) ∙ ap (λ (r : List (List ℤ)). get_or r c.args.vector []) (sym (reaction-at shape rows c.args.k k_lt))
    ∙ ap (λ (r : Reactions). vector_of r.reactions c.args.k c.args.vector) c.self.view_is
