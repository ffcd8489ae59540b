use Rattle.std.proofs.Common.{◌≡◌, ◌+◌, ◌<◌, length, get_or, set, take, arith, rules, sym, ap, subst, ◌∙◌, w64, FitsSigned, [], List, ℤ}
use Rattle.std.specs.List.{sum}
use Rattle.std.proofs.lemmas.List.{get_or_default, length-map}
use Rattle.std.proofs.lemmas.Int.{to_z-of_z}
use Rattle.syn_base.specs.Rows.{Reactions, cut_all, with_element}
use Rattle.syn_base.proofs.Cut.{reactions-set}
use Rattle.syn_base.proofs.rows.Rows.set.Goals as goal

-- a condition on the value, of the fields
of_fields : {now seen : Reactions} (P : Reactions → Type 0) → seen ≡ now → P now → P seen
of_fields P is p = subst P (sym is) p

pub overflow_add-place : goal.overflow_add-place
overflow_add-place c =
    let j_in : c.args.j < get_or c.self.inside.shape c.args.vector 0 = of_fields (λ r. c.args.j < get_or r.lens c.args.vector 0) c.self.view_is c.requires.place in
    record { fits = omega (arith, c.start.ensures.inside, c.start.ensures.fits) }

pub set-requires : goal.set-requires
set-requires c =
    let j_in : c.args.j < get_or c.self.inside.shape c.args.vector 0 = of_fields (λ r. c.args.j < get_or r.lens c.args.vector 0) c.self.view_is c.requires.place in
    let k_in : c.args.k < length (cut_all c.self.inside.shape c.self.inside.rows.items) = of_fields (λ r. c.args.k < length r.reactions) c.self.view_is c.requires.reaction in
    let k_lt : c.args.k < length c.self.inside.rows.items = simp length-map at k_in in
    let row_is : c.index_mut.result.now ≡ get_or c.self.inside.rows.items c.args.k [] = c.index_mut.ensures.value ∙ get_or_default c.self.inside.rows.items c.args.k c.index_mut.result.now [] k_lt in
    let long : length c.index_mut.result.now ≡ sum c.self.inside.shape = ap length row_is ∙ c.self.invariant c.args.k k_lt in
    omega (arith, c.start.ensures.inside)

pub returns : goal.returns
returns c =
    let v_in : c.args.vector < length c.self.inside.shape = of_fields (λ r. c.args.vector < length r.lens) c.self.view_is c.requires.vector in
    let j_in : c.args.j < get_or c.self.inside.shape c.args.vector 0 = of_fields (λ r. c.args.j < get_or r.lens c.args.vector 0) c.self.view_is c.requires.place in
    let k_in : c.args.k < length (cut_all c.self.inside.shape c.self.inside.rows.items) = of_fields (λ r. c.args.k < length r.reactions) c.self.view_is c.requires.reaction in
    let k_lt : c.args.k < length c.self.inside.rows.items = simp length-map at k_in in
    let row_is : c.index_mut.result.now ≡ get_or c.self.inside.rows.items c.args.k [] = c.index_mut.ensures.value ∙ get_or_default c.self.inside.rows.items c.args.k c.index_mut.result.now [] k_lt in
    let fits : FitsSigned w64 c.args.v = search rules in
    let value = to_z-of_z w64 c.args.v fits in
    let written : c.set.new.self ≡ set (get_or c.self.inside.rows.items c.args.k []) (sum (take c.args.vector c.self.inside.shape) + c.args.j) c.args.v =
    c.set.ensures ∙ ap (set c.index_mut.result.now (c.start.result + c.args.j)) value
    ∙ ap (λ n. set c.index_mut.result.now (n + c.args.j) c.args.v) c.start.ensures.start
    ∙ ap (λ r. set r (sum (take c.args.vector c.self.inside.shape) + c.args.j) c.args.v) row_is in
    let done = reactions-set c.self.inside.shape c.self.inside.rows.items c.args.k c.args.vector c.args.j c.args.v c.set.new.self k_lt v_in j_in written in
    ap (λ (r : List (List (List ℤ))). record { lens = c.self.inside.shape; reactions = r }) done
    ∙ ap (λ (r : Reactions). record { lens = r.lens; reactions = with_element r.reactions c.args.k c.args.vector c.args.j c.args.v }) c.self.view_is
