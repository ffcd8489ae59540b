use Rattle.std.proofs.Common.{List, Option, ℕ, ap, arith, length, subst, sym, ◌∙◌}
use Rattle.std.proofs.lemmas.List.{with_items_is}
use Rattle.comm_routing.specs.Candidates.{HasOneMore}
use Rattle.comm_routing.proofs.candidates.Candidates.keep.Goals as goal

pub returns-clause-size : goal.returns-clause-size
returns-clause-size c =
    let long = c.as_mut_slice.ensures.len in
    let size = c.put.ensures.size in
    ap length (with_items_is c.args.self.now.arrivals c.put.new.rows (omega arith)) ∙ size ∙ ap length c.as_mut_slice.ensures.value

pub returns-clause-kept : goal.returns-clause-kept
returns-clause-kept c =
    let long = c.as_mut_slice.ensures.len in
    let size = c.put.ensures.size in
    subst (λ (xs : List (List (Option ℕ))). HasOneMore c.args.self.now.arrivals.items xs c.args.op c.args.operator c.args.date)
    (sym (with_items_is c.args.self.now.arrivals c.put.new.rows (omega arith)))
    (subst (λ (xs : List (List (Option ℕ))). HasOneMore xs c.put.new.rows c.args.op c.args.operator c.args.date) c.as_mut_slice.ensures.value c.put.ensures.kept)
