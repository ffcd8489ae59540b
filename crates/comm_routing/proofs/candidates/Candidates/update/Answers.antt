use Rattle.std.proofs.Common.{ap, arith, length, refl, sym, ◌∙◌}
use Rattle.std.proofs.lemmas.List.{with_items_is}
use Rattle.comm_routing.proofs.Depending.{list_is}
use Rattle.comm_routing.proofs.Renewal.{AreMarked, arrivals_right, dependents_low, flags_right}
use Rattle.comm_routing.proofs.candidates.Candidates.update.Goals as goal

pub mark_each-requires-clause-operations : goal.mark_each-requires-clause-operations
mark_each-requires-clause-operations c =
    let s = c.requires.size.dependents in
    let l = c.requires.behind.operation in
    dependents_low c.args.vertices.now c.args.board.now c.args.placed c.args.self.now c.requires.behind _
    (c.as_slice-dependents.ensures.value ∙ sym (list_is c.args.self.now.dependents.items c.args.placed c.index.result.now (omega arith) c.index.ensures))

pub forget-requires-clause-operations : goal.forget-requires-clause-operations
forget-requires-clause-operations c = λ k d m.
    let s = c.requires.size.dependents in
    let l = c.requires.behind.operation in
    let low = dependents_low c.args.vertices.now c.args.board.now c.args.placed c.args.self.now c.requires.behind _
    (c.as_slice-dependents.ensures.value ∙ sym (list_is c.args.self.now.dependents.items c.args.placed c.index.result.now (omega arith) c.index.ensures)) k d m in
    let long = ap length c.as_mut_slice.ensures.value in
    let size = c.requires.size.arrivals in
    omega arith

pub returns : goal.returns
returns c =
    let s = c.requires.size.dependents in
    let o = c.requires.behind.operation in
    let long = c.as_mut_slice.ensures.len in
    let size = c.forget.ensures.size in
    let rows = with_items_is c.args.self.now.arrivals c.forget.new.rows (omega arith) in
    let marked : AreMarked c.args.vertices.now c.args.board.now c.args.placed c.args.self.now c.as_slice-dependents.result.now c.mark_one.new.self.flags.items c.mark_each.new.self.flags.items
    = record {
      behind = c.requires.behind;
      size = c.requires.size.flags;
      dependents_are = c.as_slice-dependents.ensures.value ∙ sym (list_is c.args.self.now.dependents.items c.args.placed c.index.result.now (omega arith) c.index.ensures);
      first = c.mark_one.ensures.marked;
      marked = c.mark_each.ensures.marked;
      others = c.mark_each.ensures.others;
    } in
    record {
      size = record {
        flags = c.mark_each.ensures.listed.flags;
        list = c.mark_each.ensures.listed.list;
        count = c.mark_each.ensures.listed.count;
        arrivals = ap length rows ∙ size ∙ ap length c.as_mut_slice.ensures.value ∙ c.requires.size.arrivals;
        dependents = c.requires.size.dependents;
      };
      dependents = refl;
      flags = flags_right c.args.vertices.now c.args.board.now c.args.placed c.args.self.now c.as_slice-dependents.result.now c.mark_one.new.self.flags.items c.mark_each.new.self.flags.items marked;
      ready = c.mark_each.ensures.listed.ready;
      arrivals = arrivals_right c.args.vertices.now c.args.board.now c.args.placed c.args.self.now c.as_slice-dependents.result.now
          c.mark_one.new.self.flags.items c.mark_each.new.self.flags.items marked
          c.args.keeps c.mark_each.new.self c.args.self.now.arrivals.items c.forget.new.rows _ refl c.mark_each.ensures.listed.ready
          c.as_mut_slice.ensures.value rows c.forget.ensures.forgotten c.forget.ensures.kept;
    }
