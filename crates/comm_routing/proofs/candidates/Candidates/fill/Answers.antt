use Rattle.std.proofs.Common.{List, Option, ℕ, ap, arith, inl, length, nat_eq, refl, subst, sym, ◌∙◌}
use Rattle.std.specs.List.{list_any}
use Rattle.std.proofs.lemmas.List.{with_items_is}
use Rattle.comm_routing.specs.Candidates.{AreUnknown, row_at}
use Rattle.comm_routing.proofs.Ordered.{set_there}
use Rattle.comm_routing.proofs.candidates.Candidates.fill.Goals as goal

pub returns : goal.returns
returns c =
    let long = c.as_mut_slice.ensures.len in
    let size = c.forget.ensures.size in
    let rows = with_items_is c.args.self.now.arrivals c.forget.new.rows (omega arith) in
    record {
      size = record {
        flags = c.mark_all.ensures.listed.flags;
        list = c.mark_all.ensures.listed.list;
        count = c.mark_all.ensures.listed.count;
        arrivals = ap length rows ∙ size ∙ ap length c.as_mut_slice.ensures.value ∙ c.requires.size.arrivals;
        dependents = c.requires.size.dependents;
      };
      dependents = refl;
      flags = c.mark_all.ensures.marked;
      ready = c.mark_all.ensures.listed.ready;
      arrivals = λ v l f. inl (subst (λ (xs : List (List (Option ℕ))). AreUnknown (row_at xs v)) (sym rows)
          (c.forget.ensures.forgotten v (ap (list_any (nat_eq v)) c.mark_all.ensures.listed.ready ∙ set_there c.mark_all.new.self.flags.items v f)));
    }
