-- One more list.
use Rattle.std.proofs.Common.{rules, ◌≡◌, ◌+◌, length, ap, sym, ◌∙◌, List, ℤ}
use Rattle.std.proofs.lemmas.List.{at_drop_all}
use Rattle.word_table.specs.Weaving.{end_from}
use Rattle.word_table.proofs.Starts.{starts_all, starts_more}
use Rattle.word_table.proofs.weaving.starts_of.Goals as goal

pub loop-list-preserved : goal.loop-list-preserved
loop-list-preserved c =
    let after : c.in-Some.after ≡ c.loop-list.next + length c.as_slice.result.now = search rules in
    starts_more c.args.elements.now c.loop-list.list-index c.list-item.result c.loop-list.next c.in-Some.after c.args.first
    c.loop-list.starts.items c.push.new.self.items c.loop-list-test.true c.list-item.is
    (after ∙ ap (λ (l : List ℤ). c.loop-list.next + length l) c.as_slice.ensures) c.in_ok-push.ensures.items c.loop-list.invariant

pub returns-clause-starts : goal.returns-clause-starts
returns-clause-starts c = starts_all c.args.elements.now c.loop-list.list-index c.loop-list.next c.loop-list.starts.items _ c.loop-list-test.false c.loop-list.invariant.0

pub returns-clause-end : goal.returns-clause-end
returns-clause-end c = sym (at_drop_all (end_from c.loop-list.next) c.args.elements.now c.loop-list.list-index c.loop-list-test.false) ∙ c.loop-list.invariant.1
