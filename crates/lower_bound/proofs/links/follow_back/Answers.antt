use Rattle.std.proofs.Common.{◌≡◌, ℕ, ◌+◌, ◌-◌, ◌<◌, List, ◌++◌, length, map, Option, Some, None, ap, arith, subst, sym, ◌∙◌}
use Rattle.std.specs.Prelude.{IfSome}
use Rattle.self_timed.specs.Table.{entry_in}
use Rattle.lower_bound.specs.declared.links.Link.{Link}
use Rattle.lower_bound.specs.Chain.{back_within, chain_back, link_of}
use Rattle.lower_bound.specs.Turns.{at}
use Rattle.lower_bound.proofs.Follow.{last_is, last_within, next_within, on_way, way_all, way_more, way_none}
use Rattle.lower_bound.proofs.links.follow_back.Goals as goal

pub loop-link-init : goal.loop-link-init
loop-link-init c =
    let d = c.args.durations.now in
    let vs = c.args.vertices.now in
    let dates = at c.args.ends.now in
    let n = length c.args.ends.now in
    let e : length vs - 0 ≡ length vs = omega arith in
    let first = c.latest_operation-next.ensures ∙ last_is d.operators (entry_in d) vs c.requires.acyclic dates c.requires.chains n c.requires.size in
    record {
      way = λ i. c.new-links.ensures.items i ++ map (link_of d.operators (entry_in d) vs) (back_within d.operators (entry_in d) vs (e i) (first i));
      within = subst (λ (o : Option ℕ). IfSome o (λ v. v < length vs)) (sym c.latest_operation-next.ensures)
          (last_within d.operators (entry_in d) vs c.requires.acyclic dates c.requires.chains n c.requires.size);
    }

pub loop-link-preserved : goal.loop-link-preserved
loop-link-preserved c =
    let d = c.args.durations.now in
    let vs = c.args.vertices.now in
    let dates = at c.args.ends.now in
    let i = c.loop-link._link in
    let op = c.in-Some.op in
    let links = c.loop-link.links.items in
    let whole = map (link_of d.operators (entry_in d) vs) (chain_back d.operators (entry_in d) vs) in
    let x = c.index-vertices-op.result in
    let next = c.latest_before-next.result in
    let there : op < length vs = subst (λ (o : Option ℕ). IfSome o (λ v. v < length vs)) c.in-Some.is c.loop-link.invariant.within in
    let way = ap (λ (o : Option ℕ). links ++ on_way d.operators (entry_in d) vs c.requires.acyclic dates c.requires.chains i o) (sym c.in-Some.is) ∙ c.loop-link.invariant.way in
    record {
      way = ap (λ (ls : List Link). ls ++ on_way d.operators (entry_in d) vs c.requires.acyclic dates c.requires.chains (i + 1) next) c.in_ok-push.ensures.items
          ∙ way_more d.operators (entry_in d) vs c.requires.acyclic dates c.requires.chains links whole i op c.least-ticks.result x next
          c.loop-link-test.true there c.least-ticks.ensures.same c.index-vertices-op.is c.latest_before-next.ensures way;
      within = next_within d.operators (entry_in d) vs c.requires.acyclic dates c.requires.chains op x next there c.index-vertices-op.is c.latest_before-next.ensures;
    }

pub returns-in_default : goal.returns-in_default
returns-in_default c =
    let d = c.args.durations.now in
    let vs = c.args.vertices.now in
    let dates = at c.args.ends.now in
    let links = c.loop-link.links.items in
    let i = c.loop-link._link in
    way_none d.operators (entry_in d) vs c.requires.acyclic dates c.requires.chains links (map (link_of d.operators (entry_in d) vs) (chain_back d.operators (entry_in d) vs)) i
    (ap (λ (o : Option ℕ). links ++ on_way d.operators (entry_in d) vs c.requires.acyclic dates c.requires.chains i o) (sym c.in_default.is) ∙ c.loop-link.invariant.way)

pub returns : goal.returns
returns c =
    let d = c.args.durations.now in
    let vs = c.args.vertices.now in
    way_all d.operators (entry_in d) vs c.requires.acyclic (at c.args.ends.now) c.requires.chains c.loop-link.links.items
    (map (link_of d.operators (entry_in d) vs)
    (chain_back d.operators (entry_in d) vs)) c.loop-link._link c.loop-link.next c.loop-link-test.false c.loop-link.invariant.way
