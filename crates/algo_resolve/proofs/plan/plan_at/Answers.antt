use Rattle.std.proofs.Common.{◌≡◌, List, ℕ, ap, ap₂, sym, subst, ◌∙◌}
use Rattle.std.proofs.lemmas.Option.{get_or_from_slice_get}
use Rattle.algo_check.specs.Linked.{named}
use Rattle.algo_laws.specs.declared.Source.{Source}
use Rattle.algo_laws.specs.Tree.{Kind}
use Rattle.algo_laws.specs.Placed.{ArePlaced}
use Rattle.algo_laws.specs.declared.Def.{Def}
use Rattle.algo_laws.specs.Ports.{ports_of}
use Rattle.algo_laws.specs.WellRead.{IsWellRead}
use Rattle.algo_laws.specs.Resolved.{kind_by, vertex_within}
use Rattle.algo_laws.specs.declared.Ports.{Ports}
use Rattle.algo_laws.specs.View.{kind_view}
use Rattle.algo_resolve.specs.Plans.{plan_of, plan_view, planned}
use Rattle.algo_resolve.proofs.Told.{retold}
use Rattle.algo_resolve.proofs.Placed.{places_stand}
use Rattle.algo_resolve.proofs.Planned.{beside, inside}
use Rattle.algo_resolve.proofs.plan.plan_at.Goals as goal

pub kind-requires-clause-placed : goal.kind-requires-clause-placed
kind-requires-clause-placed c =
    let b = c.args.checked.now in
    let d = c.args.def.now in
    subst (λ (ps : List ℕ). ArePlaced b.defs.now b.table.now (named d.body) ps) (c.index-checked-place.is ∙ sym c.as_slice-places.ensures)
    (places_stand b.defs.now b.links.now b.table.now c.requires.ready c.args.place d c.index-checked-place.result
    (inside b.defs.now c.args.place d c.requires.there) c.requires.there c.index-checked-place.is)

pub kind-requires-clause-read : goal.kind-requires-clause-read
kind-requires-clause-read c =
    let ds = c.args.checked.now.defs.now in
    let d = c.args.def.now in
    subst (λ (e : Def). IsWellRead e.body) (get_or_from_slice_get ds c.args.place d d c.requires.there)
    (c.requires.ready.read c.args.place d (inside ds c.args.place d c.requires.there))

pub wires-requires : goal.wires-requires
wires-requires c =
    let b = c.args.checked.now in
    let d = c.args.def.now in
    subst (λ (ps : List ℕ). ArePlaced b.defs.now b.table.now (named d.body) ps) (c.index-checked-place.is ∙ sym c.as_slice-places.ensures)
    (places_stand b.defs.now b.links.now b.table.now c.requires.ready c.args.place d c.index-checked-place.result
    (inside b.defs.now c.args.place d c.requires.there) c.requires.there c.index-checked-place.is)

pub returns : goal.returns
returns c =
    let b = c.args.checked.now in
    let ds = b.defs.now in
    let d = c.args.def.now in
    let low = inside ds c.args.place d c.requires.there in
    let here = sym (get_or_from_slice_get ds c.args.place d d c.requires.there) in
    let own : c.index-checked-place-2.result
    ≡ ports_of ds d.name = beside (λ e. ports_of ds e.name) b.table.now ds c.args.place d c.index-checked-place-2.result
    c.requires.ready.ports low here c.index-checked-place-2.is in
    let kind = c.in_ok-kind.ensures (vertex_within ds 0) ∙ ap (λ (p : Ports). kind_by ds (vertex_within ds 0) p 0 0 d.body) (sym c.index-checked-place-2.is ∙ own) in
    let made : planned d.name c.index-checked-place-2.result (kind_view c.in_ok-kind.kind) c.in_ok-wires.wires ≡ plan_of ds d =
    ap (λ (p : Ports). planned d.name p (kind_view c.in_ok-kind.kind) c.in_ok-wires.wires) own
    ∙ ap (λ (k : Kind). planned d.name (ports_of ds d.name) k c.in_ok-wires.wires) kind
    ∙ ap (λ (ws : List (List Source)). planned d.name (ports_of ds d.name) (kind_by ds (vertex_within ds 0) (ports_of ds d.name) 0 0 d.body) ws) c.in_ok-wires.ensures in
    retold plan_view c.make_plan.result _ (plan_of ds d)
    (ap (λ (p : Ports). planned d.name p (kind_view c.in_ok-kind.kind) c.in_ok-wires.wires) (sym c.index-checked-place-2.is) ∙ made) c.make_plan.ensures
