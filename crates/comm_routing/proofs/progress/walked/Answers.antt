use Rattle.std.proofs.Common.{◌≤◌, List, ap, arith, length, refl, subst, sym, ◌∙◌}
use Rattle.syn_base.specs.declared.name.Name.{Name}
use Rattle.schedule.specs.declared.Medium.{Medium}
use Rattle.schedule.specs.declared.Source.{Source}
use Rattle.comm_routing.specs.Draft.{drafted}
use Rattle.comm_routing.proofs.Finding.{chosen}
use Rattle.comm_routing.proofs.Sites.{length-reads}
use Rattle.comm_routing.proofs.Steps.{arrival_same, can_walk}
use Rattle.comm_routing.proofs.progress.walked.Goals as goal

pub arrival_on-requires-clause-walks : goal.arrival_on-requires-clause-walks
arrival_on-requires-clause-walks c = record {
  operators = subst (λ (l : List Name). length l ≤ 16) (sym c.operators.ensures.same) c.requires.keeps.told.site.operators;
  routes = ap (λ (l : List Name). length l) c.operators.ensures.same ∙ sym c.requires.keeps.told.site.routes.operators;
  media = subst (λ (l : List Medium). length l ≤ 16) (sym c.media.ensures.same) c.requires.keeps.told.site.media;
}

pub arrival_on-requires-clause-operation : goal.arrival_on-requires-clause-operation
arrival_on-requires-clause-operation c =
    let s = c.args.site.now in
    let p = c.args.progress.now in
    let d = drafted s p.decisions.items in
    let there = (chosen d p.board c.args.reads.now p.candidates c.requires.keeps c.args.op c.args.operator c.requires.may).there in
    let reads = ap (λ (l : List (List Source)). length l) c.requires.keeps.told.reads_are ∙ length-reads s.flat.now.vertices in
    omega arith

pub arrival_on-requires-clause-operator : goal.arrival_on-requires-clause-operator
arrival_on-requires-clause-operator c =
    let s = c.args.site.now in
    let p = c.args.progress.now in
    let d = drafted s p.decisions.items in
    let on = (chosen d p.board c.args.reads.now p.candidates c.requires.keeps c.args.op c.args.operator c.requires.may).on in
    let same = ap (λ (l : List Name). length l) c.operators.ensures.same in
    omega arith

pub arrival_on-requires-clause-way : goal.arrival_on-requires-clause-way
arrival_on-requires-clause-way c =
    let s = c.args.site.now in
    let p = c.args.progress.now in
    let d = drafted s p.decisions.items in
    let k = c.requires.keeps.told in
    let ch = chosen d p.board c.args.reads.now p.candidates c.requires.keeps c.args.op c.args.operator c.requires.may in
    can_walk d p.board c.args.reads.now k c.args.op ch.can c.args.operator ch.on _ refl c.media.ensures.same refl refl

pub returns : goal.returns
returns c =
    let s = c.args.site.now in
    let p = c.args.progress.now in
    let d = drafted s p.decisions.items in
    let k = c.requires.keeps.told in
    let ch = chosen d p.board c.args.reads.now p.candidates c.requires.keeps c.args.op c.args.operator c.requires.may in
    c.arrival_on.ensures ∙ arrival_same d p.board c.args.reads.now k c.args.op ch.can c.args.operator ch.on c.media.result.now c.media.ensures.same
