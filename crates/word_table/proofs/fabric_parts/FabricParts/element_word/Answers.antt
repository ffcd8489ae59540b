use Rattle.std.proofs.Common.{ap, sym, subst, ◌∙◌, arith}
use Rattle.executive_program.specs.declared.program.Program.{Program}
use Rattle.executive_program.specs.Instructions.{HasPlaces}
use Rattle.word_rule.specs.Core.{home_of, slot_of}
use Rattle.word_rule.proofs.Allowed.{element_inside}
use Rattle.word_table.proofs.Starts.{start_is}
use Rattle.word_table.proofs.fabric_parts.FabricParts.element_word.Goals as goal

pub index-requires : goal.index-requires
index-requires c = let e = c.home.ensures ∙ ap (λ (p : Program). home_of p c.args.place) c.program-program.ensures.same in
    let h = (c.requires.here 0).0 in let t = c.requires.fabric.starts_there in omega (arith, e, h, t)

pub slot-requires : goal.slot-requires
slot-requires c = subst HasPlaces (sym c.program-program.ensures.same) c.requires.fabric.runs.places

pub overflow_add-result : goal.overflow_add-result
overflow_add-result c = let q = c.requires in let a = c.args in let p = c.program-program.ensures.same in
    let s = start_is a.self.now q.fabric a.place c.home.result c.slot.result c.index.result.now a.reaction
    (c.home.ensures ∙ ap (λ (p : Program). home_of p a.place) p)
    (c.slot.ensures ∙ ap (λ (p : Program). slot_of p a.place a.reaction) p) q.here c.index.ensures in
    let i = element_inside a.self.now.job.now q.fabric.runs a.place a.reaction q.here in let w = q.fabric.words_few in record { fits = omega (arith, s, i, w) }

pub returns : goal.returns
returns c = let q = c.requires in let a = c.args in let p = c.program-program.ensures.same in
    start_is a.self.now q.fabric a.place c.home.result c.slot.result c.index.result.now a.reaction
    (c.home.ensures ∙ ap (λ (p : Program). home_of p a.place) p)
    (c.slot.ensures ∙ ap (λ (p : Program). slot_of p a.place a.reaction) p) q.here c.index.ensures
