use Rattle.std.proofs.Common.{refl}
use Rattle.word_rule.specs.declared.next.Next.{Next}
use Rattle.word_table.proofs.Standing.{finished, step_there, can_make, has_next}
use Rattle.word_table.proofs.fabric_parts.FabricParts.try_micro.Goals as goal

pub word_of-word-requires-clause-there : goal.word_of-word-requires-clause-there
word_of-word-requires-clause-there c = let q = c.requires in let a = c.args in
    step_there a.self.now a.driver.now a.seq q.fabric q.of q.there q.drives c.index-code.result.now c.index-code.ensures
    c.index-count.result.now c.index-count.ensures c.reactions.result c.reactions.ensures c.due-step.result.step c.due-step.ensures.step
    c.in-Some.step c.in-Some.is c.due-step.result.reaction c.due-step.ensures.reaction

pub make-requires-clause-can : goal.make-requires-clause-can
make-requires-clause-can c = let q = c.requires in let a = c.args in
    can_make a.self.now a.driver.now a.seq q.fabric q.of q.there q.drives c.index-code.result.now c.index-code.ensures
    c.index-count.result.now c.index-count.ensures c.reactions.result c.reactions.ensures c.due-step.result.step c.due-step.ensures.step
    c.in-Some.step c.in-Some.is c.due-step.result.reaction c.due-step.ensures.reaction c.word_of-word.result c.word_of-word.ensures

pub returns-in-None-clause-answer : goal.returns-in-None-clause-answer
returns-in-None-clause-answer c = let q = c.requires in let a = c.args in (
  finished a.self.now a.driver.now a.seq q.fabric q.of q.there q.drives c.index-code.result.now c.index-code.ensures
      c.index-count.result.now c.index-count.ensures c.reactions.result c.reactions.ensures c.due-step.result.step c.due-step.ensures.step c.in-None.is,
  refl,
)

pub returns-then-make-clause-answer : goal.returns-then-make-clause-answer
returns-then-make-clause-answer c = let q = c.requires in let a = c.args in
    let next : Next = record { seq = a.seq; reaction = c.due-step.result.reaction; word = c.word_of-word.result; step = c.in-Some.step } in (
      next.reaction,
      next.step,
      has_next a.self.now a.driver.now next
          (can_make a.self.now a.driver.now a.seq q.fabric q.of q.there q.drives c.index-code.result.now c.index-code.ensures
          c.index-count.result.now c.index-count.ensures c.reactions.result c.reactions.ensures c.due-step.result.step
          c.due-step.ensures.step c.in-Some.step c.in-Some.is c.due-step.result.reaction c.due-step.ensures.reaction c.word_of-word.result
          c.word_of-word.ensures),
      c.make.ensures.made c.if-make.true,
    )

pub returns-else-make-clause-answer : goal.returns-else-make-clause-answer
returns-else-make-clause-answer c = let q = c.requires in let a = c.args in
    let next : Next = record { seq = a.seq; reaction = c.due-step.result.reaction; word = c.word_of-word.result; step = c.in-Some.step } in (
      next.reaction,
      next.step,
      has_next a.self.now a.driver.now next
          (can_make a.self.now a.driver.now a.seq q.fabric q.of q.there q.drives c.index-code.result.now c.index-code.ensures
          c.index-count.result.now c.index-count.ensures c.reactions.result c.reactions.ensures c.due-step.result.step
          c.due-step.ensures.step c.in-Some.step c.in-Some.is c.due-step.result.reaction c.due-step.ensures.reaction c.word_of-word.result
          c.word_of-word.ensures),
      c.make.ensures.missed c.if-make.false,
    )
