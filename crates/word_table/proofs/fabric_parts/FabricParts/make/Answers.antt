use Rattle.std.proofs.Common.{Bool, subst, sym, inl, inr}
use Rattle.word_rule.specs.Given.{Waits}
use Rattle.word_table.specs.Parts.{Looked}
use Rattle.word_table.proofs.Making.{made_steps, missed}
use Rattle.word_table.proofs.fabric_parts.FabricParts.make.Goals as goal

pub returns-in-Take-clause-made : goal.returns-in-Take-clause-made
returns-in-Take-clause-made c = let q = c.requires in let a = c.args in
    λ e. made_steps a.self.now a.driver.now a.next q.fabric q.can
    (inl (c.in-Take.field-0, c.in-Take.is)) c.look.new.driver c.look.ensures.same
    (subst (λ (b : Bool). Looked a.driver.now c.look.new.driver a.next b) e c.look.ensures.looked)

pub returns-in-Take-clause-missed : goal.returns-in-Take-clause-missed
returns-in-Take-clause-missed c = let q = c.requires in let a = c.args in
    λ e. missed a.self.now a.driver.now a.next q.fabric q.can (inl (c.in-Take.field-0, c.in-Take.is)) c.look.new.driver
    (subst (λ (b : Bool). Looked a.driver.now c.look.new.driver a.next b) e c.look.ensures.looked)

pub returns-in-See-clause-made : goal.returns-in-See-clause-made
returns-in-See-clause-made c = let q = c.requires in let a = c.args in
    λ e. made_steps a.self.now a.driver.now a.next q.fabric q.can
    (inr (subst Waits (sym c.in-See.is) tt)) c.look-in-See.new.driver c.look-in-See.ensures.same
    (subst (λ (b : Bool). Looked a.driver.now c.look-in-See.new.driver a.next b) e c.look-in-See.ensures.looked)

pub returns-in-See-clause-missed : goal.returns-in-See-clause-missed
returns-in-See-clause-missed c = let q = c.requires in let a = c.args in
    λ e. missed a.self.now a.driver.now a.next q.fabric q.can (inr (subst Waits (sym c.in-See.is) tt)) c.look-in-See.new.driver
    (subst (λ (b : Bool). Looked a.driver.now c.look-in-See.new.driver a.next b) e c.look-in-See.ensures.looked)

pub returns-in-Await-clause-made : goal.returns-in-Await-clause-made
returns-in-Await-clause-made c = let q = c.requires in let a = c.args in
    λ e. made_steps a.self.now a.driver.now a.next q.fabric q.can
    (inr (subst Waits (sym c.in-Await.is) tt)) c.look-in-Await.new.driver c.look-in-Await.ensures.same
    (subst (λ (b : Bool). Looked a.driver.now c.look-in-Await.new.driver a.next b) e c.look-in-Await.ensures.looked)

pub returns-in-Await-clause-missed : goal.returns-in-Await-clause-missed
returns-in-Await-clause-missed c = let q = c.requires in let a = c.args in
    λ e. missed a.self.now a.driver.now a.next q.fabric q.can (inr (subst Waits (sym c.in-Await.is) tt)) c.look-in-Await.new.driver
    (subst (λ (b : Bool). Looked a.driver.now c.look-in-Await.new.driver a.next b) e c.look-in-Await.ensures.looked)
