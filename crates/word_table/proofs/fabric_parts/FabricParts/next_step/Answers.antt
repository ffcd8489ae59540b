use Rattle.std.proofs.Common.{arith}
use Rattle.word_table.proofs.Standing.{count_at, full_is, all_made}
use Rattle.word_table.proofs.fabric_parts.FabricParts.next_step.Goals as goal

pub returns-then-count-full_in-clause-next : goal.returns-then-count-full_in-clause-next
returns-then-count-full_in-clause-next c = let q = c.requires in let a = c.args in
    let at = count_at a.self.now a.driver.now a.seq q.fabric q.of q.there q.drives c.index-code.result.now c.index-code.ensures
    c.index-count.result.now c.index-count.ensures c.reactions.result c.reactions.ensures in
    let full = full_is a.self.now a.driver.now a.seq q.fabric q.of q.there q.drives c.index-code.result.now c.index-code.ensures
    c.index-count.result.now c.index-count.ensures c.reactions.result c.reactions.ensures in
    (at, omega (arith, c.full_in.ensures, full))

pub returns-else-count-full_in-clause-none : goal.returns-else-count-full_in-clause-none
returns-else-count-full_in-clause-none c = let q = c.requires in let a = c.args in
    all_made a.self.now a.driver.now a.seq q.fabric q.of q.there q.drives c.index-code.result.now c.index-code.ensures
    c.index-count.result.now c.index-count.ensures c.reactions.result c.reactions.ensures
    (omega (arith, c.full_in.ensures))
