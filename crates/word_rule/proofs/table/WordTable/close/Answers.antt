use Rattle.std.proofs.Common.{◌≡◌, ◌+◌, ◌∙◌, length, ap, sym, subst, arith}
use Rattle.std.specs.Mem.Slots.{slots_items}
use Rattle.phase_laws.specs.Core.{AreReached}
use Rattle.phase_laws.specs.Told.{told}
use Rattle.word_rule.specs.Steps.{HoldsCounts}
use Rattle.word_rule.specs.Table.{TableData}
use Rattle.word_rule.specs.Words.{words_of, table_len}
use Rattle.word_rule.proofs.Ending.{words_at_end, long_at_end, rest_of}
use Rattle.word_rule.proofs.Seats.{holds_at}
use Rattle.word_rule.proofs.table.WordTable.close.Goals as goal

pub returns-clause-words : goal.returns-clause-words
returns-clause-words c = let a = c.args in let t = c.self.inside.table.shared in let w = c.seat.inside.seat in let r = c.close_with-closed.result in let v = c.close_with-closed.ensures.values.2 in
    let long = c.copy_words.ensures.long in
    let all : HoldsCounts t.key w.me.0 a.counts.now = holds_at _ _ _ _ a.counts.now c.self.view_is c.seat.view_is c.requires.all in
    let room : length a.words.now.items + 1 ≡ table_len t.key = c.requires.room ∙ ap (λ (k : TableData). table_len k.key) (sym c.self.view_is) in
    subst (λ (k : TableData). c.copy_words.new.words.items ≡ words_of (told k.key a.counts.now)) c.self.view_is
    (rest_of (slots_items r.words) (words_of (told t.key a.counts.now)) c.copy_words.new.words.items
    (words_at_end t.key w.id w.me.0 a.counts.now (slots_items r.words) (slots_items r.slots) c.self.invariant.0 all v).0
    (long_at_end t.key w.id w.me.0 a.counts.now (slots_items r.words) (slots_items r.slots) c.self.invariant.0 all v ∙ (omega (arith, room, long)))
    (λ k l. c.copy_words.ensures.each k (omega (arith, l, long))))

pub returns-clause-reached : goal.returns-clause-reached
returns-clause-reached c = let a = c.args in let t = c.self.inside.table.shared in let w = c.seat.inside.seat in let r = c.close_with-closed.result in let v = c.close_with-closed.ensures.values.2 in
    let all : HoldsCounts t.key w.me.0 a.counts.now = holds_at _ _ _ _ a.counts.now c.self.view_is c.seat.view_is c.requires.all in
    subst (λ (k : TableData). AreReached k.key a.counts.now) c.self.view_is
    (words_at_end t.key w.id w.me.0 a.counts.now (slots_items r.words) (slots_items r.slots) c.self.invariant.0 all v).1
