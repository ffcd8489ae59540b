use Rattle.std.proofs.Common.{ℕ, ◌+◌, ◌∙◌, ⊎_elim, get_or, set, sym, arith, length-set, get_or-set_same, get_or-set_other}
use Rattle.std.proofs.lemmas.Bool.{cases_eq}
use Rattle.std.specs.Mem.Slots.{slots_items}
use Rattle.word_rule.proofs.Ending.{elem_get}
use Rattle.word_rule.proofs.table.copy_words.Goals as goal

pub loop-i-preserved : goal.loop-i-preserved
loop-i-preserved c = let n = c.loop-i.invariant in let i = c.loop-i.i in let xs = c.loop-i.words.items in let w = c.word.result in let t = c.loop-i-test.true in (
  length-set xs i w ∙ n.0,
  λ k l. ⊎_elim
      (λ q. (λ e. get_or (set xs i w) (q e) 0) ∙ get_or-set_same {A = ℕ} xs i w 0 (let a = n.0 in omega (arith, a, t))
      ∙ sym (elem_get (slots_items c.args.closed.now.words) (i + 1) w 0 c.word.ensures)
      ∙ sym (λ e. get_or (slots_items c.args.closed.now.words) (q e + 1) 0))
      (λ q. get_or-set_other {A = ℕ} xs i k w 0 q ∙ n.1 k (omega (arith, l, q))) (cases_eq k i),
)
