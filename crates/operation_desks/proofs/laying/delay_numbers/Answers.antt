-- One more operation.
use Rattle.std.proofs.Common.{◌≡◌, ◌+◌, ◌∙◌, ◌++◌, ◌∷◌, [], List, ℕ, cond, length, length-append, ap, sym, arith}
use Rattle.executive_program.specs.Meaning.{delay_number}
use Rattle.operation_desks.proofs.DelayNumbers.{first, delay_more, numbers_more}
use Rattle.operation_desks.proofs.laying.delay_numbers.Goals as goal

pub loop-v-init : goal.loop-v-init
loop-v-init c =
    let e : c.push.new.self.items ≡ 0 ∷ [] = c.in_ok-push.ensures.items ∙ ap (λ (l : List ℕ). l ++ 0 ∷ []) c.new-numbers.ensures.items in (
      sym (first c.args.vertices.now),
      omega arith,
      ap (λ (l : List ℕ). length l) e,
      numbers_more c.args.vertices.now [] c.push.new.self.items 0 0 (λ i l. absurd (omega (arith, l))) e (omega arith) (sym (first c.args.vertices.now)),
    )

pub loop-v-preserved : goal.loop-v-preserved
loop-v-preserved c =
    let old = c.loop-v.numbers.items in
    let new = c.push-in-loop-v.new.self.items in
    let n = c.count_if-number.result in
    let is : n ≡ delay_number c.args.vertices.now (c.loop-v.v + 1)
    = c.count_if-number.ensures.value ∙ (λ i. cond (c.is_get_at.ensures i) (c.loop-v.invariant.0 i + 1) (c.loop-v.invariant.0 i)) ∙ sym (delay_more c.args.vertices.now c.loop-v.v) in
    let e : new ≡ old ++ n ∷ [] = c.in_ok-push-2.ensures.items in (
      is,
      (let a = c.count_if-number.ensures.few in let b = c.loop-v.invariant.1 in omega (arith, a, b)),
      (let a = length-append old (n ∷ []) in let b = c.loop-v.invariant.2 in let l = ap (λ (l : List ℕ). length l) e in omega (arith, a, b, l)),
      numbers_more c.args.vertices.now old new n (c.loop-v.v + 1) c.loop-v.invariant.3 e c.loop-v.invariant.2 is,
    )
