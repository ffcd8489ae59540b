use Rattle.std.proofs.Common.{rules, ◌≡◌, ◌+◌, ◌<◌, ◌^◌, get_or, arith, w64, sym, ap, ap₂, ◌∙◌}
use Rattle.std.proofs.lemmas.Int.{to_z-of_z}
use Rattle.body_lang.specs.Expr.{view, literal, element, negation, apply, select}
use Rattle.expression_code.proofs.Runs.{end_above}
use Rattle.expression_code.proofs.Arms.{for_literal, for_index, for_right, for_left, for_both, for_negation, for_choice, for_sum, for_gather, for_slice, for_same, for_back, if_ok}
use Rattle.expression_code.proofs.translate.+compile.Goals as goal

pub overflow_add-result : goal.overflow_add-result
overflow_add-result t c =
    let p = rw c.in-Elem.is at c.requires.ports in
    let below = c.requires.below c.in-Elem.port p.0 in
    let fits : (get_or c.args.ports.now c.in-Elem.port (record { start = 0; len = 0 })).start + c.in-Some.offset
    < 2 ^ 64 = omega (arith, below, c.in-Some.ensures.room, end_above c.args.code.now.from c.args.code.now.steps) in
    search (rules, fits)

pub overflow_add-port : goal.overflow_add-port
overflow_add-port t c =
    let p = rw c.in-Elem.is at c.requires.ports in
    let below = c.requires.below c.in-Elem.port p.0 in
    let fits : (get_or c.args.ports.now c.in-Elem.port (record { start = 0; len = 0 })).start + c.in-Some-back_in.offset
    < 2 ^ 64 = omega (arith, below, c.in-Some-back_in.ensures.inside, end_above c.args.code.now.from c.args.code.now.steps) in
    search (rules, fits)

pub push-requires-in-Some-back_in : goal.push-requires-in-Some-back_in
push-requires-in-Some-back_in t c =
    let p = rw c.in-Elem.is at c.requires.ports in
    let below = c.requires.below c.in-Elem.port p.0 in
    (omega (arith, below, c.in-Some-back_in.ensures.inside, end_above c.args.code.now.from c.args.code.now.steps), omega (arith, c.in-Some-back_in.ensures.room))

pub push-requires-in-Elem : goal.push-requires-in-Elem
push-requires-in-Elem t c =
    let p = rw c.in-Elem.is at c.requires.ports in
    let below = c.requires.below c.in-Elem.port p.0 in
    let d = c.in_ok-numbers-in-Elem.ensures in
    (omega (arith, below, d.longer, end_above c.args.code.now.from c.args.code.now.steps), d.room)

pub push-requires-in-SumOf : goal.push-requires-in-SumOf
push-requires-in-SumOf t c =
    let p = rw c.in-SumOf.is at c.requires.ports in
    let below = c.requires.below c.in-SumOf.port p in
    omega (arith, below, end_above c.args.code.now.from c.args.code.now.steps)

pub returns-in-Lit : goal.returns-in-Lit
returns-in-Lit t c =
    let same = ap literal (to_z-of_z w64 c.in-Lit.value (search rules)) in
    rw c.in-Lit.is (if_ok _ c.push.result _ _ (λ at p. for_same (for_literal _ _ _ _ _ _ p) same) c.push.ensures)

pub returns-in-Index : goal.returns-in-Index
returns-in-Index t c = rw c.in-Index.is (if_ok _ c.push-in-Index.result _ _ (λ at p. for_index _ _ _ _ _ p) c.push-in-Index.ensures)

pub returns-in-Some : goal.returns-in-Some
returns-in-Some t c =
    let p = rw c.in-Elem.is at c.requires.ports in
    let same : view c.deref.result.now ≡ view c.in-Elem.at.value = cc in
    rw c.in-Elem.is (for_same (for_slice c.args.ports.now c.args.len c.args.code.now c.in-Elem.port _ _ c.requires.below p.0 c.in-Some.ensures) (ap (element c.in-Elem.port) same))

pub returns-in-Some-back_in : goal.returns-in-Some-back_in
returns-in-Some-back_in t c =
    let p = rw c.in-Elem.is at c.requires.ports in
    let same : view c.deref-in-Elem.result.now ≡ view c.in-Elem.at.value = cc in
    rw c.in-Elem.is (if_ok _ c.push-in-Some-back_in.result _ _
    (λ at q. for_same (for_back c.args.ports.now c.args.len c.args.code.now _ c.in-Elem.port _ _ _ c.requires.below p.0
    c.in-Some-back_in.ensures q) (ap (element c.in-Elem.port) same)) c.push-in-Some-back_in.ensures)

pub returns-in_ok-numbers-in-Elem : goal.returns-in_ok-numbers-in-Elem
returns-in_ok-numbers-in-Elem t c =
    let p = rw c.in-Elem.is at c.requires.ports in
    let same : view c.deref-in-Elem-2.result.now ≡ view c.in-Elem.at.value = cc in
    rw c.in-Elem.is (if_ok _ c.push-in-Elem.result _ _
    (λ at q. for_same (for_gather c.args.ports.now c.args.len c.args.code.now _ _ c.in-Elem.port _ _ _ c.requires.below p.0
    c.in_ok-numbers-in-Elem.ensures q) (ap (element c.in-Elem.port) same)) c.push-in-Elem.ensures)

pub returns-in-SumOf : goal.returns-in-SumOf
returns-in-SumOf t c =
    let p = rw c.in-SumOf.is at c.requires.ports in
    rw c.in-SumOf.is (if_ok _ c.push-in-SumOf.result _ _ (λ at q. for_sum c.args.ports.now c.args.len c.args.code.now _ c.in-SumOf.port _ c.requires.below p q) c.push-in-SumOf.ensures)

pub returns-in_ok-inner-in-Neg : goal.returns-in_ok-inner-in-Neg
returns-in_ok-inner-in-Neg t c =
    let same : view c.deref-in-Neg.result.now ≡ view c.in-Neg.a.value = cc in
    rw c.in-Neg.is (if_ok _ c.push-in-Neg.result _ _ (λ at p. for_same (for_negation _ _ _ _ _ _ _ _ c.in_ok-inner-in-Neg.ensures p) (ap negation same)) c.push-in-Neg.ensures)

pub returns-in-Some-number_of : goal.returns-in-Some-number_of
returns-in-Some-number_of t c =
    let left : view c.deref-in-Some-number_of.result.now ≡ view c.in-Apply.a.value = cc in
    let right : view c.deref-in-Apply.result.now ≡ view c.in-Apply.b.value = cc in
    let number = ap literal (to_z-of_z w64 c.in-Some-number_of.number (search rules)) ∙ sym c.in-Some-number_of.ensures ∙ right in
    rw c.in-Apply.is (if_ok _ c.push-in-Some-number_of.result _ _
    (λ at p. for_same (for_right _ _ _ _ _ _ _ _ _ _ c.in_ok-left-in-Apply.ensures p) (ap₂ (apply c.in-Apply.op) left number)) c.push-in-Some-number_of.ensures)

pub returns-in-Some-number_of-2 : goal.returns-in-Some-number_of-2
returns-in-Some-number_of-2 t c =
    let left : view c.deref-in-Apply-2.result.now ≡ view c.in-Apply.a.value = cc in
    let right : view c.deref-in-Some-number_of-2.result.now ≡ view c.in-Apply.b.value = cc in
    let number = ap literal (to_z-of_z w64 c.in-Some-number_of-2.number (search rules)) ∙ sym c.in-Some-number_of-2.ensures ∙ left in
    rw c.in-Apply.is (if_ok _ c.push-in-Some-number_of-2.result _ _
    (λ at p. for_same (for_left _ _ _ _ _ _ _ _ _ _ c.in_ok-right-in-Apply.ensures p) (ap₂ (apply c.in-Apply.op) number right)) c.push-in-Some-number_of-2.ensures)

pub returns-in_ok-right-in-Apply-2 : goal.returns-in_ok-right-in-Apply-2
returns-in_ok-right-in-Apply-2 t c =
    let left : view c.deref-in-Apply-3.result.now ≡ view c.in-Apply.a.value = cc in
    let right : view c.deref-in-Apply-4.result.now ≡ view c.in-Apply.b.value = cc in
    rw c.in-Apply.is (if_ok _ c.push-in-Apply.result _ _
    (λ at p. for_same (for_both _ _ _ _ _ _ _ _ _ _ _ _ c.in_ok-left-in-Apply-2.ensures c.in_ok-right-in-Apply-2.ensures p) (ap₂ (apply c.in-Apply.op) left right)) c.push-in-Apply.ensures)

pub returns-in_ok-second-in-Select : goal.returns-in_ok-second-in-Select
returns-in_ok-second-in-Select t c =
    let same : select (view c.deref-in-Select.result.now) (view c.deref-in-Select-2.result.now) (view c.deref-in-Select-3.result.now)
    ≡ select (view c.in-Select.condition.value) (view c.in-Select.a.value) (view c.in-Select.b.value) = cc in
    rw c.in-Select.is (if_ok _ c.push-in-Select.result _ _
    (λ at p. for_same (for_choice _ _ _ _ _ _ _ _ _ _ _ _ _ _ c.in_ok-chosen-in-Select.ensures c.in_ok-first-in-Select.ensures c.in_ok-second-in-Select.ensures p) same) c.push-in-Select.ensures)
