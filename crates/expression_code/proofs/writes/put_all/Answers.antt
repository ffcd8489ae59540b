use Rattle.std.proofs.lemmas.Int.{to_z-of_z}
use Rattle.std.proofs.Common.{rules, w64, ◌+◌, ◌-◌, take, drop, length, ap, ap₂, ◌∙◌, arith}
use Rattle.syn_base.specs.Arithmetic.{applied}
use Rattle.expression_code.specs.Code.{word, chosen}
use Rattle.expression_code.proofs.Runs.{word_part}
use Rattle.expression_code.proofs.writes.put_all.Goals as goal

pub returns-in-Right : goal.returns-in-Right
returns-in-Right c = rw c.in-Right.is (λ j h.
    c.put_applied_right.ensures j h
    ∙ ap₂ (λ x v. applied c.in-Right.op x v)
    (word_part c.args.known.now c.in-Right.left (c.in-Right.left + length c.args.out.now) j (omega arith)) (to_z-of_z w64 c.in-Right.value (search rules)))

pub returns-in-Left : goal.returns-in-Left
returns-in-Left c = rw c.in-Left.is (λ j h.
    c.put_applied_left.ensures j h ∙ ap₂ (λ v x. applied c.in-Left.op v x) (to_z-of_z w64 c.in-Left.value (search rules))
    (word_part c.args.known.now c.in-Left.right (c.in-Left.right + length c.args.out.now) j (omega arith)))

pub returns-in-Choose : goal.returns-in-Choose
returns-in-Choose c = rw c.in-Choose.is (λ j h.
    let n = length c.args.out.now in
    let known = c.args.known.now in
    c.put_chosen.ensures j h
    ∙ ap (λ x. chosen x (word (take (c.in-Choose.first + n - c.in-Choose.first) (drop c.in-Choose.first known)) j)
    (word (take (c.in-Choose.second + n - c.in-Choose.second) (drop c.in-Choose.second known)) j))
    (word_part known c.in-Choose.condition (c.in-Choose.condition + n) j (omega arith))
    ∙ ap₂ (λ x y. chosen (word known (c.in-Choose.condition + j)) x y)
    (word_part known c.in-Choose.first (c.in-Choose.first + n) j (omega arith))
    (word_part known c.in-Choose.second (c.in-Choose.second + n) j (omega arith)))
