use Rattle.std.proofs.Common.{◌≡◌, ◌∙◌, sym, ap, subst, arith}
use Rattle.std.specs.Prelude.{Ok}
use Rattle.multi_period.specs.Within.{IsWithin}
use Rattle.multi_period.proofs.Passed.{gives_made, limit_is}
use Rattle.multi_period.proofs.pass.periods.Goals as goal

pub make_tree-requires-clause-few : goal.make_tree-requires-clause-few
make_tree-requires-clause-few c =
    let few : c.bound-bound.result ≡ 2048 = c.bound-bound.ensures in omega (arith, c.count_made-count.ensures, few, c.if-count-bound.false)

pub returns-then-count-bound-clause-gives : goal.returns-then-count-bound-clause-gives
returns-then-count-bound-clause-gives c =
    limit_is c.args.marks.now c.args.tree.now c.count_made-count.result c.bound-bound.result c.count_made-count.ensures
    c.bound-bound.ensures (let few : c.bound-bound.result ≡ 2048 = c.bound-bound.ensures in omega (arith, few, c.if-count-bound.true))

pub returns-in-Ok-clause-gives : goal.returns-in-Ok-clause-gives
returns-in-Ok-clause-gives c =
    gives_made c.args.marks.now c.args.tree.now
    (let few : c.bound-bound.result ≡ 2048 = c.bound-bound.ensures in
    omega (arith, c.count_made-count.ensures, few, c.if-count-bound.false)) ∙ ap Ok (sym c.in-Ok.ensures.is)

pub returns-in-Err-clause-gives : goal.returns-in-Err-clause-gives
returns-in-Err-clause-gives c =
    subst IsWithin (sym (gives_made c.args.marks.now c.args.tree.now
    (let few : c.bound-bound.result ≡ 2048 = c.bound-bound.ensures in omega (arith, c.count_made-count.ensures, few, c.if-count-bound.false)))) tt
