use Rattle.std.proofs.Common.{◌≡◌, ◌++◌, drop, map}
use Rattle.body_lang.specs.Expr.{view}
use Rattle.algo_resolve.proofs.kind.copies_of.Given as goal

abbrev pub invariant-loop-out : goal.invariant-loop-out
invariant-loop-out l = map view l.formulas.items ++ map (λ o. o.formula) (drop l.out-index l.outs) ≡ map (λ o. o.formula) l.outs
