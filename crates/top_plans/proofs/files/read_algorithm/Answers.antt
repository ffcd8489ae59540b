use Rattle.std.proofs.Common.{inl, inr, refl, subst}
use Rattle.std.specs.Prelude.{Err}
use Rattle.std.proofs.lemmas.Result.{err_from_is_err_and}
use Rattle.syn_base.specs.Bytes.{Bytes}
use Rattle.compiler.specs.Compiles.{MakesAlgorithm}
use Rattle.top_plans.proofs.files.read_algorithm.Goals as goal

pub returns-in_err-text-clause-reads : goal.returns-in_err-text-clause-reads
returns-in_err-text-clause-reads g c =
    let p = err_from_is_err_and c.from_residual.result c.from_residual.ensures.1 in
    rw (p.1, p.2) (inl c.in_err-text.ensures.not_read)

pub returns-in_err-parse_algorithm-clause-reads : goal.returns-in_err-parse_algorithm-clause-reads
returns-in_err-parse_algorithm-clause-reads g c =
    let e = c.in_err-parse_algorithm.field-0.0 in
    let p = err_from_is_err_and c.from_residual-in_err-parse_algorithm.result c.from_residual-in_err-parse_algorithm.ensures.1 in
    let made = subst (λ (t : Bytes). MakesAlgorithm t (Err e)) c.deref.ensures.value c.in_err-parse_algorithm.ensures in
    rw (p.1, p.2) (inr (c.in_ok-text.text.items, c.in_ok-text.ensures.read, (e, made, refl)))
