use Rattle.std.proofs.Common.{inl, inr, refl, subst}
use Rattle.std.specs.Prelude.{Err}
use Rattle.std.proofs.lemmas.Result.{err_from_is_err_and}
use Rattle.syn_base.specs.Bytes.{Bytes}
use Rattle.compiler.specs.Tables.{MakesTable}
use Rattle.top_plans.proofs.files.read_table.Goals as goal

pub returns-in_err-table-clause-reads : goal.returns-in_err-table-clause-reads
returns-in_err-table-clause-reads g c =
    let p = err_from_is_err_and c.from_residual.result c.from_residual.ensures.1 in
    rw (p.1, p.2) (inl c.in_err-table.ensures.not_read)

pub returns-in_err-parse_table-clause-reads : goal.returns-in_err-parse_table-clause-reads
returns-in_err-parse_table-clause-reads g c =
    let e = c.in_err-parse_table.field-0.0 in
    let p = err_from_is_err_and c.from_residual-in_err-parse_table.result c.from_residual-in_err-parse_table.ensures.1 in
    let made = subst (λ (t : Bytes). MakesTable c.args.tree.now t (Err e)) c.deref.ensures.value c.in_err-parse_table.ensures in
    rw (p.1, p.2) (inr (c.in_ok-table.table.items, c.in_ok-table.ensures.read, (e, made, refl)))
