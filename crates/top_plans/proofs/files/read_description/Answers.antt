use Rattle.std.proofs.Common.{◌≤◌, inl, inr, length, refl, subst, sym}
use Rattle.std.proofs.lemmas.Result.{err_from_is_err_and}
use Rattle.syn_base.specs.Bytes.{Bytes}
use Rattle.text_lines.specs.Refusals.{Fails}
use Rattle.self_timed.specs.Text.{description_of}
use Rattle.command_status.specs.Shelf.{file_bound}
use Rattle.top_plans.proofs.files.read_description.Goals as goal

pub parse_architecture-requires : goal.parse_architecture-requires
parse_architecture-requires g c = subst (λ (t : Bytes). length t ≤ file_bound) (sym c.deref.ensures.value) c.in_ok-text.ensures.read.0.0

pub returns-in_err-text-clause-reads : goal.returns-in_err-text-clause-reads
returns-in_err-text-clause-reads g c =
    let p = err_from_is_err_and c.from_residual.result c.from_residual.ensures.1 in
    rw (p.1, p.2) (inl c.in_err-text.ensures.not_read)

pub returns-in_err-parse_architecture-clause-reads : goal.returns-in_err-parse_architecture-clause-reads
returns-in_err-parse_architecture-clause-reads g c =
    let e = c.in_err-parse_architecture.field-0.0 in
    let p = err_from_is_err_and c.from_residual-in_err-parse_architecture.result c.from_residual-in_err-parse_architecture.ensures.1 in
    let made = subst (λ (t : Bytes). Fails e (description_of t)) c.deref.ensures.value c.in_err-parse_architecture.ensures.says in
    rw (p.1, p.2) (inr (c.in_ok-text.text.items, c.in_ok-text.ensures.read, (e, made, refl)))
