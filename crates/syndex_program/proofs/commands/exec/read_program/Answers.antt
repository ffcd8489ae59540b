use Rattle.std.proofs.Common.{◌≤◌, inl, length, subst, sym}
use Rattle.std.proofs.lemmas.Result.{err_from_is_err_and}
use Rattle.syn_base.specs.Bytes.{Bytes}
use Rattle.top_plans.specs.Shelf.{file_bound}
use Rattle.syndex_program.specs.Foreign.{MakesProgram}
use Rattle.syndex_program.proofs.Coded.{program_read}
use Rattle.compiler.proofs.Sizes.{few_lines}
use Rattle.syndex_program.proofs.commands.exec.read_program.Goals as goal

pub program_of-requires : goal.program_of-requires
program_of-requires g c = few_lines c.deref.result.now (subst (λ (t : Bytes). length t ≤ file_bound) (sym c.deref.ensures.value) c.in_ok-text.ensures.read.0.0)

pub returns-in_err-text-clause-reads : goal.returns-in_err-text-clause-reads
returns-in_err-text-clause-reads g c =
    let p = err_from_is_err_and c.from_residual.result c.from_residual.ensures.1 in
    rw (p.1, p.2) (inl c.in_err-text.ensures.not_read)

pub returns-clause-reads : goal.returns-clause-reads
returns-clause-reads g c =
    let H = g.S.Shelf.held in
    let text = c.in_ok-text.text.items in
    program_read c.args.flat.now c.args.archi.now c.args.name.now (H c.args.shelf.now) (H c.read_file.new.shelf) text c.program_of.result c.in_ok-text.ensures.read
    (subst (λ (t : Bytes). MakesProgram c.args.flat.now c.args.archi.now t c.program_of.result) c.deref.ensures.value c.program_of.ensures)
