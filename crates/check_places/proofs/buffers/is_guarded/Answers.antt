use Rattle.std.proofs.Common.{◌∙◌, ap}
use Rattle.std.specs.Prelude.{not, nat_eq}
use Rattle.std.specs.List.{list_all, list_any}
use Rattle.program_tables.specs.declared.mark_table.Mark.{Mark}
use Rattle.program_tables.proofs.Buffered.{guarded_is}
use Rattle.check_places.proofs.buffers.is_guarded.Goals as goal

pub returns : goal.returns
returns c =
    let w = c.requires.writes in
    let r = c.requires.reads in
    ap not c.are_own.ensures
    ∙ (λ i. not (list_all (λ (r : Mark). list_any (λ (w : Mark). nat_eq w.sequence r.sequence) (w i)) (r i)))
    ∙ guarded_is c.args.program.now c.args.buffer
