use Rattle.std.proofs.Common.{refl, sym, ap, ◌∙◌, List, ℕ}
use Rattle.std.specs.Prelude.{slice_get, slice_index}
use Rattle.std.proofs.lemmas.Option.{slice_get_read, slice_get_past}
use Rattle.program_tables.proofs.Numbered.{number_told, no_number}
use Rattle.program_tables.proofs.communications.number_at.Goals as goal

pub returns-in-Some : goal.returns-in-Some
returns-in-Some c =
    let there = slice_get_read c.args.numbers.now _ c.args.sequence c.in-Some.row.now refl c.in-Some.ensures.lookup.3.0 c.in-Some.ensures.lookup.1 in
    c.in_row.ensures ∙ ap (λ (r : List ℕ). slice_index r c.args.at) c.as_slice.ensures
    ∙ number_told c.args.program.now c.args.sequence c.args.at c.in-Some.row.now (ap (λ (t : List (List ℕ)). slice_get t c.args.sequence) (sym c.requires.table) ∙ there) c.requires.within

pub returns-in-None : goal.returns-in-None
returns-in-None c =
    no_number c.args.program.now c.args.sequence c.args.at
    (ap (λ (t : List (List ℕ)). slice_get t c.args.sequence) (sym c.requires.table)
    ∙ slice_get_past c.args.numbers.now c.args.sequence c.in-None.ensures.lookup.3) c.requires.within
