use Rattle.std.proofs.Common.{refl, sym, ap, ◌∙◌, List, ℕ, length}
use Rattle.std.specs.Prelude.{slice_get}
use Rattle.std.proofs.lemmas.Option.{slice_get_read, slice_get_past}
use Rattle.executive_program.specs.Instructions.{number_or}
use Rattle.program_tables.proofs.Numbered.{place_told, no_place}
use Rattle.program_tables.proofs.communications.place_of_communication.Goals as goal

pub returns-in-Some : goal.returns-in-Some
returns-in-Some c =
    let there = slice_get_read c.args.places.now _ c.args.sequence c.in-Some.row.now refl c.in-Some.ensures.lookup.3.0 c.in-Some.ensures.lookup.1 in
    let turns = c.turn_of.ensures in
    let rows = c.as_slice.ensures in
    c.entry_or.ensures ∙ (λ i. number_or (length (turns i)) (slice_get (rows i) c.args.number))
    ∙ place_told c.args.program.now c.args.sequence c.args.number c.in-Some.row.now (ap (λ (t : List (List ℕ)). slice_get t c.args.sequence) (sym c.requires) ∙ there)

pub returns-in-None : goal.returns-in-None
returns-in-None c =
    no_place c.args.program.now c.args.sequence c.args.number
    (ap (λ (t : List (List ℕ)). slice_get t c.args.sequence) (sym c.requires) ∙ slice_get_past c.args.places.now c.args.sequence c.in-None.ensures.lookup.3)
