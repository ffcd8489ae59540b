use Rattle.std.proofs.Common.{◌≡◌, ℕ, List, length, sym, ap, arith, ◌∙◌}
use Rattle.std.proofs.lemmas.List.{length-map}
use Rattle.executive_program.specs.Instructions.{readers}
use Rattle.program_walks.specs.Walks.{all_below}
use Rattle.program_tables.specs.Openings.{is_at_end}
use Rattle.program_tables.specs.Readings.{reading_of}
use Rattle.program_tables.specs.declared.readings.Reading.{Reading}
use Rattle.program_tables.proofs.Opened.{all_opened, lent, not_opened}
use Rattle.program_tables.proofs.openings.are_opened.Goals as goal

pub returns-clause-opened : goal.returns-clause-opened
returns-clause-opened c told =
    let p = c.args.program.now in
    let many = ap (λ (xs : List Reading). length xs) c.requires ∙ length-map (readers p) reading_of in
    let same : c.as_slice-2.result.now ≡ c.pass_all.new.passed =
    c.as_slice-2.ensures.value ∙ lent c.in_ok-passed.passed.len c.pass_all.new.passed _ (let l = c.pass_all.auto.passed in let d = c.deref_mut.ensures.len in omega arith) in
    all_opened p c.pass_all.new.passed (length c.args.found.now) many (c.pass_all.ensures.opened c.if-not-pass_all.false)
    (ap (λ (xs : List ℕ). all_below (is_at_end p xs) (length p.seqs)) (sym same) ∙ sym c.are_at_end.ensures ∙ told)

pub returns-clause-closed : goal.returns-clause-closed
returns-clause-closed c told =
    let p = c.args.program.now in
    let many = ap (λ (xs : List Reading). length xs) c.requires ∙ length-map (readers p) reading_of in
    let same : c.as_slice-2.result.now ≡ c.pass_all.new.passed =
    c.as_slice-2.ensures.value ∙ lent c.in_ok-passed.passed.len c.pass_all.new.passed _ (let l = c.pass_all.auto.passed in let d = c.deref_mut.ensures.len in omega arith) in
    not_opened p c.pass_all.new.passed (length c.args.found.now) many (c.pass_all.ensures.opened c.if-not-pass_all.false)
    (ap (λ (xs : List ℕ). all_below (is_at_end p xs) (length p.seqs)) (sym same) ∙ sym c.are_at_end.ensures ∙ told)
