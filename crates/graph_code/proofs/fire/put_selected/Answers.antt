use Rattle.std.proofs.Common.{◌≡◌, ◌+◌, ◌<◌, length, get_or, arith, rules, refl, ap, ◌∙◌}
use Rattle.flat_graph.specs.Level.{merged, selected}
use Rattle.expression_code.specs.Code.{words}
use Rattle.expression_code.specs.declared.step.Span.{Span}
use Rattle.syn_base.specs.Vectors.{Vector}
use Rattle.graph_code.specs.Fired.{rows_of}
use Rattle.graph_code.proofs.Firing.{case_there, merged_row}
use Rattle.graph_code.proofs.Words.{words_len}
use Rattle.graph_code.proofs.Writing.{put_same}
use Rattle.graph_code.proofs.fire.put_selected.Goals as goal

pub overflow_add-from : goal.overflow_add-from
overflow_add-from c =
    let there = case_there c.args.values.now c.row_at.result.now c.selected-case.result (length c.args.inputs.now) c.requires.cases c.selected-case.ensures in
    search (rules, there)

pub offset_bounds-inputs-case : goal.offset_bounds-inputs-case
offset_bounds-inputs-case c =
    let there = case_there c.args.values.now c.row_at.result.now c.selected-case.result (length c.args.inputs.now) c.requires.cases c.selected-case.ensures in
    search (rules, there)

pub bounds-inputs-case : goal.bounds-inputs-case
bounds-inputs-case c = case_there c.args.values.now c.row_at.result.now c.selected-case.result (length c.args.inputs.now) c.requires.cases c.selected-case.ensures

pub put_words-requires-clause-to : goal.put_words-requires-clause-to
put_words-requires-clause-to c =
    let inputs = c.args.inputs.now in
    let case = c.selected-case.result in
    let there = case_there c.args.values.now c.row_at.result.now case (length inputs) c.requires.cases c.selected-case.ensures in
    let first : Span = get_or inputs 0 (record { start = 0; len = 0 }) in
    let from : Span = get_or inputs (1 + case) (record { start = 0; len = 0 }) in
    let row = merged_row c.args.values.now inputs c.args.store.now first from case c.requires.cases refl (c.selected-case.ensures ∙ ap (selected c.args.values.now) c.row_at.ensures) refl in
    omega (arith, ap (λ (v : Vector). length v) row, words_len c.args.store.now from.start from.len (c.requires.below (1 + case) there), c.requires.room)

pub returns : goal.returns
returns c =
    let inputs = c.args.inputs.now in
    let case = c.selected-case.result in
    let first : Span = get_or inputs 0 (record { start = 0; len = 0 }) in
    let from : Span = get_or inputs (1 + case) (record { start = 0; len = 0 }) in
    let row = merged_row c.args.values.now inputs c.args.store.now first from case c.requires.cases refl (c.selected-case.ensures ∙ ap (selected c.args.values.now) c.row_at.ensures) refl in
    put_same (length c.args.store.now) c.args.start (words c.args.store.now from.start from.len)
    (merged c.args.values.now (rows_of c.args.store.now inputs)) c.args.store.now c.put_words.new.store row c.put_words.ensures
