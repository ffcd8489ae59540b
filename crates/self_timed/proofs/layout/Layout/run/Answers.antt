use Rattle.std.proofs.Common.{ℕ, List, length, map, get_or, sym, ap, subst, arith, ◌∙◌}
use Rattle.sequence_build_laws.specs.Acts.{copy, outputs_from}
use Rattle.self_timed.specs.Laid.{Laid, HasRow, HasShape}
use Rattle.self_timed.proofs.Places.{shape_kept_all}
use Rattle.self_timed.proofs.Placing.{guards_placed, inputs_placed, row_placed, few_placed, there_placed, run_after}
use Rattle.self_timed.proofs.layout.Layout.run.Goals as goal

pub sources-requires-clause-guards : goal.sources-requires-clause-guards
sources-requires-clause-guards c =
    let is = c.index-vertices-op.is ∙ ap (λ (l : Laid). get_or l.vertices c.args.decision.now.op c.index-vertices-op.result) c.self.view_is in
    guards_placed c.args.self.now.vertices c.args.self.now.makers c.args.decision.now c.index-vertices-op.result c.requires.shape c.requires.placed is

pub sources-requires-clause-inputs : goal.sources-requires-clause-inputs
sources-requires-clause-inputs c =
    let is = c.index-vertices-op.is ∙ ap (λ (l : Laid). get_or l.vertices c.args.decision.now.op c.index-vertices-op.result) c.self.view_is in
    inputs_placed c.args.self.now.vertices c.args.self.now.makers c.args.decision.now c.index-vertices-op.result c.requires.shape c.requires.placed is

pub note_outputs-requires-clause-row : goal.note_outputs-requires-clause-row
note_outputs-requires-clause-row c =
    let is = c.index-vertices-op.is ∙ ap (λ (l : Laid). get_or l.vertices c.args.decision.now.op c.index-vertices-op.result) c.self.view_is in
    let row = row_placed c.args.self.now.vertices c.args.self.now.makers c.args.decision.now c.index-vertices-op.result c.requires.shape c.requires.placed is in
    let made = subst (λ (l : Laid). HasRow l.makers c.args.decision.now.op (length c.index-vertices-op.result.outs)) (sym c.in_ok-add.ensures.ok) row in
    subst (λ (outs : List ℕ). HasRow c.add.new.self.makers c.args.decision.now.op (length outs)) (sym c.as_slice.ensures) made

pub note_outputs-requires-clause-few : goal.note_outputs-requires-clause-few
note_outputs-requires-clause-few c =
    let is = c.index-vertices-op.is ∙ ap (λ (l : Laid). get_or l.vertices c.args.decision.now.op c.index-vertices-op.result) c.self.view_is in
    let few = few_placed c.args.self.now.vertices c.args.self.now.makers c.args.decision.now c.index-vertices-op.result c.requires.shape c.requires.placed is in
    let outs = ap length c.as_slice.ensures in
    (c.requires.placed.operator, omega arith)

pub returns-clause-shape : goal.returns-clause-shape
returns-clause-shape c =
    let added = subst (λ (l : Laid). HasShape l.vertices l.makers) (sym c.in_ok-add.ensures.ok) c.requires.shape in
    let outputs = map (copy c.args.decision.now.operator) (outputs_from c.args.decision.now.op 0 c.as_slice.result.now) in
    subst (λ (l : Laid). HasShape l.vertices l.makers) (sym c.note_outputs.ensures) (shape_kept_all c.add.new.self.vertices c.add.new.self.makers outputs c.args.decision.now.op added)

pub returns-clause-after : goal.returns-clause-after
returns-clause-after c =
    let is = c.index-vertices-op.is ∙ ap (λ (l : Laid). get_or l.vertices c.args.decision.now.op c.index-vertices-op.result) c.self.view_is in
    let there = there_placed c.args.self.now.vertices c.args.self.now.makers c.args.decision.now c.index-vertices-op.result c.requires.shape c.requires.placed is in
    run_after c.args.self.now c.add.new.self c.note_outputs.new.self c.args.decision.now c.index-vertices-op.result
    c.in_ok-sources.sources.items c.as_slice.result.now there c.in_ok-sources.ensures c.as_slice.ensures c.in_ok-add.ensures.ok c.note_outputs.ensures
