use Rattle.std.proofs.Common.{length, refl, ap}
use Rattle.schedule.specs.declared.setting.Setting.{Setting}
use Rattle.schedule.proofs.Decided.{Asked, asked_of, then_decided, else_decided}
use Rattle.schedule.proofs.check.is_valid.Goals as goal

pub returns-then-are_in_line : goal.returns-then-are_in_line
returns-then-are_in_line c =
    let s : Setting = record { vertices = c.vertices.result; operators = length c.operators.result.now; media = c.media.result; durations = c.args.durations } in
    let asked : Asked s c.args.flat.now c.args.archi.now c.args.durations.now =
    asked_of s c.args.flat.now c.args.archi.now c.args.durations.now c.vertices.ensures.same
    (ap length c.operators.ensures.same) c.media.ensures.same refl c.vertices.ensures.valid c.operators.ensures.valid in
    then_decided s c.args.flat.now c.args.archi.now c.args.durations.now asked c.new-lines.result c.new-lines.ensures c.as_slice-decisions.result.now c.args.schedule.now c.as_slice-decisions.ensures
    c.are_in_line.result c.are_fed.result c.are_in_line.ensures c.if-are_in_line.true c.are_fed.ensures

pub returns-else-are_in_line : goal.returns-else-are_in_line
returns-else-are_in_line c =
    let s : Setting = record { vertices = c.vertices.result; operators = length c.operators.result.now; media = c.media.result; durations = c.args.durations } in
    let asked : Asked s c.args.flat.now c.args.archi.now c.args.durations.now =
    asked_of s c.args.flat.now c.args.archi.now c.args.durations.now c.vertices.ensures.same
    (ap length c.operators.ensures.same) c.media.ensures.same refl c.vertices.ensures.valid c.operators.ensures.valid in
    else_decided s c.args.flat.now c.args.archi.now c.args.durations.now asked c.new-lines.result c.new-lines.ensures c.as_slice-decisions.result.now c.args.schedule.now c.as_slice-decisions.ensures
    c.are_in_line.result c.are_in_line.ensures c.if-are_in_line.false
