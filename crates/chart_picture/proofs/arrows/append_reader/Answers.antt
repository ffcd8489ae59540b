use Rattle.std.proofs.Common.{◌≡◌, ◌++◌, length, subst, sym, ap, ◌∙◌}
use Rattle.std.specs.Prelude.{OnOk}
use Rattle.std.proofs.lemmas.List.{append-nil}
use Rattle.syn_base.specs.Bytes.{Bytes}
use Rattle.chart_picture.proofs.Reading.{reader_there, reader_past}
use Rattle.chart_picture.proofs.arrows.append_reader.Goals as goal

pub returns-then-runs_on : goal.returns-then-runs_on
returns-then-runs_on c =
    let sheet = c.args.sheet.now in
    subst (λ (l : Bytes). OnOk c.append_link.result (c.append_link.new.out.items ≡ l))
    (ap (λ (l : Bytes). c.args.out.now.items ++ l)
    (sym (reader_there sheet.flat.now.vertices (length sheet.archi.now.operators) sheet.scale c.args.transfer c.args.reader.now
    (sym c.runs_on.ensures ∙ c.if-runs_on.true))))
    c.append_link.ensures

pub returns-else-runs_on : goal.returns-else-runs_on
returns-else-runs_on c =
    let sheet = c.args.sheet.now in
    sym (ap (λ (l : Bytes). c.args.out.now.items ++ l)
    (reader_past sheet.flat.now.vertices (length sheet.archi.now.operators) sheet.scale c.args.transfer c.args.reader.now
    (sym c.runs_on.ensures ∙ c.if-runs_on.false)) ∙ append-nil c.args.out.now.items)
