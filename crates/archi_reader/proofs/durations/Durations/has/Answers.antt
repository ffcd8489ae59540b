use Rattle.std.proofs.Common.{List, ap, ◌∙◌}
use Rattle.std.specs.Prelude.{is_some}
use Rattle.std.specs.List.{list_any}
use Rattle.std.specs.Str.{bytes_eq}
use Rattle.archi_defs.specs.declared.text.DurationLine.{DurationLine}
use Rattle.syn_base.specs.Bytes.{Bytes}
use Rattle.archi_reader.specs.Durations.{is_given}
use Rattle.archi_reader.proofs.Places.{some_place}
use Rattle.archi_reader.proofs.Tables.{table_at}
use Rattle.archi_reader.proofs.durations.Durations.has.Goals as goal

pub returns : goal.returns
returns c =
    let def = c.args.def.now in
    let at = table_at c.self.inside.given.items c.args.operator c.index.result.now c.self.invariant.sixteen c.requires c.index.ensures in
    c.is_some.ensures ∙ ap is_some c.find.ensures ∙ some_place (bytes_eq def) c.index.result.now
    ∙ ap (λ (t : List Bytes). list_any (bytes_eq def) t) at ∙ c.self.invariant.found def c.args.operator
    ∙ ap (λ (lines : List DurationLine). is_given lines def c.args.operator) c.self.view_is
