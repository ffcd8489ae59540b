use Rattle.std.proofs.Common.{List, [], ◌∷◌, ◌++◌, ap, sym, subst, ◌∙◌}
use Rattle.std.specs.Prelude.{not, slice_set, if◌then◌else◌}
use Rattle.std.specs.List.{list_any}
use Rattle.std.specs.Str.{bytes_eq}
use Rattle.archi_defs.specs.declared.text.DurationLine.{DurationLine}
use Rattle.syn_base.specs.Bytes.{Bytes}
use Rattle.archi_reader.specs.Durations.{AreGiven}
use Rattle.archi_reader.proofs.Tables.{given_more, table_at}
use Rattle.archi_reader.proofs.durations.Durations.add.Goals as goal

pub invariant_of-self-in-Ok : goal.invariant_of-self-in-Ok
invariant_of-self-in-Ok c =
    let tables = c.self.inside.given.items in
    let w = c.args.word.now in
    let d : DurationLine = record { def = c.args.def; operator = c.args.operator; ticks = c.args.ticks } in
    let at = table_at tables c.args.operator c.index_mut.result.now c.self.invariant.sixteen c.requires.known c.index_mut.ensures.value in
    let added = c.in-Ok.ensures in
    subst (λ (lines : List DurationLine). AreGiven (slice_set tables c.args.operator c.add.new.self) lines) (sym c.in_ok-push.ensures.items)
    (given_more tables c.self.inside.lines.items w d c.in-Ok.field-0 c.add.new.self c.self.invariant c.requires.known c.requires.same
    (added.new ∙ ap (λ (t : List Bytes). not (list_any (bytes_eq w) t)) at)
    (added.after ∙ ap (λ (t : List Bytes). if c.in-Ok.field-0 then t ++ w ∷ [] else t) at))
