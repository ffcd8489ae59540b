use Rattle.std.proofs.Common.{◌≡◌, ◌++◌, ap, sym, append_assoc, ◌∙◌}
use Rattle.std.specs.Prelude.{slice_get}
use Rattle.std.proofs.lemmas.Result.{on_ok_weaker}
use Rattle.syn_base.specs.Bytes.{Bytes}
use Rattle.self_timed.specs.Acts.{run, sources_of}
use Rattle.trace_events.specs.declared.event.Reader.{Reader}
use Rattle.trace_events.specs.Events.{slice_text}
use Rattle.trace_events.specs.Printed.{arrived}
use Rattle.trace_events.specs.Trace.{reader_in, slice_of}
use Rattle.trace_events.proofs.Texts.{operation_text}
use Rattle.trace_events.proofs.act.append_operation.Goals as goal

pub returns : goal.returns
returns c =
    let vs = c.args.traced.now.vertices.now in
    let os = c.args.traced.now.operators.now in
    let ds = c.args.traced.now.decisions.now in
    let m = c.args.moment in
    let d = c.args.decision.now in
    let old = c.args.out.now.items in
    let middle = c.append_operation_slice.new.out.items in
    let new = c.append_reads.new.out.items in
    let sources = sources_of (slice_get vs d.op) in
    let slice = slice_text (slice_of vs os m (run d)) in
    let rest = arrived ds (reader_in m (run d)) sources in
    on_ok_weaker c.append_reads.result (λ (e : new ≡ middle ++ arrived ds c.operation_reader-reader.result sources).
    e ∙ ap (λ (r : Reader). middle ++ arrived ds r sources) c.operation_reader-reader.ensures
    ∙ ap (λ (b : Bytes). b ++ rest) c.in_ok-append_operation_slice.ensures
    ∙ append_assoc old slice rest
    ∙ ap (λ (b : Bytes). old ++ b) (sym (operation_text vs os ds m d))) c.append_reads.ensures
