use Rattle.std.proofs.Common.{length, Result, Ok, Err}
use Rattle.std.specs.Prelude.{IfOk}
use Rattle.syn_base.specs.Bytes.{Bytes}
use Rattle.archi_defs.specs.Text.{described_by, description_of}
use Rattle.archi_defs.specs.declared.text.ArchiText.{ArchiText}
use Rattle.archi_defs.specs.Refusals.{ArchiError}
use Rattle.archi_reader.specs.Given.{Gives}
use Rattle.durations.specs.Accepted.{AcceptedAreDurations}
use Rattle.durations.specs.Lines.{AreDurations}
use Rattle.chart_lengths.proofs.description.Goals as goal

are_known : AcceptedAreDurations → (text : Bytes) (r : Result ArchiText ArchiError) → Gives r (description_of text) → IfOk r (λ t. AreDurations (length t.archi.operators) t.lines)
are_known law text (Ok t) says = law text (described_by t) says
are_known law text (Err e) says = tt

pub returns : goal.returns
returns c = are_known c.accepted_are_durations.ensures c.args.text.now c.read_archi.result c.read_archi.ensures
