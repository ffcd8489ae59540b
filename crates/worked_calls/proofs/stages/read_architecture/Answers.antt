use Rattle.std.proofs.Common.{length, Result, Ok, Err}
use Rattle.std.specs.Prelude.{IfOk}
use Rattle.syn_base.specs.Bytes.{Bytes}
use Rattle.archi_reader.specs.Given.{Gives}
use Rattle.sequence_build_laws.specs.Text.{described_by, description_of}
use Rattle.sequence_build_laws.specs.declared.ArchiText.{ArchiText}
use Rattle.sequence_build_laws.specs.Refusals.{ArchiError}
use Rattle.sequence_build_laws.specs.Accepted.{AcceptedAreDurations}
use Rattle.sequence_build_laws.specs.DurationLines.{AreDurations}
use Rattle.worked_calls.proofs.stages.read_architecture.Goals as goal

are_known : AcceptedAreDurations → (text : Bytes) (r : Result ArchiText ArchiError) → Gives r (description_of text) → IfOk r (λ t. AreDurations (length t.archi.operators) t.lines)
are_known law text (Ok t) says = law text (described_by t) says
are_known law text (Err e) says = tt

pub returns : goal.returns
returns c = are_known c.accepted_are_durations.ensures c.args.text.now c.read_archi.result c.read_archi.ensures
