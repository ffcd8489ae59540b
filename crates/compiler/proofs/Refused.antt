-- From what is read of a text and what is made of it to what its stage answers.
use Rattle.std.proofs.Common.{◌≡◌, ◌∙◌, length, Result, Ok, Err, subst, sym}
use Rattle.std.specs.Prelude.{IfOk}
use Rattle.syn_base.specs.Bytes.{Bytes}
use Rattle.text_lines.specs.Refusals as refusals
use Rattle.text_lines.specs.declared.fault.TextError.TheVariants as error
use Rattle.algo_laws.specs.Refusals.{AlgoError}
use Rattle.algo_laws.specs.declared.Defs.{Defs}
use Rattle.algo_laws.specs.Text.{definitions_of}
use Rattle.algo_laws.specs.Tree.{Vertex}
use Rattle.archi_reader.specs.Given as reader
use Rattle.sequence_build_laws.specs.Text.{description_of, described_by}
use Rattle.sequence_build_laws.specs.declared.ArchiText.{ArchiText}
use Rattle.sequence_build_laws.specs.Refusals.{ArchiError}
use Rattle.sequence_build_laws.specs.Accepted.{AcceptedAreDurations}
use Rattle.sequence_build_laws.specs.DurationLines.{AreDurations}
use Rattle.sequence_build_laws.specs.Table.{durations_of}
use Rattle.sequence_build_laws.specs.Graph.{Graph}
use Rattle.accepted_laws.specs.Elaborated.{elaboration_of}
use Rattle.accepted_laws.specs.FlatOf.{flat_of}
use Rattle.compiler.specs.Compiles.{FindsDurations, MakesAlgorithm, MakesProblem, describes_none, lasts_none, resolves_none}
use Rattle.compiler.specs.declared.stages.Problem.{Problem}

-- the definitions of a text are refused
pub by_definitions : (text : Bytes) (defs : Defs) (e : AlgoError) → definitions_of text ≡ Ok defs → refusals.Gives {A = Vertex} (Err e) (elaboration_of defs) → MakesAlgorithm text (Err e)
by_definitions text defs (error.Refused fault) says h = resolves_none defs says h
by_definitions text defs (error.Limit fault) says h = resolves_none defs says h
by_definitions text defs error.OutOfMemory says h = tt

-- a text is refused
pub by_text : (main : Vertex) (text : Bytes) (e : ArchiError) → refusals.Fails e (description_of text) → MakesProblem main text (Err e)
by_text main text (error.Refused fault) h = describes_none h
by_text main text (error.Limit fault) h = describes_none h
by_text main text error.OutOfMemory h = tt

-- an operation has no duration
pub by_durations : (main : Vertex) (text : Bytes) (t : ArchiText) (g : Graph) (e : ArchiError) → description_of text ≡ Ok (described_by t) → g ≡ flat_of main
    → refusals.Fails e (durations_of g (described_by t)) → MakesProblem main text (Err e)
by_durations main text t g (error.Refused fault) says same h =
    lasts_none (described_by t) says (subst (λ (f : Graph). durations_of f (described_by t) ≡ Err (refusals.Refused fault)) same h)
by_durations main text t g (error.Limit fault) says same h =
    lasts_none (described_by t) says (subst (λ (f : Graph). durations_of f (described_by t) ≡ Err (refusals.Limit fault)) same h)
by_durations main text t g error.OutOfMemory says same h = tt

-- the text of an architecture is accepted, so its durations are for operators
pub are_known : AcceptedAreDurations → (text : Bytes) (r : Result ArchiText ArchiError) → reader.Gives r (description_of text)
    → IfOk r (λ t. AreDurations (length t.archi.operators) t.lines)
are_known law text (Ok t) says = law text (described_by t) says
are_known law text (Err e) says = tt

-- the durations were found for an accepted text and the flat graph, or refused
pub compiled_so : (main : Vertex) (text : Bytes) (t : ArchiText) (g : Graph) (r : Result Problem ArchiError) → description_of text ≡ Ok (described_by t)
    → g ≡ flat_of main → FindsDurations g t r → MakesProblem main text r
compiled_so main text t g (Ok problem) says same (flat, described_text, lasts) = record {
  says = subst (λ (u : ArchiText). description_of text ≡ Ok (described_by u)) (sym described_text) says;
  flattens = flat ∙ same;
  lasts = subst (λ (f : Graph). durations_of f (described_by problem.text) ≡ Ok problem.durations) same
      (subst (λ (u : ArchiText). durations_of g (described_by u) ≡ Ok problem.durations) (sym described_text) lasts);
}
compiled_so main text t g (Err e) says same h = by_durations main text t g e says same h
