-- What the stages of the compiler answer.
use Rattle.std.specs.Prelude.{◌≡◌, Result, Ok, Err}
use Rattle.syn_base.specs.Bytes.{Bytes}
use Rattle.text_lines.specs.declared.fault.TextError.TheVariants as error
use Rattle.text_lines.specs.Refusals.{Refused, Limit, Fails}
use Rattle.algo_laws.specs.Refusals.{AlgoError, AlgoRefusal}
use Rattle.algo_laws.specs.declared.Defs.{Defs}
use Rattle.algo_laws.specs.Text.{definitions_of}
use Rattle.algo_laws.specs.Tree.{Vertex}
use Rattle.sequence_build_laws.specs.Text.{Described, description_of, described_by}
use Rattle.sequence_build_laws.specs.declared.ArchiText.{ArchiText}
use Rattle.sequence_build_laws.specs.Refusals.{ArchiError, ArchiRefusal}
use Rattle.sequence_build_laws.specs.Table.{durations_of}
use Rattle.sequence_build_laws.specs.Graph.{Graph}
use Rattle.accepted_laws.specs.Elaborated.{elaboration_of}
use Rattle.accepted_laws.specs.FlatOf.{flat_of}
use Rattle.compiler.specs.declared.stages.Algorithm.{Algorithm}
use Rattle.compiler.specs.declared.stages.Problem.{Problem}

-- the definitions of a text, and the tree that they mean
pub record IsAlgorithm (text : Bytes) (algorithm : Algorithm) : Type 0 where
  pub says : definitions_of text ≡ Ok algorithm.defs
  pub resolves : elaboration_of algorithm.defs ≡ Ok algorithm.tree

-- the first refusal of a text, by itself or by its definitions
pub data IsRefused (text : Bytes) (refusal : AlgoRefusal) : Type 0 where
  says_none : definitions_of text ≡ Err refusal → IsRefused text refusal
  resolves_none : (defs : Defs) → definitions_of text ≡ Ok defs → elaboration_of defs ≡ Err refusal →
      IsRefused text refusal

-- the algorithm of a text or its first refusal; want of memory may come in place of either
abbrev pub MakesAlgorithm : Bytes → Result Algorithm AlgoError → Type 0
MakesAlgorithm text (Ok algorithm) = IsAlgorithm text algorithm
MakesAlgorithm text (Err (error.Refused fault)) = IsRefused text (Refused fault)
MakesAlgorithm text (Err (error.Limit fault)) = IsRefused text (Limit fault)
MakesAlgorithm text (Err error.OutOfMemory) = Unit {0}

-- the durations of a problem are those of its flat graph by its text
abbrev pub HasDurations : Problem → Type 0
HasDurations problem = durations_of problem.flat (described_by problem.text) ≡ Ok problem.durations

-- the durations of this flat graph by this text, or the first operation without any; or want of memory
abbrev pub FindsDurations : Graph → ArchiText → Result Problem ArchiError → Type 0
FindsDurations graph text (Ok problem) =
    (problem.flat ≡ graph) × (problem.text ≡ text) ×
    (durations_of graph (described_by text) ≡ Ok problem.durations)
FindsDurations graph text (Err error) = Fails error (durations_of graph (described_by text))

-- what a text describes, the flat graph of this algorithm, and how long its operations last by the text
pub record IsProblem (main : Vertex) (text : Bytes) (problem : Problem) : Type 0 where
  pub says : description_of text ≡ Ok (described_by problem.text)
  pub flattens : problem.flat ≡ flat_of main
  pub lasts : durations_of (flat_of main) (described_by problem.text) ≡ Ok problem.durations

-- the first refusal of a text, by itself or for an operation without a duration
pub data IsProblemRefused (main : Vertex) (text : Bytes) (refusal : ArchiRefusal) : Type 0 where
  describes_none : description_of text ≡ Err refusal → IsProblemRefused main text refusal
  lasts_none : (d : Described) → description_of text ≡ Ok d → durations_of (flat_of main) d ≡ Err refusal →
      IsProblemRefused main text refusal

-- the problem of an algorithm and a text, or the first refusal; want of memory may come in place of either
abbrev pub MakesProblem : Vertex → Bytes → Result Problem ArchiError → Type 0
MakesProblem main text (Ok problem) = IsProblem main text problem
MakesProblem main text (Err (error.Refused fault)) = IsProblemRefused main text (Refused fault)
MakesProblem main text (Err (error.Limit fault)) = IsProblemRefused main text (Limit fault)
MakesProblem main text (Err error.OutOfMemory) = Unit {0}
