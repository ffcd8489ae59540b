-- Which references of a text are marked, and the first that may not be.
use Rattle.std.specs.Prelude.{
  ℕ,
  suc,
  Bool,
  true,
  false,
  ◌&&◌,
  List,
  [],
  ◌∷◌,
  ◌++◌,
  map,
  Option,
  Some,
  None,
  Result,
  Ok,
  Err,
  if◌then◌else◌,
  codes,
}
use Rattle.std.specs.List.{flat_map}
use Rattle.syn_base.specs.Bytes.{Bytes}
use Rattle.algo_laws.specs.Refusals.{AlgoRefusal}
use Rattle.multi_period.specs.declared.mark.Mark.{Mark}
use Rattle.algo_laws.specs.declared.Def.{Def}
use Rattle.algo_laws.specs.declared.Reference.{Reference}
use Rattle.algo_laws.specs.declared.AlgoCause.TheVariants.{BadEvery}
use Rattle.algo_laws.specs.RuleLinks.{fault, first_of, definition, is_main, may_be_inner}
use Rattle.algo_laws.specs.Periods.{references_of}

-- What may have a mark is what may stand in a case: neither a sensor nor an actuator, a constant or a delay.
abbrev pub may_be_marked : Option Def → Bool
may_be_marked None = false
may_be_marked (Some d) = may_be_inner d.body

-- A reference may stand where it has no mark, or may have one.
abbrev pub may_stand_by : Bool → Option ℕ → Bool
may_stand_by may None = true
may_stand_by may (Some n) = may

-- The reference has no mark, or it is in `main` and its definition may be marked.
abbrev pub may_stand : Bytes → Reference → Option Def → Bool
may_stand owner r o = may_stand_by (is_main owner && may_be_marked o) r.every

-- The refusal of a reference in this definition, at its line, if it has a mark and may have none.
abbrev pub bad_by : List Def → Bytes → Reference → Option AlgoRefusal
bad_by ds owner r = if may_stand owner r (definition ds r.def) then None else fault r.line (BadEvery r.name)

-- The first reference with a mark that may have none: one outside `main`, or to what may have no mark.
abbrev pub bad_every : List Def → Option AlgoRefusal
bad_every ds = first_of (flat_map (λ d. map (bad_by ds d.name) (references_of d.body)) ds)

-- A list that holds the mark of reference k, or nothing if it has none.
abbrev pub mark_of : ℕ → Option ℕ → List Mark
mark_of k None = []
mark_of k (Some n) = record { reference = k; every = n } ∷ []

-- The marks on references that stand from place k on.
abbrev pub marks_from : ℕ → List Reference → List Mark
marks_from k [] = []
marks_from k (r ∷ rs) = mark_of k r.every ++ marks_from (suc k) rs

-- The marks on the references of a definition, by the numbers of the references; none if there
-- is no definition.
abbrev pub marks_in : Option Def → List Mark
marks_in None = []
marks_in (Some d) = marks_from 0 (references_of d.body)

-- The marks of the main graph, or this refusal, if there is one.
abbrev pub marking_by : List Def → Option AlgoRefusal → Result (List Mark) AlgoRefusal
marking_by ds None = Ok (marks_in (definition ds (codes "main")))
marking_by ds (Some e) = Err e

-- The marks of the definitions of a text, or their first refusal.
abbrev pub marking_of : List Def → Result (List Mark) AlgoRefusal
marking_of ds = marking_by ds (bad_every ds)
