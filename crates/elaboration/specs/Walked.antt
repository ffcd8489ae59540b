-- The references of one definition, and of several.
use Rattle.std.specs.Prelude.{ℕ, List, map, Option}
use Rattle.std.specs.List.{flat_map, position_or_len}
use Rattle.std.specs.Str.{bytes_eq}
use Rattle.syn_base.specs.Bytes.{Bytes}
use Rattle.algo_laws.specs.Refusals.{AlgoRefusal}
use Rattle.elaboration.specs.Marking.{bad_by}
use Rattle.algo_laws.specs.declared.Def.{Def}
use Rattle.algo_laws.specs.declared.Reference.{Reference}
use Rattle.algo_laws.specs.RuleLinks.{first_of}
use Rattle.algo_laws.specs.Periods.{references_of}

-- where the definition that a reference names stands
abbrev pub place_of : List Def → Reference → ℕ
place_of ds r = position_or_len (λ e. bytes_eq r.def e.name) ds

abbrev pub places_in : List Def → List Reference → List ℕ
places_in ds rs = map (place_of ds) rs

abbrev pub bad_in : List Def → Bytes → List Reference → Option AlgoRefusal
bad_in ds owner rs = first_of (map (bad_by ds owner) rs)

abbrev pub bad_of : List Def → Def → Option AlgoRefusal
bad_of ds d = bad_in ds d.name (references_of d.body)

-- the same of these owners
abbrev pub bad_all : List Def → List Def → Option AlgoRefusal
bad_all ds owners = first_of (flat_map (λ d. map (bad_by ds d.name) (references_of d.body)) owners)
