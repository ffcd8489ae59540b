-- The lines that name definitions, over the names of all definitions in order.
use Rattle.std.specs.Prelude.{ℕ, List, map, position, Option, Some, None}
use Rattle.std.specs.List.{flat_map, position_or_len}
use Rattle.std.specs.Str.{bytes_eq}
use Rattle.syn_base.specs.Bytes.{Bytes}
use Rattle.algo_rules.specs.Refusals.{AlgoRefusal}
use Rattle.algo_rules.specs.declared.Def.{Def}
use Rattle.algo_rules.specs.declared.AlgoCause.TheVariants.{UnknownName}
use Rattle.algo_rules.specs.Links.{fault, first_of, Mention, mentions, misplaced_by}

-- The names of the definitions, in order.
abbrev pub names_of : List Def → List Bytes
names_of ds = map (λ d. d.name) ds

abbrev pub unknown_at : Mention → Option ℕ → Option AlgoRefusal
unknown_at m None = fault m.line (UnknownName m.def)
unknown_at m (Some p) = None

-- the refusal of a line that names none of these
abbrev pub unknown_one : List Bytes → Mention → Option AlgoRefusal
unknown_one names m = unknown_at m (position (bytes_eq m.def) names)

abbrev pub unknown_in : List Bytes → List Mention → Option AlgoRefusal
unknown_in names ms = first_of (map (unknown_one names) ms)

abbrev pub unknown_all : List Bytes → List Def → Option AlgoRefusal
unknown_all names ds = first_of (flat_map (λ d. map (unknown_one names) (mentions d)) ds)

-- where the name of a line stands among these
abbrev pub place_one : List Bytes → Mention → ℕ
place_one names m = position_or_len (bytes_eq m.def) names

abbrev pub places_in : List Bytes → List Mention → List ℕ
places_in names ms = map (place_one names) ms

abbrev pub places_all : List Bytes → List Def → List (List ℕ)
places_all names ds = map (λ d. places_in names (mentions d)) ds

-- where the definition that a line names stands
abbrev pub place_of : List Def → Mention → ℕ
place_of ds m = position_or_len (λ e. bytes_eq m.def e.name) ds

abbrev pub places_of : List Def → List Mention → List ℕ
places_of ds ms = map (place_of ds) ms

-- the first line of an owner that names what may not stand there
abbrev pub misplaced_in : List Def → Bytes → List Mention → Option AlgoRefusal
misplaced_in ds owner ms = first_of (map (misplaced_by ds owner) ms)

-- the same over these owners
abbrev pub misplaced_all : List Def → List Def → Option AlgoRefusal
misplaced_all ds owners = first_of (flat_map (λ d. map (misplaced_by ds d.name) (mentions d)) owners)
