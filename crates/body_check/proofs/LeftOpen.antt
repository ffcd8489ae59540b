-- Ends into which no edge leads.
use Rattle.std.proofs.Common.{◌≡◌, ℕ, zero, suc, ◌+◌, ◌<◌, List, [], ◌∷◌, ◌++◌, length, map, drop, get_or, sym, ◌∙◌, subst, ap, arith, add-one, drop-cons}
use Rattle.std.specs.Prelude.{Option, Some, None, Err, slice_get, slice_index_or}
use Rattle.std.proofs.lemmas.List.{get_or_default}
use Rattle.algo_rules.specs.declared.Port.{Port}
use Rattle.algo_rules.specs.declared.Def.{Def}
use Rattle.algo_rules.specs.declared.Edge.{Edge}
use Rattle.algo_rules.specs.declared.Reference.{Reference}
use Rattle.algo_rules.specs.declared.ports.Ports.{Ports}
use Rattle.algo_rules.specs.Links.{definition, first_of}
use Rattle.algo_rules.specs.Ports.{no_ports, ports_of}
use Rattle.algo_rules.specs.Graphs.{open_fault}
use Rattle.algo_rules.specs.Placed.{ArePlaced, Checks}
use Rattle.body_check.specs.Parts.{of, own}
use Rattle.body_check.specs.declared.parts.GraphParts.{GraphParts}
use Rattle.body_check.proofs.Steps.{first_stops, first_passes}
use Rattle.algo_rules.specs.Refusals.{AlgoError, AlgoRefusal}

-- what the k-th reference names stands at the k-th place
pub record IsThere (ds : List Def) (table : List Ports) (rs : List Reference) (places : List ℕ) (k : ℕ) : Type 0 where
  pub place : k < length places
  pub below : slice_index_or places k 0 < length ds
  pub in_table : slice_index_or places k 0 < length table
  pub found : (d : Reference) → definition ds (get_or rs k d).def ≡ slice_get ds (slice_index_or places k 0)
  pub ports : (d : Reference) (p : Ports) → slice_index_or table (slice_index_or places k 0) p ≡ ports_of ds (get_or rs k d).def

pub are_there : (ds : List Def) (table : List Ports) (rs : List Reference) (places : List ℕ) → ArePlaced ds table (map (λ r. r.def) rs) places → (k : ℕ) → k < length rs → IsThere ds table rs places k
are_there ds table [] places h k lt = absurd (omega arith)
are_there ds table (r ∷ rs) [] h k lt = absurd h
are_there ds table (r ∷ rs) (p ∷ ps) h zero lt = record {
  place = omega arith;
  below = h.0.below;
  in_table = h.0.in_table;
  found = λ d. h.0.found;
  ports = λ d q. get_or_default table p q no_ports h.0.in_table ∙ h.0.ports;
}
are_there ds table (r ∷ rs) (p ∷ ps) h (suc k) lt =
    let i = are_there ds table rs ps h.1 k (omega arith) in
    let below : k < length ps = i.place in
    record {
      place = omega arith;
      below = i.below;
      in_table = i.in_table;
      found = i.found;
      ports = i.ports;
    }

-- the faults of these references, and then of the outputs
abbrev pub open_at : GraphParts → List Edge → Reference → Option AlgoRefusal
open_at g edges r = open_fault (of g) (own g) g.references.now edges r.line (Some r.name) (of g r.def).ins

abbrev pub left_open : GraphParts → List Edge → List Reference → List (Option AlgoRefusal)
left_open g edges rs = map (open_at g edges) rs ++ open_fault (of g) (own g) g.references.now edges g.line None (own g).outs ∷ []

first_open : (g : GraphParts) (edges : List Edge) (rs : List Reference) (k : ℕ) (d : Reference) → k < length rs
    → first_of (left_open g edges (drop k rs)) ≡ first_of (open_at g edges (get_or rs k d) ∷ left_open g edges (drop (k + 1) rs))
first_open g edges rs k d lt = rw add-one (ap (λ (rs : List Reference). first_of (left_open g edges rs)) (drop-cons rs k d lt))

open_is : (g : GraphParts) (edges : List Edge) (rs : List Reference) (k : ℕ) (r : Reference) (ins : List Port) → r ≡ get_or rs k r → ins ≡ (of g r.def).ins
    → open_fault (of g) (own g) g.references.now edges r.line (Some r.name) ins ≡ open_at g edges (get_or rs k r)
open_is g edges rs k r ins at is = ap (λ (ins : List Port). open_fault (of g) (own g) g.references.now edges r.line (Some r.name) ins) is ∙ ap (λ (r : Reference). open_at g edges r) at

pub open_passes : (g : GraphParts) (edges : List Edge) (rs : List Reference) (k : ℕ) (r : Reference) (ins : List Port) → r ≡ get_or rs k r → ins ≡ (of g r.def).ins → k < length rs
    → open_fault (of g) (own g) g.references.now edges r.line (Some r.name) ins ≡ None → first_of (left_open g edges (drop (k + 1) rs)) ≡ first_of (left_open g edges (drop k rs))
open_passes g edges rs k r ins at is lt none =
    sym (first_open g edges rs k r lt ∙ first_passes (open_at g edges (get_or rs k r)) (left_open g edges (drop (k + 1) rs)) (sym (open_is g edges rs k r ins at is) ∙ none))

pub open_stops : (g : GraphParts) (edges : List Edge) (rs : List Reference) (k : ℕ) (r : Reference) (ins : List Port) (e : AlgoError) (all : Option AlgoRefusal)
    → r ≡ get_or rs k r → ins ≡ (of g r.def).ins → k < length rs → first_of (left_open g edges (drop k rs)) ≡ all
    → Checks {A = Unit {0}} (Err e) (open_fault (of g) (own g) g.references.now edges r.line (Some r.name) ins) → Checks {A = Unit {0}} (Err e) all
open_stops g edges rs k r ins e all at is lt rest stops =
    subst (λ (x : Option AlgoRefusal). Checks {A = Unit {0}} (Err e) x) (sym (first_open g edges rs k r lt) ∙ rest)
    (first_stops e (open_at g edges (get_or rs k r)) (left_open g edges (drop (k + 1) rs))
    (subst (λ (x : Option AlgoRefusal). Checks {A = Unit {0}} (Err e) x) (open_is g edges rs k r ins at is) stops))
