-- Where each edge is accepted, references depend on references that are there.
use Rattle.std.proofs.Common.{◌≡◌, ℕ, zero, suc, ◌<◌, Bool, true, false, List, [], ◌∷◌, ◌++◌, length, map, refl, sym, subst, ap, arith, inl, inr}
use Rattle.std.specs.Prelude.{Option, Some, None, if◌then◌else◌}
use Rattle.std.specs.List.{All, list_any}
use Rattle.std.proofs.lemmas.Bool.{cases_lt}
use Rattle.std.proofs.lemmas.List.{length-map}
use Rattle.std.proofs.lemmas.List.Elements.{All-append}
use Rattle.syn_base.specs.Bytes.{Bytes}
use Rattle.algo_rules.specs.declared.Edge.{Edge}
use Rattle.algo_rules.specs.Answer.{AreInside}
use Rattle.algo_rules.specs.declared.ports.Ports.{Ports}
use Rattle.algo_rules.specs.Links.{first_of}
use Rattle.algo_rules.specs.Graphs.{dependences, edge_fault, edge_faults, joins, leads_to, place, port_len, source_of, sources}
use Rattle.body_check.specs.Parts.{of, own, named, givers}
use Rattle.body_check.specs.declared.parts.GraphParts.{GraphParts}
use Rattle.body_check.proofs.NamesFound.{no_reference}
use Rattle.body_check.proofs.Depends.{is_delayed}
use Rattle.algo_rules.specs.Refusals.{AlgoRefusal}

all_none : (P : ℕ → Type 0) → All P []
all_none P k d lt = absurd (omega arith)

all_one : (P : ℕ → Type 0) (a : ℕ) → P a → All P (a ∷ [])
all_one P a h zero d lt = h
all_one P a h (suc k) d lt = absurd (omega arith)

all_map : {X : Type 0} (P : List ℕ → Type 0) (f : X → List ℕ) → ((x : X) → P (f x)) → (xs : List X) → All P (map f xs)
all_map P f h [] k d lt = absurd (omega arith)
all_map P f h (x ∷ xs) zero d lt = h x
all_map P f h (x ∷ xs) (suc k) d lt = all_map P f h xs k d (omega arith)

-- none of a list is none at its head and none after
head_none : (x : Option AlgoRefusal) (xs : List (Option AlgoRefusal)) → first_of (x ∷ xs) ≡ None → (x ≡ None) × (first_of xs ≡ None)
head_none None xs h = (refl, h)
head_none (Some e) xs h = absurd (cc)

module _ (g : GraphParts) where
  from_there : (before : List Edge) (e : Edge) (x y : Option ℕ) → joins (of g) (own g) g.references.now before e x y ≡ None → (n : ℕ) × (x ≡ Some n)
  from_there before e None y h = absurd (cc)
  from_there before e (Some n) y h = (n, refl)

  owner_there : (s w : Bytes) (n : ℕ) → port_len (named g s).outs w ≡ Some n → place g.references.now s < length g.references.now
  owner_there s w n h = elim (cases_lt (place g.references.now s) (length g.references.now)) [
    | inl lt ↦ lt
    | inr le ↦ (let e : named g s ≡ _ = no_reference (of g) g.references.now s le in
        let gone : port_len (named g s).outs w ≡ None = ap (λ (p : Ports). port_len p.outs w) e in absurd (cc))
  ]

  abbrev Inside : List ℕ → Type 0
  Inside ks = All (λ b. b < length g.references.now) ks

  source_inside : (o : Option Bytes) (w : Bytes) (n : ℕ) → port_len (givers g o) w ≡ Some n → Inside (source_of g.defs.now g.references.now o)
  source_inside None w n h = all_none (λ b. b < length g.references.now)
  source_inside (Some s) w n h = by (list_any (is_delayed g.defs.now g.references.now s) g.references.now) (owner_there s w n h)
    where
      by : (b : Bool) → place g.references.now s < length g.references.now → All (λ b. b < length g.references.now) (if b then [] else place g.references.now s ∷ [])
      by true lt = all_none (λ b. b < length g.references.now)
      by false lt = all_one (λ b. b < length g.references.now) (place g.references.now s) lt

  sources_inside : (before es : List Edge) → first_of (edge_faults (of g) (own g) g.references.now before es) ≡ None → (w : Bytes) → Inside (sources g.defs.now g.references.now es w)
  sources_inside before [] h w = all_none (λ b. b < length g.references.now)
  sources_inside before (e ∷ es) h w =
      let p = head_none (edge_fault (of g) (own g) g.references.now before e) (edge_faults (of g) (own g) g.references.now (before ++ e ∷ []) es) h in
      let x = from_there before e _ _ p.0 in
      All-append (λ b. b < length g.references.now) (if leads_to g.defs.now g.references.now w e.to.owner then source_of g.defs.now g.references.now e.from.owner else [])
      (sources g.defs.now g.references.now es w)
      (by (leads_to g.defs.now g.references.now w e.to.owner) (source_inside e.from.owner e.from.port x.0 x.1))
      (sources_inside (before ++ e ∷ []) es p.1 w)
    where
      by : (b : Bool) → All (λ b. b < length g.references.now) (source_of g.defs.now g.references.now e.from.owner)
          → All (λ b. b < length g.references.now) (if b then source_of g.defs.now g.references.now e.from.owner else [])
      by true i = i
      by false i = all_none (λ b. b < length g.references.now)

  pub are_inside : first_of (edge_faults (of g) (own g) g.references.now [] g.edges.now) ≡ None → AreInside (dependences g.defs.now g.references.now g.edges.now)
  are_inside h =
      let n : length g.references.now
      ≡ length (dependences g.defs.now g.references.now g.edges.now) =
      sym (length-map g.references.now (λ r. sources g.defs.now g.references.now g.edges.now r.name)) in
      subst (λ (n : ℕ). All (All (λ b. b < n)) (dependences g.defs.now g.references.now g.edges.now)) n
      (all_map (λ ks. All (λ b. b < length g.references.now) ks) (λ r. sources g.defs.now g.references.now g.edges.now r.name) (λ r. sources_inside [] g.edges.now h r.name) g.references.now)
